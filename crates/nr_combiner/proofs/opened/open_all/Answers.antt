use Rattle.std.proofs.Common.{rules, ◌≡◌, ◌+◌, ◌∷◌, [], length, ap, ◌∙◌, length-append}
use Rattle.nr_slots.specs.Seats.{SlotsView}
use Rattle.nr_combiner.proofs.Seated.{none_of, one_added}
use Rattle.nr_combiner.proofs.opened.open_all.Goals as goal

pub loop-init : goal.loop-init
loop-init c = (search rules, none_of _ _ (search rules))

pub loop-preserved : goal.loop-preserved
loop-preserved c =
    let all = c.loop.all.items in
    let one = c.in_ok-open_one.field-0 in
    let more : length c.push.new.self.items ≡ length all + 1 = ap length c.in_ok-push.ensures.items ∙ length-append all (one ∷ []) in (
      more ∙ ap (λ k. k + 1) c.loop.invariant.0,
      one_added all c.push.new.self.items one (λ node (slots : SlotsView). slots.workers ≡ c.args.workers) c.in_ok-push.ensures.items c.in_ok-open_one.ensures
          c.loop.invariant.1,
    )
