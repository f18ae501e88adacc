use Rattle.std.proofs.Common.{◌≡◌, ◌+◌, ◌++◌, [], ◌∷◌, take, sym, ap, ◌∙◌, arith}
use Rattle.std.proofs.lemmas.Bool.Decides.{nat_tests}
use Rattle.std.proofs.lemmas.List.{take_more}
use Rattle.nr_entry.specs.declared.run.Run.{Run}
use Rattle.nr_entry.specs.Runs.{holds}
use Rattle.nr_entry.proofs.Choosing.{room_for_next, chose_next}
use Rattle.nr_entry.proofs.runs.choose.Goals as goal

pub overflow_sub-room : goal.overflow_sub-room
overflow_sub-room c =
    room_for_next c.args.updates c.args.most (take c.loop-index.index c.args.runs.now) c.loop-index.counts.items c.loop-index.room
    (holds c.loop-index.blocked) c.index-runs-index.result c.count_leading-count.result
    (record {
      marks = c.loop-index.invariant.marks;
      left = c.loop-index.invariant.room;
      within = c.loop-index.invariant.within;
      total = c.loop-index.invariant.total;
      block = λ _. c.loop-index.invariant.blocked (grind (arith, nat_tests));
    })
    c.count_leading-count.ensures

pub loop-index-preserved : goal.loop-index-preserved
loop-index-preserved c =
    let more : take (c.loop-index.index + 1) c.args.runs.now ≡ take c.loop-index.index c.args.runs.now ++ c.index-runs-index.result ∷ [] =
    take_more c.args.runs.now c.loop-index.index c.index-runs-index.result (omega arith)
    ∙ ap (λ (r : Run). take c.loop-index.index c.args.runs.now ++ r ∷ []) (sym c.index-runs-index.is) in
    let ch = chose_next c.args.updates c.args.most (take c.loop-index.index c.args.runs.now) c.loop-index.counts.items c.loop-index.room
    (holds c.loop-index.blocked) (holds c.block.new.blocked) c.index-runs-index.result c.count_leading-count.result _ c.is_cut.result
    (record {
      marks = c.loop-index.invariant.marks;
      left = c.loop-index.invariant.room;
      within = c.loop-index.invariant.within;
      total = c.loop-index.invariant.total;
      block = λ _. c.loop-index.invariant.blocked (grind (arith, nat_tests));
    })
    c.count_leading-count.ensures c.is_cut.ensures c.in_ok-block.ensures in
    rw (more, c.in_ok-push.ensures.items) (record { marks = ch.marks; room = ch.left; within = ch.within; total = ch.total; blocked = ch.block })
