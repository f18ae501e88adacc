use Rattle.std.proofs.Common.{sym, ◌∙◌, ap, length, rules, refl}
use Rattle.nr_model.specs.Bytes.{Bytes}
use Rattle.nr_model.specs.SortedSets.{Scored, ranked}
use Rattle.nr_model.specs.declared.command.Direction.TheVariants.{Ascending}
use Rattle.nr_zsets.specs.Forms.{items_of}
use Rattle.nr_zsets.proofs.Ranked.{found_place, length-ranked, rank_there, rank_missing}
use Rattle.nr_zsets.proofs.zset.Zset.place.Goals as goal

pub returns-in_default-clause-place : goal.returns-in_default-clause-place
returns-in_default-clause-place g c = rank_missing Ascending c.args.self.now c.args.member.now (sym c.in_default.ensures)

pub returns-clause-place : goal.returns-clause-place
returns-clause-place g c =
    let x : Scored = (c.args.member.now, c.in-Some.score) in
    let same = ap (λ (m : Bytes). let named : Scored = (m, c.in-Some.score) in named) c.bytes-member.ensures in
    let place = found_place (items_of c.self.inside.form) c.args.self.now x (c.bytes-member.result.now, c.in-Some.score) c.place_of.result
    (c.self.invariant.ordered ∙ ap ranked c.self.view_is) same (search (rules, c.place_of.ensures.place)) in
    rank_there Ascending c.args.self.now x c.place_of.result (length (ranked c.args.self.now)) (sym c.in-Some.ensures) place refl

pub returns-clause-cost : goal.returns-clause-cost
returns-clause-cost g c = λ d few.
    let size = ap length (c.self.invariant.ordered ∙ ap ranked c.self.view_is) ∙ length-ranked c.args.self.now in
    c.place_of.ensures.cost d (rw size few)
