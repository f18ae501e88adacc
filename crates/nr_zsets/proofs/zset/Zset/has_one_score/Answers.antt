use Rattle.std.proofs.Common.{◌≡◌, ◌-◌, Some, rules, w64, to_z, of_z, ap, sym, ◌∙◌}
use Rattle.std.specs.Cmp.{unsigned_Decides}
use Rattle.std.specs.List.{slice_get}
use Rattle.nr_model.specs.SortedSets.{ranked}
use Rattle.nr_zsets.specs.Forms.{items_of}
use Rattle.nr_zsets.proofs.Ranges.{one_score, score_shared, last_place}
use Rattle.nr_zsets.proofs.zset.Zset.has_one_score.Goals as goal

pub returns-clause-one : goal.returns-clause-one
returns-clause-one c = λ same.
    let xs = (items_of c.self.inside.form) in
    let is = c.self.invariant.ordered ∙ ap ranked c.self.view_is in
    let first = c.in-Some.first in
    let last = c.in-Some-get.last in
    let bits = (unsigned_Decides (of_z w64 first) (of_z w64 last)).0 same in
    let a : to_z w64 (of_z w64 first) ≡ first = search rules in
    let b : to_z w64 (of_z w64 last) ≡ last = search rules in
    let at_first : Some (c.in-Some.field-0-0.now, first) ≡ slice_get xs 0 = search (rules, c.in-Some.ensures) in
    let at_last : Some (c.in-Some-get.field-0-0.now, last) ≡ slice_get xs (c.len.result - 1) = search (rules, c.in-Some-get.ensures) in
    one_score c.args.self.now (c.len.result - 1) (c.in-Some.field-0-0.now, first) (c.in-Some-get.field-0-0.now, last)
    (ap (λ ys. slice_get ys 0) (sym is) ∙ sym at_first) (ap (λ ys. slice_get ys (c.len.result - 1)) (sym is) ∙ sym at_last)
    (last_place xs (ranked c.args.self.now) c.len.result is c.len.ensures (c.in-Some.field-0-0.now, first) at_first)
    (sym a ∙ ap (to_z w64) bits ∙ b)

pub returns-clause-all : goal.returns-clause-all
returns-clause-all c = λ one.
    let xs = (items_of c.self.inside.form) in
    let is = c.self.invariant.ordered ∙ ap ranked c.self.view_is in
    let first = c.in-Some.first in
    let last = c.in-Some-get.last in
    let at_first : Some (c.in-Some.field-0-0.now, first) ≡ slice_get xs 0 = search (rules, c.in-Some.ensures) in
    let at_last : Some (c.in-Some-get.field-0-0.now, last) ≡ slice_get xs (c.len.result - 1) = search (rules, c.in-Some-get.ensures) in
    let agree = score_shared (ranked c.args.self.now) (c.len.result - 1) (c.in-Some.field-0-0.now, first) (c.in-Some-get.field-0-0.now, last)
    (ap (λ ys. slice_get ys 0) (sym is) ∙ sym at_first) (ap (λ ys. slice_get ys (c.len.result - 1)) (sym is) ∙ sym at_last) one in
    (unsigned_Decides (of_z w64 first) (of_z w64 last)).1 (ap (of_z w64) agree)
