use Rattle.std.proofs.Common.{◌≡◌, rules, pos, ap, sym, ◌∙◌, SFits, w64, to_z-of_z}
use Rattle.std.specs.Prelude.{int_lt, slice_get, Some, None}
use Rattle.nr_ordered.specs.Lists.{Item}
use Rattle.nr_keyspace.specs.Deadlines.{due_of}
use Rattle.nr_keyspace.proofs.Ordered.{rising, none_found, first_is, still_live}
use Rattle.nr_keyspace.proofs.deadlines.Deadlines.first_expired.Goals as goal

pub returns-in_err-name-clause-live : goal.returns-in_err-name-clause-live
returns-in_err-name-clause-live c =
    let none : slice_get c.self.inside.ordered.0 0 ≡ None = search (rules, c.get.ensures) in
    rw c.from_residual.ensures (λ deadline name found. none_found c.self.inside.ordered.0 c.args.self.now c.self.view_is none (deadline, name) found)

pub returns-then-is_live-clause-live : goal.returns-then-is_live-clause-live
returns-then-is_live-clause-live c =
    let fits : SFits w64 c.in_ok-name.deadline = search rules in
    let x : Item = (c.in_ok-name.name.now, c.in_ok-name.deadline) in
    let at : slice_get c.self.inside.ordered.0 0 ≡ Some x = search (rules, c.get.ensures) in
    still_live c.args.now (due_of x) c.args.self.now
    (first_is c.self.inside.ordered.0 x c.args.self.now (rising c.self.inside.ordered.0 c.self.invariant) c.self.view_is at)
    (ap (int_lt (pos c.args.now)) (sym (to_z-of_z fits)) ∙ sym c.is_live.ensures ∙ c.if-is_live.true)

pub returns-clause-expired : goal.returns-clause-expired
returns-clause-expired c =
    let fits : SFits w64 c.in_ok-name.deadline = search rules in
    let x : Item = (c.in_ok-name.name.now, c.in_ok-name.deadline) in
    let at : slice_get c.self.inside.ordered.0 0 ≡ Some x = search (rules, c.get.ensures) in (
      c.in_ok-name.deadline,
      ap (int_lt (pos c.args.now)) (sym (to_z-of_z fits)) ∙ sym c.is_live.ensures ∙ c.if-is_live.false,
      first_is c.self.inside.ordered.0 x c.args.self.now (rising c.self.inside.ordered.0 c.self.invariant) c.self.view_is at,
    )
