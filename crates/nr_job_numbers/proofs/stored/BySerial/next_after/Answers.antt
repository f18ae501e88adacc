use Rattle.std.proofs.Common.{◌≡◌, None, ℕ, ◌<◌, subst}
use Rattle.std.specs.Prelude.{IsSome}
use Rattle.std.specs.declared.ops.Bound.{Bound}
use Rattle.std.specs.declared.ops.Bound.TheVariants.{Unbounded}
use Rattle.std.specs.BTreeMap.Range.{IsRangeOf}
use Rattle.std.specs.Ordering.{nat_cmp}
use Rattle.std.specs.FinMap as finmap
use Rattle.nr_job_numbers.specs.Stored.{Held, ComesAfter}
use Rattle.nr_job_numbers.proofs.After.{first_after, none_between, none_after}
use Rattle.nr_job_numbers.proofs.stored.BySerial.next_after.Goals as goal

pub returns-in-Some-clause-found : goal.returns-in-Some-clause-found
returns-in-Some-clause-found c =
    let part = subst (λ (b : Bound ℕ). IsRangeOf nat_cmp b Unbounded c.self.inside.accounts c.range.result) c.start_after-start.ensures (c.range.ensures.in_range tt) in
    subst (λ (held : Held). ComesAfter c.args.last c.in-Some.serial.now × IsSome (finmap.get held c.in-Some.serial.now)) c.self.view_is
    (first_after c.args.last c.self.inside.accounts c.range.result c.next.new.self c.in-Some.serial.now c.in-Some.field-0-1.now c.self.invariant part c.in-Some.ensures.steps)

pub returns-in-Some-clause-between : goal.returns-in-Some-clause-between
returns-in-Some-clause-between c =
    let part = subst (λ (b : Bound ℕ). IsRangeOf nat_cmp b Unbounded c.self.inside.accounts c.range.result) c.start_after-start.ensures (c.range.ensures.in_range tt) in
    subst (λ (held : Held). (other : ℕ) → ComesAfter c.args.last other → other < c.in-Some.serial.now → finmap.get held other ≡ None) c.self.view_is
    (none_between c.args.last c.self.inside.accounts c.range.result c.next.new.self c.in-Some.serial.now c.in-Some.field-0-1.now c.self.invariant part c.in-Some.ensures.steps)

pub returns-in-None-clause-none : goal.returns-in-None-clause-none
returns-in-None-clause-none c =
    let part = subst (λ (b : Bound ℕ). IsRangeOf nat_cmp b Unbounded c.self.inside.accounts c.range.result) c.start_after-start.ensures (c.range.ensures.in_range tt) in
    subst (λ (held : Held). (other : ℕ) → ComesAfter c.args.last other → finmap.get held other ≡ None) c.self.view_is
    (none_after c.args.last c.self.inside.accounts c.range.result c.self.invariant part c.in-None.ensures.steps.0)
