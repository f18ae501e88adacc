use Rattle.std.proofs.Common.{◌∙◌, sym, subst, true≢false, IfSome, true, ◌≡◌}
use Rattle.std.specs.FinSet as set
use Rattle.nr_keyspace.specs.Deadlines.{due_cmp}
use Rattle.nr_keyspace.proofs.Replaced.{moved, kept, same_deadline, still_there}
use Rattle.nr_keyspace.proofs.deadlines.Deadlines.replace.Goals as goal

pub returns-then-eq-clause-ok : goal.returns-then-eq-clause-ok
returns-then-eq-clause-ok c = kept c.args.self.now c.args.before c.args.after c.args.name.now c.requires
    ((same_deadline c.args.before c.args.after c.eq.result c.eq.ensures).0 c.if-eq.true)

pub take-requires : goal.take-requires
take-requires c = subst (λ (dues : set.FinSet due_cmp). IfSome c.args.before (λ deadline. set.contains dues (deadline, c.args.name.now) ≡ true))
    (sym c.in_ok-add.ensures.ok) (still_there c.args.self.now c.args.before c.args.after c.args.name.now c.requires)

pub returns-clause-ok : goal.returns-clause-ok
returns-clause-ok c = rw (c.take.ensures, c.in_ok-add.ensures.ok)
    (moved c.args.self.now c.args.before c.args.after c.args.name.now c.requires
    (λ e. true≢false (sym ((same_deadline c.args.before c.args.after c.eq.result c.eq.ensures).1 e) ∙ c.if-eq.false)))
