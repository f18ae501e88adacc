use Rattle.std.proofs.Common.{[], ◌∷◌, refl, sym, inl, subst}
use Rattle.nr_entry.specs.declared.entry.Entry.{Entry}
use Rattle.nr_replica.specs.Replicas.{ReplicaState}
use Rattle.nr_node.specs.Advanced.{GoesOn, HasStopped}
use Rattle.nr_node.proofs.Advances.{no_looks}
use Rattle.nr_node.proofs.advancing.advance_unless_held.Goals as goal

pub returns-clause-some : goal.returns-clause-some
returns-clause-some g c = λ went.
    subst (λ (old : ReplicaState). (entry : Entry) × GoesOn (entry ∷ []) c.args.end.now.standing c.advance.new.end.standing old c.advance.new.replica c.args.next.now
    c.advance.new.next c.args.accounts.now c.advance.new.accounts) c.is_held_back.ensures.same (c.advance.ensures.some went)

pub returns-then-is_held_back-clause-met : goal.returns-then-is_held_back-clause-met
returns-then-is_held_back-clause-met g c = no_looks c.args.end.now c.args.end.now refl refl

pub returns-then-is_held_back-clause-stopped : goal.returns-then-is_held_back-clause-stopped
returns-then-is_held_back-clause-stopped g c = λ _.
    let up = c.is_held_back.ensures.up c.if-is_held_back.true in
    let backlog = c.is_held_back.ensures.reason c.if-is_held_back.true in
    subst (λ (r : ReplicaState). HasStopped c.args.end.now.looks c.args.end.now r) (sym c.is_held_back.ensures.same) (inl (up, inl backlog))
