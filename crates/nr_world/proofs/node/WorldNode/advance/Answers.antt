use Rattle.std.proofs.Common.{◌≡◌, ℕ, false, length, refl, ap, sym, ◌∙◌, subst}
use Rattle.std.specs.Prelude.{nat_le}
use Rattle.nr_replica.specs.Members.{AreNumbered}
use Rattle.nr_replica.specs.Replicas.{ReplicaState}
use Rattle.nr_world.specs.Whole.{ArePaired}
use Rattle.nr_world.proofs.Advanced.{advanced_is, fallen_is, not_true, stopped_numbered, stopped_whole}
use Rattle.nr_world.proofs.Kept.{kept_applied, numbered_applied}
use Rattle.nr_world.proofs.node.WorldNode.advance.Goals as goal

pub returns-in-Ok-clause-advanced : goal.returns-in-Ok-clause-advanced
returns-in-Ok-clause-advanced c =
    let still : c.args.self.now.replica.refused ≡ false =
    not_true c.args.self.now.replica.refused (λ e. let no = sym c.in-Ok.is ∙ c.apply_or_stop.ensures.refused.1 e in absurd (cc no)) in
    advanced_is c.args.self.now _ c.args.entry.now c.apply_or_stop.new.self c.requires.clients c.requires.numbered c.requires.up still
    (ap (nat_le c.args.self.now.resumed) c.applied.ensures) (c.in-Ok.ensures.applied)

pub returns-in-Ok-clause-whole : goal.returns-in-Ok-clause-whole
returns-in-Ok-clause-whole c = λ n w.
    let k = kept_applied n _ c.args.self.now c.args.entry.now c.apply_or_stop.new.self (c.in-Ok.ensures.applied) w in
    record { number = k.number; pairs = k.pairs; owed = k.owed; counted = k.counted }

pub returns-in-Ok-clause-numbered : goal.returns-in-Ok-clause-numbered
returns-in-Ok-clause-numbered c = λ n k.
    numbered_applied n _ c.args.self.now.replica c.apply_or_stop.new.self c.args.entry.now (c.in-Ok.ensures.applied) k

pub drop_jobs-requires-clause-clients : goal.drop_jobs-requires-clause-clients
drop_jobs-requires-clause-clients c =
    c.requires.clients ∙ sym (ap (λ (r : ReplicaState). length r.members) (c.in-Err.ensures.stopped))

pub drop_jobs-requires-clause-owed : goal.drop_jobs-requires-clause-owed
drop_jobs-requires-clause-owed c = ap (λ (r : ReplicaState). length r.owed) (c.in-Err.ensures.stopped) ∙ c.requires.owed

pub drop_jobs-requires-clause-numbered : goal.drop_jobs-requires-clause-numbered
drop_jobs-requires-clause-numbered c =
    let e = c.in-Err.ensures.stopped in
    stopped_numbered c.apply_or_stop.new.self.node _ c.args.self.now.replica c.apply_or_stop.new.self e
    (subst (λ (n : ℕ). AreNumbered n 0 c.args.self.now.replica.members) (sym (ap (λ (r : ReplicaState). r.node) e)) c.requires.numbered)

pub drop_jobs-requires-clause-pairs : goal.drop_jobs-requires-clause-pairs
drop_jobs-requires-clause-pairs c =
    subst (λ (r : ReplicaState). ArePaired r.node 0 c.args.self.now.sessions r.members) (sym (c.in-Err.ensures.stopped))
    c.requires.pairs

pub returns-in-Err-clause-advanced : goal.returns-in-Err-clause-advanced
returns-in-Err-clause-advanced c =
    fallen_is c.args.self.now _ c.args.entry.now c.apply_or_stop.new.self _ (c.in-Err.ensures.stopped) c.drop_jobs.ensures.dropped

pub returns-in-Err-clause-whole : goal.returns-in-Err-clause-whole
returns-in-Err-clause-whole c = λ n w.
    c.drop_jobs.ensures.whole n
    (stopped_whole n _ c.args.self.now _ (c.in-Err.ensures.stopped) refl refl refl w)

pub returns-in-Err-clause-numbered : goal.returns-in-Err-clause-numbered
returns-in-Err-clause-numbered c = λ n k.
    c.drop_jobs.ensures.numbered n
    (stopped_numbered n _ c.args.self.now.replica c.apply_or_stop.new.self (c.in-Err.ensures.stopped) k)
