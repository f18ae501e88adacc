use Rattle.std.proofs.Common.{◌≡◌, true, false, sym, ◌∙◌, subst}
use Rattle.nr_replica.specs.Replicas.{ReplicaState}
use Rattle.nr_replica.specs.Members.{AreNumbered}
use Rattle.nr_world.specs.Served.{node_seen, entry_seen}
use Rattle.nr_world.proofs.Advanced.{applied_down, applied_up}
use Rattle.nr_world.proofs.node.WorldNode.apply.Goals as goal

pub returns-then-is_down-clause-applied : goal.returns-then-is_down-clause-applied
returns-then-is_down-clause-applied c =
    let down : c.args.self.now.replica.down ≡ true = sym c.is_down.ensures ∙ c.if-is_down.true in
    applied_down c.args.self.now.replica.node (entry_seen c.args.entry.now) (node_seen c.args.self.now) (node_seen c.pass.new.self) down c.pass.ensures.seen

pub returns-then-is_down-clause-numbered : goal.returns-then-is_down-clause-numbered
returns-then-is_down-clause-numbered c = λ n k. subst (λ (r : ReplicaState). AreNumbered n 0 r.members) (sym c.pass.ensures.replica) k

pub returns-clause-applied : goal.returns-clause-applied
returns-clause-applied c =
    let up : c.args.self.now.replica.down ≡ false = sym c.is_down.ensures ∙ c.if-is_down.false in
    applied_up c.args.self.now.replica.node (entry_seen c.args.entry.now) (node_seen c.args.self.now) (node_seen c.advance.new.self)
    (node_seen c.pass-2.new.self) up c.advance.ensures.advanced c.pass-2.ensures.seen

pub returns-clause-numbered : goal.returns-clause-numbered
returns-clause-numbered c = λ n k. subst (λ (r : ReplicaState). AreNumbered n 0 r.members) (sym c.pass-2.ensures.replica) (c.advance.ensures.numbered n k)
