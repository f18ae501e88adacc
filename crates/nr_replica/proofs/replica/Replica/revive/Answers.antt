use Rattle.std.proofs.Common.{◌≡◌, false, sym, subst}
use Rattle.std.specs.Prelude.{Option, IfSome}
use Rattle.nr_machine.specs.Machines.{MachineState}
use Rattle.nr_replica.specs.Members.{members_seen}
use Rattle.nr_replica.proofs.CutAll.{all_numbered}
use Rattle.nr_replica.proofs.replica.Replica.revive.Goals as goal

pub invariant_of-self : goal.invariant_of-self
invariant_of-self c =
    let inside = c.self.inside in
    let keeps = c.self.invariant in
    let olds = members_seen inside.node inside.members in
    let news = members_seen inside.node c.cut_all.new.self in (
      keeps.0,
      keeps.1,
      all_numbered inside.node olds news (c.cut_all.ensures.cut inside.node) keeps.2,
      subst (λ (m : Option MachineState). IfSome m (λ machine. machine.failed ≡ false)) (sym c.of.ensures) c.offer.invariant,
      keeps.4,
      c.cut_all.ensures.ready inside.node keeps.5,
    )
