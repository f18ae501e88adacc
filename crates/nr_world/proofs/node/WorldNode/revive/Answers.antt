use Rattle.std.proofs.Common.{refl}
use Rattle.nr_world.proofs.Revived.{revived_is, whole_revived}
use Rattle.nr_world.proofs.node.WorldNode.revive.Goals as goal

pub returns-clause-revived : goal.returns-clause-revived
returns-clause-revived c =
    revived_is c.args.self.now c.revive.new.self c.args.offer c.len-self.result c.args.tail c.requires.clients c.revive.ensures c.len-self.ensures

pub returns-clause-whole : goal.returns-clause-whole
returns-clause-whole c = λ n whole.
    whole_revived n c.args.self.now _ c.args.self.now.passed c.args.offer c.revive.ensures refl refl refl whole
