use Rattle.std.proofs.Common.{rules, refl}
use Rattle.nr_oplog.proofs.Looks.{sees_passed}
use Rattle.nr_oplog.proofs.log.Oplog.load_passed.Goals as goal

pub load-requires : goal.load-requires
load-requires g c = (search rules, search rules, sees_passed _ _ _ _ _ c.args.node c.requires.1)

pub returns-clause-own : goal.returns-clause-own
returns-clause-own g c = (c.load.ensures.2.1 c.args.node refl).2
