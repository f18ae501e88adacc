use Rattle.nr_node.proofs.Collected.{handed_over}
use Rattle.nr_node.proofs.node_core.Core.hand_over.Goals as goal

pub returns-clause-handed : goal.returns-clause-handed
returns-clause-handed g c =
    handed_over c.args.conn.serial c.args.most c.args.taken.now.items c.reserve.new.self.items c.push_reserved.new.self.items c.in_ok-one.field-0 c.in-Some.one c.args.self.now
    c.hand_out.new.self c.reserve.ensures.items c.push_reserved.ensures.items c.in-Some.is c.in_ok-one.ensures.handed
