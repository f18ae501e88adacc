use Rattle.std.proofs.Common.{rules, ◌≡◌, ◌<◌, length, get_or}
use Rattle.nr_script.proofs.Receivers.{handed_none, part_more}
use Rattle.nr_script.proofs.opened.receive_each.Goals as goal

pub loop-part-init : goal.loop-part-init
loop-part-init c = handed_none c.args.receivers.now

pub loop-part-preserved : goal.loop-part-preserved
loop-part-preserved c =
    let is : c.part-item.result ≡ get_or c.args.handed.now c.loop-part.part-index c.part-item.result = search rules in
    let below : c.loop-part.part-index < length c.args.handed.now = search rules in
    part_more c.args.handed.now c.loop-part.part-index c.part-item.result c.args.receivers.now c.loop-part.receivers c.receive_part.new.receivers
    below is c.loop-part.invariant c.in_ok-receive_part.ensures
