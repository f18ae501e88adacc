use Rattle.std.proofs.Common.{rules, ◌≡◌, ◌<◌, min, length}
use Rattle.nr_oplog.proofs.Counts.{next_loaded}
use Rattle.nr_oplog.proofs.log.Oplog.load_all_passed.Goals as goal

pub loop-node-preserved : goal.loop-node-preserved
loop-node-preserved g c =
    let v = c.args.seat.now.me.0 in let i = c.loop-node.invariant in let f = c.load_passed-count in
    let by : c.min-least.result ≡ min c.loop-node.least f.result = search rules in
    let near : c.loop-node.node < length v.met = search rules in
    let both = next_loaded v c.loop-node.seat.me f.new.seat.me c.loop-node.node c.loop-node.least f.result c.min-least.result i.2 i.3 f.ensures.view near c.requires.1.2 f.ensures.greater f.ensures.own by in
    (search rules, search rules, both.0, both.1)
