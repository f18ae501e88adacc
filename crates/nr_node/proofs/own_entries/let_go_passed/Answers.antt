use Rattle.nr_node.proofs.Shares.{some_go}
use Rattle.nr_node.proofs.own_entries.let_go_passed.Goals as goal

pub returns : goal.returns
returns g c =
    some_go c.args.kept.now.items c.let_go_below.new.kept.items c.args.end.now c.least_passed-least.new.self c.least_passed-least.result c.least_passed-least.ensures.loads
    c.least_passed-least.ensures.least c.let_go_below.ensures.gone c.let_go_below.ensures.left
