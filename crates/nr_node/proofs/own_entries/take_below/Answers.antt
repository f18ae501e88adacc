use Rattle.std.proofs.Common.{◌≡◌, true}
use Rattle.nr_node.proofs.Shares.{first_taken}
use Rattle.nr_node.proofs.own_entries.take_below.Goals as goal

pub returns-clause-taken : goal.returns-clause-taken
returns-clause-taken c = λ _.
    let below : c.is_below.result ≡ true = search (c.if-not-is_below.false) in
    let one = c.is_below.ensures.some below in
    (one.0, first_taken c.args.kept.now.items c.pop_front.new.self.items one.0 one.1 c.pop_front.ensures.rest, one.2)
