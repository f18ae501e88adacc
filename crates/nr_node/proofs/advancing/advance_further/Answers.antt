use Rattle.nr_node.proofs.Advances.{log_further}
use Rattle.nr_node.proofs.advancing.advance_further.Goals as goal
use Rattle.std.proofs.Common.{arith}

pub returns-then-count-gt0-clause-log : goal.returns-then-count-gt0-clause-log
returns-then-count-gt0-clause-log g c =
    log_further c.advance_unless_held.result c.args.end.now.standing c.advance_unless_held.new.end.standing c.advance_unless_held.ensures.log
    (λ stopped. (c.advance_unless_held.ensures.none stopped).0) (c.requires.log (omega arith))
