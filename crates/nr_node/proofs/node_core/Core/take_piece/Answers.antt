use Rattle.std.proofs.Common.{refl}
use Rattle.nr_entry.specs.Jobs.{connection_of}
use Rattle.nr_node.proofs.Collected.{piece_told, handed_still}
use Rattle.nr_node.proofs.Taking.{some_is}
use Rattle.nr_node.proofs.node_core.Core.take_piece.Goals as goal

pub returns-clause-piece : goal.returns-clause-piece
returns-clause-piece g c =
    piece_told c.args.most c.args.conn.serial c.in-Some.handed (connection_of c.args.conn) c.args.self.now c.hand_out.new.self c.token-token.result.standing
    (c.has.ensures.opened c.if-not-has.false) refl c.token-token.ensures.kept (some_is _ _ _ c.in-Some.is c.in_ok-handed.ensures.handed)

pub returns-clause-taken : goal.returns-clause-taken
returns-clause-taken g c =
    handed_still c.args.conn.serial c.args.most c.args.self.now c.hand_out.new.self c.token-token.new.self
    (some_is _ _ _ c.in-Some.is c.in_ok-handed.ensures.handed).handed c.token-token.ensures.same
