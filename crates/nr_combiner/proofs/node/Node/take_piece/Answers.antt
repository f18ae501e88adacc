use Rattle.nr_combiner.proofs.Handed.{pieces_of}
use Rattle.nr_combiner.proofs.node.Node.take_piece.Goals as goal

pub returns : goal.returns
returns g c = pieces_of (λ t. t.0) (λ t. t.1.standing) c.take_piece.result _ _ _ c.take_piece.ensures.piece c.take_piece.ensures.sound
