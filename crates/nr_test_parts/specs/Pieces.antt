-- What was handed out for connections, with its token.
use Rattle.std.specs.Prelude.{ℕ, List, Option, IfSome}
use Rattle.std.specs.List.{AllByRecursion}
use Rattle.nr_entry.specs.Jobs.{connection_of}
use Rattle.nr_log_end.specs.declared.standing.Standing.{Standing}
use Rattle.nr_oplog.specs.declared.view.LogView.{LogView}
use Rattle.nr_node.specs.declared.collecting.LastPiece.{LastPiece}
use Rattle.nr_combiner.specs.Pieces.{IsPieceOf}

-- each piece was handed out by a node, as it stood so
abbrev pub AreOfRecord : List LastPiece → Standing → Type 0
AreOfRecord pieces s = (most : ℕ) × AllByRecursion (λ (one : LastPiece). IsPieceOf (connection_of one.piece.conn) most one.piece s) pieces

-- as it stood by the token, where that is there
abbrev pub AreHandedOut : List LastPiece → Option LogView → Type 0
AreHandedOut pieces token = IfSome token (λ (t : LogView). AreOfRecord pieces t.standing)
