-- What was handed out, as a list of pieces of one record.
use Rattle.std.specs.List.{AllByRecursion}
use Rattle.std.proofs.Common.{◌≡◌, ℕ, List, [], ◌∷◌, ◌++◌, Bool, Option, Some, option_to_list, ap, sym, ◌∙◌, subst, refl}
use Rattle.std.specs.Prelude.{IfSome}
use Rattle.nr_entry.specs.Jobs.{connection_of}
use Rattle.nr_log_end.specs.declared.standing.Standing.{Standing}
use Rattle.nr_oplog.specs.declared.view.LogView.{LogView}
use Rattle.nr_slots.specs.declared.view.CombinerPast.{CombinerPast}
use Rattle.nr_slots.specs.declared.view.WorkerPast.{WorkerPast}
use Rattle.nr_node.specs.declared.collecting.LastPiece.{LastPiece}
use Rattle.nr_slots.specs.Seats.{NoteView}
use Rattle.nr_combiner.specs.Behind.{TurnsBehind}
use Rattle.nr_combiner.specs.Heard.{HasHeard}
use Rattle.nr_combiner.specs.Pieces.{IsHandedOf, IsPieceOf}
use Rattle.nr_combiner.specs.Turned.{tells_down}
use Rattle.nr_combiner.specs.Workers.{NodeHandleState}
use Rattle.nr_combiner.specs.declared.answering.Lifts.{Lifts}
use Rattle.nr_combiner.specs.declared.answering.Turned.{Turned}
use Rattle.nr_test_parts.specs.Pieces.{AreHandedOut, AreOfRecord}
use Rattle.nr_test_parts.specs.Stations.{HasTurnedAt}

all_last : {A : Type 0} (P : A → Type 0) (xs : List A) (x : A) → AllByRecursion P (xs ++ x ∷ []) → P x
all_last P [] x all = all.0
all_last P (y ∷ ys) x all = all_last P ys x all.1

-- one that was taken out was handed out by a node, where all were
last_by : (xs ys : List LastPiece) (s : Standing) (o : Option LastPiece) (one : LastPiece) → xs ≡ ys ++ option_to_list o → o ≡ Some one → AreOfRecord xs s
    → (most : ℕ) × IsPieceOf (connection_of one.piece.conn) most one.piece s
last_by xs ys s o one is some all =
    let whole : xs ≡ ys ++ one ∷ [] = is ∙ ap (λ p. ys ++ option_to_list p) some in
    let P = λ (p : LastPiece). IsPieceOf (connection_of p.piece.conn) all.0 p.piece s in
    (all.0, all_last P ys one (subst (λ l. AllByRecursion P l) whole all.1))

pub last_of : (xs ys : List LastPiece) (token : Option LogView) (t : LogView) (o : Option LastPiece) (one : LastPiece) → token ≡ Some t → xs ≡ ys ++ option_to_list o
    → o ≡ Some one → AreHandedOut xs token → (most : ℕ) × IsPieceOf (connection_of one.piece.conn) most one.piece t.standing
last_of xs ys token t o one has is some all =
    last_by xs ys t.standing o one is some (subst (λ (k : Option LogView). AreHandedOut xs k) has all)

-- all were, where none was there before
each_of : (most : ℕ) (down : Bool) (s : Standing) (pieces : List LastPiece) → AllByRecursion (λ (one : LastPiece). IsHandedOf most down one s) pieces
    → AllByRecursion (λ (one : LastPiece). IsPieceOf (connection_of one.piece.conn) most one.piece s) pieces
each_of most down s [] all = tt
each_of most down s (one ∷ pieces) all = (all.0.piece, each_of most down s pieces all.1)

pub all_of : (worker most : ℕ) (down : Bool) (desk : CombinerPast) (s : Standing) (lane : WorkerPast) (old new : List LastPiece) → old ≡ [] → HasHeard worker most down desk s lane old new
    → AreOfRecord new s
all_of worker most down desk s lane old new none heard = (
  most,
  subst (λ l. AllByRecursion (λ (one : LastPiece). IsPieceOf (connection_of one.piece.conn) most one.piece s) l)
      (sym (heard.added.behind ∙ ap (λ l. l ++ heard.added.pieces) none)) (each_of most down s heard.added.pieces heard.added.all),
)

pub all_heard : (worker most : ℕ) (desk : CombinerPast) (lane : WorkerPast) (old new : List LastPiece) (told : Option (Turned × LogView)) (turned : Turned) (token : LogView) → told ≡ Some (turned, token)
    → old ≡ [] → IfSome told (λ (t : Turned × LogView). HasHeard worker most (tells_down t.0.combined) desk t.1.standing lane old new) → AreOfRecord new token.standing
all_heard worker most desk lane old new told turned token is none heard =
    all_of worker most (tells_down turned.combined) desk token.standing lane old new none
    (subst (λ (o : Option (Turned × LogView)). IfSome o (λ (t : Turned × LogView). HasHeard worker most (tells_down t.0.combined) desk t.1.standing lane old new)) is heard)

-- so did the turn, where nothing was there before
pub turned_at : (places : ℕ) (worker : NodeHandleState) (which : Lifts) (most : ℕ) (old new : List LastPiece) (told : Option (Turned × LogView)) (turned : Turned) (token : LogView)
    → told ≡ Some (turned, token) → old ≡ []
    → IfSome told (λ (t : Turned × LogView). (note : NoteView) × TurnsBehind places worker.node worker.seat.worker worker.generation which most old new t.0 t.1.standing note)
    → HasTurnedAt places worker which most new turned (Some token)
turned_at places worker which most old new told turned token is none behind =
    let by = subst (λ (o : Option (Turned × LogView)). IfSome o (λ (t : Turned × LogView). (note : NoteView)
    × TurnsBehind places worker.node worker.seat.worker worker.generation which most old new t.0 t.1.standing note)) is behind in
    record {
      view = token;
      there = refl;
      note = by.0;
      behind = subst (λ (l : List LastPiece). TurnsBehind places worker.node worker.seat.worker worker.generation which most l new turned token.standing by.0) none by.1;
    }
