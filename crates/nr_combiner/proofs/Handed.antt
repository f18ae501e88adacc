-- What is handed out, as it stands once the lock is free again.
use Rattle.std.proofs.Common.{◌≡◌, ℕ, zero, suc, ◌+◌, ◌<◌, Bool, inl, inr, List, [], ◌∷◌, ◌++◌, Option, Some, None, length, drop, get_or, arith, refl, ap, sym, subst, ◌∙◌, append-nil, append_assoc}
use Rattle.std.specs.Prelude.{◌↔◌, ◌==◌, ◌-◌, ◌^◌, ◌≤◌, min, true, false, Result, Ok, Err, IfOk, IfSome}
use Rattle.std.specs.List.{AllByRecursion}
use Rattle.std.proofs.lemmas.Bool.{cases_lt, and_parts, eqb-true}
use Rattle.std.proofs.lemmas.List.{get_or_default, get_or_past, length-take}
use Rattle.nr_blob.specs.declared.memory.Memory.{Memory}
use Rattle.nr_model.specs.Bytes.{Bytes, IsBeginningOf}
use Rattle.nr_model.specs.Connections.{is_some_bytes}
use Rattle.nr_model.specs.Items.{Connection, Sequence}
use Rattle.nr_model.specs.Sequential.{emitted_for}
use Rattle.nr_entry.specs.Jobs.{connection_of}
use Rattle.nr_entry.specs.declared.batch.Batch.{Batch}
use Rattle.nr_log_end.specs.declared.standing.Standing.{Standing}
use Rattle.nr_log_end.specs.Standings.{opened_of, record_of}
use Rattle.nr_job_numbers.specs.Book.{Book}
use Rattle.nr_replica.specs.declared.outbox.Piece.{Piece}
use Rattle.nr_replica.specs.Members.{Member, fresh_member, is_ready, worker_of}
use Rattle.nr_replica.specs.Replicas.{ReplicaState}
use Rattle.nr_slots.specs.declared.view.CombinerPast.{CombinerPast}
use Rattle.nr_slots.specs.declared.view.WorkerPast.{WorkerPast}
use Rattle.nr_slots.specs.Names.{IsTold}
use Rattle.nr_slots.specs.Rule.{no_desk}
use Rattle.nr_slots.specs.Seats.{CombinerView, NoteView, desk_of, note_of}
use Rattle.nr_node.specs.Batches.{IsPiece}
use Rattle.nr_node.specs.Collected.{IsHanded, AreHanded, Collects}
use Rattle.nr_node.specs.Level.{NodeState, connection_at, queue_at, workers_of}
use Rattle.nr_node.specs.Sound.{IsSound}
use Rattle.nr_node.specs.Steps.{nobody, IsStill}
use Rattle.nr_node.specs.declared.answers.Round.{Round}
use Rattle.nr_node.specs.declared.answers.Round.TheVariants as rounds
use Rattle.nr_node.specs.declared.collecting.LastPiece.{LastPiece}
use Rattle.nr_node.proofs.Owed.{all_front}
use Rattle.nr_node.proofs.Ready.{Ascends, all_within, ascends}
use Rattle.nr_combiner.specs.Heard.{HasHeard, Knows, with_posted}
use Rattle.nr_combiner.specs.Pieces.{AreHandedIn, AreRising, HasAdded, HasExecuted, HasOwn, IsHandedOf, IsPieceOf}
use Rattle.nr_combiner.specs.Counts.{generation_of}
use Rattle.nr_combiner.specs.Served.{CombinerState, IsLifted, IsOwnOfBatch, IsServed, StandsLevel}
use Rattle.nr_combiner.specs.Behind.{CollectsBehind, TurnsBehind}
use Rattle.nr_combiner.specs.Turned.{HandsOutTo, HasCollectedFor, HasTurned, tells_down}
use Rattle.nr_combiner.specs.declared.answering.Collected.{Collected}
use Rattle.nr_combiner.specs.declared.answering.Lifts.{Lifts}
use Rattle.nr_combiner.specs.declared.answering.Turned.{Turned}
use Rattle.nr_combiner.proofs.Moves.{served_changed}
use Rattle.nr_combiner.proofs.Rounds.{combined_node}

piece_of : (n : NodeState) (c : Connection) (most : ℕ) (piece : Piece) (s : Standing) → IsPiece n c most piece s → IsSound s → IsPieceOf c most piece s
piece_of n c most piece s p sound = record {
  connection = p.connection;
  node = ap (λ (d : Connection). d.node) p.connection ∙ p.node;
  some = p.some;
  few = omega (arith, ap (λ (bytes : Bytes). length bytes) p.bytes, length-take most (queue_at c.serial n.replica.members).waiting);
  emitted = subst (λ (d : Connection). IsBeginningOf piece.bytes.items (drop piece.from (emitted_for d (record_of s.history)))) (sym p.connection) p.emitted;
  sound = sound;
}

pub pieces_of : {A : Type 0} (f : A → Piece) (g : A → Standing) (r : Result (Option A) Memory) (n : NodeState) (c : Connection) (most : ℕ)
    → IfOk r (λ taken. IfSome taken (λ (t : A). IsPiece n c most (f t) (g t))) → IfOk r (λ taken. IfSome taken (λ (t : A). IsSound (g t)))
    → IfOk r (λ taken. IfSome taken (λ (t : A). IsPieceOf c most (f t) (g t)))
pieces_of f g (Ok None) n c most piece sound = piece
pieces_of f g (Ok (Some t)) n c most piece sound = piece_of n c most (f t) (g t) piece sound
pieces_of f g (Err memory) n c most piece sound = piece

-- one that a turn handed out
handed_of : (most serial : ℕ) (down : Bool) (one : LastPiece) (n m : NodeState) → (down ≡ false → n.replica.down ≡ false) → IsHanded most serial one n m
    → IsHandedOf most down one n.seat.standing
handed_of most serial down one n m up h =
    let s = n.seat.standing in
    let named : connection_of one.piece.conn ≡ connection_at n.replica.node serial = h.piece.connection in
    let own : connection_at s.node serial ≡ connection_of one.piece.conn = ap (λ (k : ℕ). connection_at k serial) (sym h.piece.node) ∙ sym named in
    record {
      piece = subst (λ (c : Connection). IsPieceOf c most one.piece s) (sym named) (piece_of n (connection_at n.replica.node serial) most one.piece s h.piece h.sound);
      whole = λ stands open_is few. h.whole (up stands) open_is few ∙ ap (λ (c : Connection). drop one.piece.from (emitted_for c (record_of s.history))) own;
    }

-- pieces for one connection after the other, all of the record that the node has
all_of : (most : ℕ) (down : Bool) (s : Standing) (serials : List ℕ) (pieces : List LastPiece) (n m : NodeState) → n.seat.standing ≡ s
    → (down ≡ false → n.replica.down ≡ false) → AreHanded most serials pieces n m
    → AllByRecursion (λ (one : LastPiece). IsHandedOf most down one s) pieces
all_of most down s [] [] n m is up h = tt
all_of most down s [] (one ∷ pieces) n m is up h = absurd h
all_of most down s (serial ∷ serials) [] n m is up h = absurd h
all_of most down s (serial ∷ serials) (one ∷ pieces) n m is up (mid, first, rest) = (
  subst (IsHandedOf most down one) is (handed_of most serial down one n mid up first),
  all_of most down s serials pieces mid m (first.handed.standing ∙ is) (λ stands. ap (λ (r : ReplicaState). r.down) first.handed.replica ∙ up stands) rest,
)

-- and by serial
serial_of : (most serial : ℕ) (one : LastPiece) (n m : NodeState) → IsHanded most serial one n m → one.piece.conn.serial ≡ serial
serial_of most serial one n m h = ap (λ (c : Connection). c.serial) h.piece.connection

all_above : (x most : ℕ) (serials : List ℕ) (pieces : List LastPiece) (n m : NodeState) → AllByRecursion (λ y. x < y) serials → AreHanded most serials pieces n m
    → AllByRecursion (λ (other : LastPiece). x < other.piece.conn.serial) pieces
all_above x most [] [] n m above h = tt
all_above x most [] (one ∷ pieces) n m above h = absurd h
all_above x most (serial ∷ serials) [] n m above h = absurd h
all_above x most (serial ∷ serials) (one ∷ pieces) n m above (mid, first, rest) =
    (omega (arith, above.0, serial_of most serial one n mid first), all_above x most serials pieces mid m above.1 rest)

all_rising : (most : ℕ) (serials : List ℕ) (pieces : List LastPiece) (n m : NodeState) → Ascends serials → AreHanded most serials pieces n m → AreRising pieces
all_rising most [] [] n m ascend h = tt
all_rising most [] (one ∷ pieces) n m ascend h = absurd h
all_rising most (serial ∷ serials) [] n m ascend h = absurd h
all_rising most (serial ∷ serials) (one ∷ pieces) n m ascend (mid, first, rest) = (
  subst (λ (x : ℕ). AllByRecursion (λ (other : LastPiece). x < other.piece.conn.serial) pieces) (sym (serial_of most serial one n mid first))
      (all_above serial most serials pieces mid m ascend.0 rest),
  all_rising most serials pieces mid m ascend.1 rest,
)

ascends_front : (xs ys : List ℕ) → Ascends (xs ++ ys) → Ascends xs
ascends_front [] ys a = tt
ascends_front (x ∷ xs) ys a = (all_front (λ y. x < y) xs ys a.0, ascends_front xs ys a.1)

collected_ascends : (worker most : ℕ) (old new : List LastPiece) (r : Result (Unit {0}) Memory) (n m : NodeState) (h : Collects worker most old new r n m)
    → Ascends h.serials
collected_ascends worker most old new r n m h =
    let p : ℕ → Bool = λ s. is_ready worker (get_or n.replica.members s nobody) in
    ascends_front h.serials h.left (subst Ascends (sym h.ready) (ascends p 0 (length n.replica.members)))

-- ---- whose jobs the record has
-- what holds of the connections of these serials holds of those of the pieces
all_own : (P : Connection → Type 0) (node most : ℕ) (serials : List ℕ) (pieces : List LastPiece) (n m : NodeState) → n.seat.standing.node ≡ node
    → AllByRecursion (λ serial. P (connection_at node serial)) serials → AreHanded most serials pieces n m
    → AllByRecursion (λ (one : LastPiece). P (connection_of one.piece.conn)) pieces
all_own P node most [] [] n m is own h = tt
all_own P node most [] (one ∷ pieces) n m is own h = absurd h
all_own P node most (serial ∷ serials) [] n m is own h = absurd h
all_own P node most (serial ∷ serials) (one ∷ pieces) n m is own (mid, first, rest) = (
  subst P (ap (λ (k : ℕ). connection_at k serial) (sym is ∙ sym first.piece.node) ∙ sym first.piece.connection) own.0,
  all_own P node most serials pieces mid m (ap (λ (x : Standing). x.node) first.handed.standing ∙ is) own.1 rest,
)

-- the same workers serve the connections
all_served_on : (most : ℕ) (serials : List ℕ) (pieces : List LastPiece) (n m : NodeState) → AreHanded most serials pieces n m → (c : Connection)
    → c.serial < length n.replica.members → (c.serial < length m.replica.members) × (worker_of m.replica.members c ≡ worker_of n.replica.members c)
all_served_on most [] [] n m same c near =
    subst (λ (k : NodeState). (c.serial < length k.replica.members) × (worker_of k.replica.members c ≡ worker_of n.replica.members c)) (sym same) (near, refl)
all_served_on most [] (one ∷ pieces) n m h c near = absurd h
all_served_on most (serial ∷ serials) [] n m h c near = absurd h
all_served_on most (serial ∷ serials) (one ∷ pieces) n m (mid, first, rest) c near =
    let now = ap (λ (r : ReplicaState). r.members) first.handed.replica in
    let there = subst (λ (ms : List Member). (c.serial < length ms) × (worker_of ms c ≡ worker_of n.replica.members c)) (sym now)
    (served_changed n.replica.members serial (λ (x : Member). Rattle.nr_replica.specs.Members.handed_member most x) (λ x. refl) c near) in
    let on = all_served_on most serials pieces mid m rest c there.0 in
    (on.0, on.1 ∙ there.1)

-- a worker's connections for which bytes waited
ready_served : (worker node : ℕ) (members : List Member) (serials : List ℕ)
    → AllByRecursion (λ y. (is_ready worker (get_or members y nobody) ≡ true) × (y < 0 + length members)) serials
    → AllByRecursion (λ serial. (serial < length members) × (worker_of members (connection_at node serial) ≡ worker)) serials
ready_served worker node members [] all = tt
ready_served worker node members (serial ∷ serials) all =
    let near : serial < length members = omega (arith, all.0.1) in
    let member = get_or members serial nobody in
    let parts = and_parts (member.worker == worker) (is_some_bytes member.outbox.waiting) all.0.0 in
    let same = ap (λ (x : Member). x.worker) (get_or_default members serial (fresh_member (connection_at node serial) 0 0) nobody near) in
    ((near, same ∙ eqb-true member.worker worker parts.0), ready_served worker node members serials all.1)

own_of : (n : NodeState) (desks : List CombinerPast) (worker : ℕ) (c : Connection) (done : Sequence) → c.node ≡ n.book.node → worker_of n.replica.members c ≡ worker
    → AllByRecursion (IsOwnOfBatch n desks) done → AreHandedIn (get_or desks worker no_desk) done c
own_of n desks worker c [] node served all = tt
own_of n desks worker c (job ∷ done) node served all = (
  λ same.
      let b = all.0 (ap (λ (d : Connection). d.node) same ∙ node) in
      let mine : b.worker ≡ worker = sym b.own.served.1 ∙ ap (worker_of n.replica.members) same ∙ served in
      let lifted : IsLifted desks worker b.batch = subst (λ (w : ℕ). IsLifted desks w b.batch) mine b.lifted in
      record { before = lifted.before; batch = b.batch; after = lifted.after; posted_is = lifted.lifted; kept = lifted.kept; has = b.has },
  own_of n desks worker c done node served all.1,
)

-- who a connection was opened for serves it
worker_at : (members : List Member) (i : ℕ) (d : Member) → get_or (workers_of members) i d.worker ≡ (get_or members i d).worker
worker_at [] i d = refl
worker_at (member ∷ members) zero d = refl
worker_at (member ∷ members) (suc i) d = worker_at members i d

-- so each job of one that was opened for a worker is one that the worker handed in
pub owns_all : (n : NodeState) (desks : List CombinerPast) (worker : ℕ) (s : Standing) → workers_of n.replica.members ≡ opened_of s.history → s.node ≡ n.book.node
    → AllByRecursion (IsOwnOfBatch n desks) (record_of s.history) → HasOwn worker (get_or desks worker no_desk) s
owns_all n desks worker s opened node all = λ c serves.
    own_of n desks worker c (record_of s.history) (serves.node ∙ node)
    (sym (worker_at n.replica.members c.serial (fresh_member c 0 0)) ∙ ap (λ (ws : List ℕ). get_or ws c.serial 0) opened ∙ serves.worker_is) all

-- and so it is told with a token and a note that were made then
pub kept_own : (n m : NodeState) (v w : CombinerView) (worker : ℕ) (s : Standing) (note : NoteView) → workers_of n.replica.members ≡ opened_of s.history → s ≡ n.seat.standing
    → s.node ≡ n.book.node → note ≡ note_of v → IsStill n m → w ≡ v → (numbers : List ℕ) × IsServed m w numbers → HasOwn worker (get_or note.desks worker no_desk) s
kept_own n m v w worker s note opened is node noted still same served =
    subst (λ (x : NoteView). HasOwn worker (get_or x.desks worker no_desk) s) (ap note_of same ∙ sym noted)
    (owns_all m w.desks worker s (ap (λ (r : ReplicaState). workers_of r.members) still.replica ∙ opened) (node ∙ sym (ap (λ (b : Book). b.node) still.book))
    (subst (λ (x : Standing). AllByRecursion (IsOwnOfBatch m w.desks) (record_of x.history)) (still.standing ∙ sym is) served.1.handed_in.done))

owns : (n m : NodeState) (desks : List CombinerPast) (worker node : ℕ) (done : Sequence) (serials : List ℕ) → node ≡ m.book.node
    → ((c : Connection) → c.serial < length n.replica.members → worker_of m.replica.members c ≡ worker_of n.replica.members c)
    → AllByRecursion (IsOwnOfBatch m desks) done
    → AllByRecursion (λ serial. (serial < length n.replica.members) × (worker_of n.replica.members (connection_at node serial) ≡ worker)) serials
    → AllByRecursion (λ serial. AreHandedIn (get_or desks worker no_desk) done (connection_at node serial)) serials
owns n m desks worker node done [] is on all ready = tt
owns n m desks worker node done (serial ∷ serials) is on all ready = (
  own_of m desks worker (connection_at node serial) done is (on (connection_at node serial) ready.0.0 ∙ ready.0.1) all,
  owns n m desks worker node done serials is on all ready.1,
)

-- ---- a turn
all_down : (most : ℕ) (serials : List ℕ) (pieces : List LastPiece) (n m : NodeState) → AreHanded most serials pieces n m → m.replica.down ≡ n.replica.down
all_down most [] [] n m same = ap (λ (x : NodeState). x.replica.down) same
all_down most [] (one ∷ pieces) n m h = absurd h
all_down most (serial ∷ serials) [] n m h = absurd h
all_down most (serial ∷ serials) (one ∷ pieces) n m (mid, first, rest) =
    all_down most serials pieces mid m rest ∙ ap (λ (r : ReplicaState). r.down) first.handed.replica

-- the node stays the same one, and goes on to stand so
all_node : (most : ℕ) (serials : List ℕ) (pieces : List LastPiece) (n m : NodeState) → AreHanded most serials pieces n m
    → (m.book.node ≡ n.book.node) × (m.seat.standing ≡ n.seat.standing)
all_node most [] [] n m same = (ap (λ (x : NodeState). x.book.node) same, ap (λ (x : NodeState). x.seat.standing) same)
all_node most [] (one ∷ pieces) n m h = absurd h
all_node most (serial ∷ serials) [] n m h = absurd h
all_node most (serial ∷ serials) (one ∷ pieces) n m (mid, first, rest) =
    let on = all_node most serials pieces mid m rest in
    (on.0 ∙ ap (λ (b : Book). b.node) first.handed.book, on.1 ∙ first.handed.standing)

collected_down : (worker most : ℕ) (old new : List LastPiece) (r : Result (Unit {0}) Memory) (c d : CombinerState) → HasCollectedFor worker most old new r c d
    → d.node.replica.down ≡ c.node.replica.down
collected_down worker most old new r c d h = elim (cases_lt worker (length c.seat.desks)) [
  | inl near ↦ let there = h.own near in all_down most there.serials there.pieces c.node d.node there.handed
  | inr past ↦ ap (λ (x : CombinerState). x.node.replica.down) (h.stranger past).2
]

pub collected_node : (worker most : ℕ) (old new : List LastPiece) (r : Result (Unit {0}) Memory) (c d : CombinerState) → HasCollectedFor worker most old new r c d
    → (d.node.book.node ≡ c.node.book.node) × (d.node.seat.standing ≡ c.node.seat.standing)
collected_node worker most old new r c d h = elim (cases_lt worker (length c.seat.desks)) [
  | inl near ↦ let there = h.own near in all_node most there.serials there.pieces c.node d.node there.handed
  | inr past ↦ (ap (λ (x : CombinerState). x.node.book.node) (h.stranger past).2, ap (λ (x : CombinerState). x.node.seat.standing) (h.stranger past).2)
]

-- what was handed out leaves the node the one that it was, and up or down as it was
pub handed_node : (worker most : ℕ) (old new : List LastPiece) (r : Result (Unit {0}) Memory) (s : Standing) (note : NoteView) (c d : CombinerState)
    → HandsOutTo worker most old new r s note c d → d.node.book.node ≡ c.node.book.node
handed_node worker most old new r s note c d h =
    ap (λ (b : Book). b.node) h.still.book ∙ (collected_node worker most old new r c h.collected h.has_collected).0

pub handed_down : (worker most : ℕ) (old new : List LastPiece) (r : Result (Unit {0}) Memory) (s : Standing) (note : NoteView) (c d : CombinerState)
    → HandsOutTo worker most old new r s note c d → d.node.replica.down ≡ c.node.replica.down
handed_down worker most old new r s note c d h =
    ap (λ (x : ReplicaState). x.down) h.still.replica ∙ collected_down worker most old new r c h.collected h.has_collected

-- a turn is down where the replica is
pub turned_down : (combined : Result Round Memory) (mid d : CombinerState) → (combined ≡ Ok rounds.Down) ↔ (mid.node.replica.down ≡ true)
    → d.node.replica.down ≡ mid.node.replica.down → (combined ≡ Ok rounds.Down) ↔ (d.node.replica.down ≡ true)
turned_down combined mid d down same = (λ e. same ∙ down.0 e, λ e. down.1 (sym same ∙ e))

-- the node is the one that it was
turned_at : (places worker : ℕ) (which : Lifts) (most : ℕ) (old new : List LastPiece) (turned : Turned) (s : Standing) (note : NoteView) (c d : CombinerState)
    → HasTurned places worker which most old new turned s note c d → d.node.book.node ≡ c.node.book.node
turned_at places worker which most old new turned s note c d t =
    handed_node worker most old new turned.collected s note t.combined d t.handed
    ∙ combined_node places worker which turned.combined turned.is_behind c t.combined t.has_combined

-- one that isn't told as down is up
is_up : (combined : Result Round Memory) (down : Bool) → (combined ≡ Ok rounds.Down) ↔ (down ≡ true) → tells_down combined ≡ false → down ≡ false
is_up combined true iff told = absurd (cc (ap tells_down (iff.1 refl), told))
is_up combined false iff told = refl

-- what is said of the pieces
handed_added : (worker most : ℕ) (down : Bool) (old new : List LastPiece) (r : Result (Unit {0}) Memory) (s : Standing) (note : NoteView) (mid d : CombinerState) (numbers : List ℕ)
    → HandsOutTo worker most old new r s note mid d → s.node ≡ d.node.book.node → (down ≡ false → d.node.replica.down ≡ false) → IsServed d.node d.seat numbers
    → HasAdded most down s (AreHandedIn (get_or note.desks worker no_desk) (record_of s.history)) old new
handed_added worker most told old new r s note mid d numbers h standing is_up served =
    let after = h.collected in
    let same = (collected_node worker most old new r mid after h.has_collected) in
    let stands : mid.node.seat.standing ≡ s = sym same.1 ∙ sym h.still.standing ∙ sym h.token in
    let at : mid.node.seat.standing.node ≡ d.node.book.node = ap (λ (x : Standing). x.node) stands ∙ standing in
    let desks : note.desks ≡ d.seat.desks = ap (λ (v : NoteView). v.desks) h.note_is in
    elim (cases_lt worker (length mid.seat.desks)) [
      | inl near ↦
          let there = h.has_collected.own near in
          let up : told ≡ false → mid.node.replica.down ≡ false = λ open_is. sym (handed_down worker most old new r s note mid d h) ∙ is_up open_is in
          let members = mid.node.replica.members in
          let p : ℕ → Bool = λ y. is_ready worker (get_or members y nobody) in
          let ready = all_front (λ y. (p y ≡ true) × (y < 0 + length members)) there.serials there.left
          (subst (AllByRecursion (λ y. (p y ≡ true) × (y < 0 + length members))) (sym there.ready) (all_within p 0 (length members))) in
          let done = subst (λ (x : Standing). AllByRecursion (IsOwnOfBatch d.node d.seat.desks) (record_of x.history)) (sym h.token) served.handed_in.done in
          let own = owns mid.node d.node d.seat.desks worker d.node.book.node (record_of s.history) there.serials refl
          (λ c near'. ap (λ (x : ReplicaState). worker_of x.members c) h.still.replica ∙ (all_served_on most there.serials there.pieces mid.node after.node there.handed c near').1)
          done (ready_served worker d.node.book.node members there.serials ready) in
          record {
            pieces = there.pieces;
            behind = there.behind;
            all = all_of most told s there.serials there.pieces mid.node after.node stands up there.handed;
            own = subst (λ (ds : List CombinerPast). AllByRecursion (λ (one : LastPiece). AreHandedIn (get_or ds worker no_desk) (record_of s.history) (connection_of one.piece.conn)) there.pieces)
                (sym desks)
                (all_own (AreHandedIn (get_or d.seat.desks worker no_desk) (record_of s.history)) d.node.book.node most there.serials there.pieces mid.node after.node at own there.handed);
            rising = all_rising most there.serials there.pieces mid.node after.node
                (collected_ascends worker most old new r mid.node after.node there) there.handed;
          }
      | inr past ↦ record {
        pieces = [];
        behind = (h.has_collected.stranger past).1 ∙ sym (append-nil old);
        all = tt;
        own = tt;
        rising = tt;
      }
    ]

pub turned_added : (places node worker generation : ℕ) (which : Lifts) (most : ℕ) (old new : List LastPiece) (turned : Turned) (s : Standing) (note : NoteView)
    → TurnsBehind places node worker generation which most old new turned s note
    → HasAdded most (tells_down turned.combined) s (AreHandedIn (get_or note.desks worker no_desk) (record_of s.history)) old new
turned_added places node worker generation which most old new turned s note b =
    handed_added worker most (tells_down turned.combined) old new turned.collected s note b.has_turned.combined b.after b.numbers b.has_turned.handed
    (b.standing ∙ sym (turned_at places worker which most old new turned s note b.before b.after b.has_turned ∙ b.node_is))
    (is_up turned.combined b.after.node.replica.down b.down) b.served

pub collects_added : (node worker generation most : ℕ) (old new : List LastPiece) (told : Collected) (s : Standing) (note : NoteView)
    → CollectsBehind node worker generation most old new told s note
    → HasAdded most told.is_down s (AreHandedIn (get_or note.desks worker no_desk) (record_of s.history)) old new
collects_added node worker generation most old new told s note b =
    handed_added worker most told.is_down old new told.result s note b.before b.after b.numbers b.handed
    (b.standing ∙ sym (handed_node worker most old new told.result s note b.before b.after b.handed ∙ b.node_is)) (λ up. sym b.down ∙ up) b.served

-- of a worker that there isn't no batch was answered
executed_at : (worker : ℕ) (n : NodeState) (seat : CombinerView) (numbers : List ℕ) → IsServed n seat numbers → HasExecuted (get_or seat.desks worker no_desk) n.seat.standing
executed_at worker n seat numbers s = elim (cases_lt worker (length seat.desks)) [
  | inl near ↦ s.executed worker (subst (λ (k : ℕ). worker < k) s.workers near)
  | inr past ↦ subst (λ (d : CombinerPast). HasExecuted d n.seat.standing) (sym (get_or_past seat.desks worker no_desk past)) tt
]

handed_executed : (worker most : ℕ) (old new : List LastPiece) (r : Result (Unit {0}) Memory) (s : Standing) (note : NoteView) (c d : CombinerState) (numbers : List ℕ)
    → HandsOutTo worker most old new r s note c d → IsServed d.node d.seat numbers → HasExecuted (get_or note.desks worker no_desk) s
handed_executed worker most old new r s note c d numbers h served =
    subst (λ (x : Standing). HasExecuted (get_or note.desks worker no_desk) x) (sym h.token)
    (subst (λ (v : NoteView). HasExecuted (get_or v.desks worker no_desk) d.node.seat.standing) (sym h.note_is)
    (executed_at worker d.node d.seat numbers served))

pub turned_executed : (places node worker generation : ℕ) (which : Lifts) (most : ℕ) (old new : List LastPiece) (turned : Turned) (s : Standing) (note : NoteView)
    → TurnsBehind places node worker generation which most old new turned s note → HasExecuted (get_or note.desks worker no_desk) s
turned_executed places node worker generation which most old new turned s note b =
    handed_executed worker most old new turned.collected s note b.has_turned.combined b.after b.numbers b.has_turned.handed b.served

pub collects_executed : (node worker generation most : ℕ) (old new : List LastPiece) (told : Collected) (s : Standing) (note : NoteView)
    → CollectsBehind node worker generation most old new told s note → HasExecuted (get_or note.desks worker no_desk) s
collects_executed node worker generation most old new told s note b =
    handed_executed worker most old new told.result s note b.before b.after b.numbers b.handed b.served

-- so are the jobs of its connections
handed_own : (worker most : ℕ) (old new : List LastPiece) (r : Result (Unit {0}) Memory) (s : Standing) (note : NoteView) (c d : CombinerState) (numbers : List ℕ)
    → HandsOutTo worker most old new r s note c d → s.node ≡ d.node.book.node → IsServed d.node d.seat numbers → HasOwn worker (get_or note.desks worker no_desk) s
handed_own worker most old new r s note c d numbers h node served =
    subst (λ (v : NoteView). HasOwn worker (get_or v.desks worker no_desk) s) (sym h.note_is)
    (owns_all d.node d.seat.desks worker s h.opened node
    (subst (λ (x : Standing). AllByRecursion (IsOwnOfBatch d.node d.seat.desks) (record_of x.history)) (sym h.token) served.handed_in.done))

pub turned_own : (places node worker generation : ℕ) (which : Lifts) (most : ℕ) (old new : List LastPiece) (turned : Turned) (s : Standing) (note : NoteView)
    → TurnsBehind places node worker generation which most old new turned s note → HasOwn worker (get_or note.desks worker no_desk) s
turned_own places node worker generation which most old new turned s note b =
    handed_own worker most old new turned.collected s note b.has_turned.combined b.after b.numbers b.has_turned.handed
    (b.standing ∙ sym (turned_at places worker which most old new turned s note b.before b.after b.has_turned ∙ b.node_is)) b.served

pub collects_own : (node worker generation most : ℕ) (old new : List LastPiece) (told : Collected) (s : Standing) (note : NoteView)
    → CollectsBehind node worker generation most old new told s note → HasOwn worker (get_or note.desks worker no_desk) s
collects_own node worker generation most old new told s note b =
    handed_own worker most old new told.result s note b.before b.after b.numbers b.handed
    (b.standing ∙ sym (handed_node worker most old new told.result s note b.before b.after b.handed ∙ b.node_is)) b.served

-- a turn was one of this node
pub turns_behind : (places node worker generation : ℕ) (which : Lifts) (most : ℕ) (old new : List LastPiece) (turned : Turned) (s : Standing) (note : NoteView) (c d : CombinerState)
    → HasTurned places worker which most old new turned s note c d → c.node.book.node ≡ node → s.node ≡ c.node.book.node
    → (turned.combined ≡ Ok rounds.Down) ↔ (d.node.replica.down ≡ true) → turned.answered ≡ min (length (desk_of d.seat worker).answered) (2 ^ 64 - 1)
    → turned.since ≡ d.counts.since → (numbers : List ℕ) × IsServed d.node d.seat numbers → StandsLevel c → StandsLevel d
    → generation_of worker c.counts ≡ generation → TurnsBehind places node worker generation which most old new turned s note
turns_behind places node worker generation which most old new turned s note c d t is standing down answered since served was_level is_level met = record {
  before = c;
  after = d;
  has_turned = t;
  node_is = is;
  standing = standing ∙ is;
  down = down;
  answered = answered;
  since = since;
  met = met;
  numbers = served.0;
  served = served.1;
  was_level = was_level;
  is_level = is_level;
}

pub collects_behind : (node worker generation most : ℕ) (old new : List LastPiece) (told : Collected) (s : Standing) (note : NoteView) (c d : CombinerState)
    → HandsOutTo worker most old new told.result s note c d → c.node.book.node ≡ node → s.node ≡ c.node.book.node → told.is_down ≡ d.node.replica.down
    → told.answered ≡ min (length (desk_of d.seat worker).answered) (2 ^ 64 - 1) → told.since ≡ d.counts.since
    → (numbers : List ℕ) × IsServed d.node d.seat numbers → StandsLevel c → StandsLevel d → generation_of worker c.counts ≡ generation
    → CollectsBehind node worker generation most old new told s note
collects_behind node worker generation most old new told s note c d h is standing down answered since served was_level is_level met = record {
  before = c;
  after = d;
  handed = h;
  node_is = is;
  standing = standing ∙ is;
  down = down;
  answered = answered;
  since = since;
  met = met;
  numbers = served.0;
  served = served.1;
  was_level = was_level;
  is_level = is_level;
}

-- in the words of the worker, who posted what was lifted
each_weaker : (P Q : LastPiece → Type 0) → ((one : LastPiece) → P one → Q one) → (pieces : List LastPiece) → AllByRecursion P pieces → AllByRecursion Q pieces
each_weaker P Q f [] all = tt
each_weaker P Q f (one ∷ pieces) all = (f one all.0, each_weaker P Q f pieces all.1)

posted_by : (desk : CombinerPast) (posted : List Batch) (c : Connection) (done : Sequence) → IsBeginningOf desk.lifted posted → AreHandedIn desk done c
    → AreHandedIn (record { lifted = posted; answered = desk.answered; grip = desk.grip }) done c
posted_by desk posted c [] front all = tt
posted_by desk posted c (job ∷ done) front all = (
  λ same.
      let h = all.0 same in
      record {
        before = h.before;
        batch = h.batch;
        after = h.after ++ front.0;
        posted_is = sym front.1 ∙ ap (λ (bs : List Batch). bs ++ front.0) h.posted_is ∙ append_assoc h.before (h.batch ∷ h.after) front.0;
        kept = h.kept;
        has = h.has;
      },
  posted_by desk posted c done front all.1,
)

-- what a worker knows, told of a note, at whose desk for it this was done
knows_at : (s : Standing) (lane : WorkerPast) (desks : List CombinerPast) (seat : ℕ) → IsTold (get_or desks seat no_desk) lane → HasExecuted (get_or desks seat no_desk) s
    → HasOwn seat (get_or desks seat no_desk) s → Knows seat (get_or desks seat no_desk) s lane
knows_at s lane desks seat told executed own = record {
  told = told;
  executed = executed;
  own = λ c serves. posted_by (get_or desks seat no_desk) lane.posted c (record_of s.history) told.0 (own c serves);
}

pub knows_by : (s : Standing) (lane : WorkerPast) (desks : List CombinerPast) (worker seat : ℕ) (desk : CombinerPast) → worker ≡ seat → desk ≡ get_or desks seat no_desk
    → IsTold (get_or desks seat no_desk) lane → HasExecuted (get_or desks worker no_desk) s → HasOwn worker (get_or desks worker no_desk) s → Knows seat desk s lane
knows_by s lane desks worker seat desk is kept told executed own =
    subst (λ (d : CombinerPast). Knows seat d s lane) (sym kept) (knows_at s lane desks seat told
    (subst (λ (k : ℕ). HasExecuted (get_or desks k no_desk) s) is executed) (subst (λ (k : ℕ). HasOwn k (get_or desks k no_desk) s) is own))

pub heard_by : (most : ℕ) (down : Bool) (s : Standing) (lane : WorkerPast) (desks : List CombinerPast) (worker seat : ℕ) (desk : CombinerPast) (old new : List LastPiece) → worker ≡ seat
    → desk ≡ get_or desks seat no_desk → IsTold (get_or desks seat no_desk) lane → HasExecuted (get_or desks worker no_desk) s
    → HasOwn worker (get_or desks worker no_desk) s → HasAdded most down s (AreHandedIn (get_or desks worker no_desk) (record_of s.history)) old new
    → HasHeard seat most down desk s lane old new
heard_by most down s lane desks worker seat desk old new is kept told executed own added =
    let at = get_or desks seat no_desk in
    let here = subst (λ (k : ℕ). HasAdded most down s (AreHandedIn (get_or desks k no_desk) (record_of s.history)) old new) is added in
    record {
      knows = knows_by s lane desks worker seat desk is kept told executed own;
      added = subst (λ (d : CombinerPast). HasAdded most down s (AreHandedIn (with_posted lane d) (record_of s.history)) old new) (sym kept) record {
        pieces = here.pieces;
        behind = here.behind;
        all = here.all;
        own = each_weaker (λ (one : LastPiece). AreHandedIn at (record_of s.history) (connection_of one.piece.conn))
            (λ (one : LastPiece). AreHandedIn (with_posted lane at) (record_of s.history) (connection_of one.piece.conn))
            (λ one. posted_by at lane.posted (connection_of one.piece.conn) (record_of s.history) told.0) here.pieces here.own;
        rising = here.rising;
      };
    }

-- ---- how many batches were answered
fewer : (answered count most : ℕ) → answered ≡ min count most → answered ≤ count
fewer answered count most is = omega arith

counted_at : (answered most worker seat : ℕ) (desks : List CombinerPast) (desk : CombinerPast) → answered ≡ min (length (get_or desks worker no_desk).answered) most → worker ≡ seat
    → desk ≡ get_or desks seat no_desk → answered ≤ length desk.answered
counted_at answered most worker seat desks desk is same kept =
    subst (λ (d : CombinerPast). answered ≤ length d.answered) (sym kept)
    (subst (λ (k : ℕ). answered ≤ length (get_or desks k no_desk).answered) same (fewer answered (length (get_or desks worker no_desk).answered) most is))

-- as a turn ended, and as pieces were handed out without one
pub turned_counted : (places node worker generation : ℕ) (which : Lifts) (most : ℕ) (old new : List LastPiece) (turned : Turned) (s : Standing) (note : NoteView) (seat : ℕ) (desk : CombinerPast)
    → TurnsBehind places node worker generation which most old new turned s note → worker ≡ seat → desk ≡ get_or note.desks seat no_desk
    → turned.answered ≤ length desk.answered
turned_counted places node worker generation which most old new turned s note seat desk b same kept =
    counted_at turned.answered (2 ^ 64 - 1) worker seat b.after.seat.desks desk b.answered same
    (kept ∙ ap (λ (v : NoteView). get_or v.desks seat no_desk) b.has_turned.handed.note_is)

pub collects_counted : (node worker generation most : ℕ) (old new : List LastPiece) (told : Collected) (s : Standing) (note : NoteView) (seat : ℕ) (desk : CombinerPast)
    → CollectsBehind node worker generation most old new told s note → worker ≡ seat → desk ≡ get_or note.desks seat no_desk
    → told.answered ≤ length desk.answered
collects_counted node worker generation most old new told s note seat desk b same kept =
    counted_at told.answered (2 ^ 64 - 1) worker seat b.after.seat.desks desk b.answered same
    (kept ∙ ap (λ (v : NoteView). get_or v.desks seat no_desk) b.handed.note_is)
