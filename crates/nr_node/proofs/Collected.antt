-- What waits for a worker's connections is handed out, one after the other.
use Rattle.std.proofs.Common.{◌≡◌, ℕ, zero, suc, ◌+◌, ◌<◌, ◌≤◌, Bool, true, List, [], ◌∷◌, ◌++◌, length, take, drop, set, get_or, Option, Some, None, refl, ap, sym, ◌∙◌, subst, arith, append_assoc, append-nil, length-set, get_or-set_other}
use Rattle.std.specs.Prelude.{◌≢◌, ◌==◌, nat_le, filter, IfSome, is_err, Result, Ok, Err}
use Rattle.std.specs.List.{range_with_len}
use Rattle.std.proofs.lemmas.Bool.{leb-true, and_parts}
use Rattle.nr_model.specs.Bytes.{Bytes}
use Rattle.nr_model.specs.Connections.{is_some_bytes}
use Rattle.nr_model.specs.Items.{Connection}
use Rattle.nr_model.specs.Queues.{Queue}
use Rattle.nr_blob.specs.declared.memory.Memory.{Memory}
use Rattle.nr_log_end.specs.declared.standing.Standing.{Standing}
use Rattle.nr_replica.specs.Members.{Member, is_ready, ready_of, next_ready, handed_member}
use Rattle.nr_replica.specs.Replicas.{ReplicaState}
use Rattle.nr_node.specs.Batches.{IsOpened, IsPiece}
use Rattle.nr_node.specs.Collected.{IsHanded, AreHanded, HandsOver, Collects}
use Rattle.nr_node.specs.Level.{NodeState, IsLevel, connection_at, emitted_to, queue_at}
use Rattle.nr_node.specs.Sound.{IsSound}
use Rattle.nr_node.specs.Steps.{nobody, HasHandedOut, IsStill}
use Rattle.nr_node.specs.declared.collecting.LastPiece.{LastPiece}
use Rattle.nr_node.proofs.Ready.{none_left, found_passes, found_has, first_leads, ascends, all_within, none_past, agree_behind, from_zero}

some_bytes : (bytes : Bytes) → is_some_bytes bytes ≡ true → bytes ≢ []
some_bytes bytes some none = absurd (cc (sym some ∙ ap is_some_bytes none))

-- the next one was opened, and bytes wait for it
next_has : (worker from serial : ℕ) (members : List Member) → next_ready worker from members ≡ Some serial
    → (is_ready worker (get_or members serial nobody) ≡ true) × (serial < 0 + length members)
next_has worker from serial members found =
    let p : ℕ → Bool = λ s. is_ready worker (get_or members s nobody) in
    found_has (λ y. (p y ≡ true) × (y < 0 + length members)) (nat_le from) (ready_of worker members) serial (all_within p 0 (length members)) found

pub next_opened : (worker from serial : ℕ) (members : List Member) → next_ready worker from members ≡ Some serial → serial < length members
next_opened worker from serial members found = omega (arith, (next_has worker from serial members found).1)

pub next_waits : (worker from serial : ℕ) (members : List Member) → next_ready worker from members ≡ Some serial → (queue_at serial members).waiting ≢ []
next_waits worker from serial members found =
    let has = next_has worker from serial members found in
    let parts = and_parts ((get_or members serial nobody).worker == worker) (is_some_bytes (get_or members serial nobody).outbox.waiting) has.0 in
    some_bytes (get_or members serial nobody).outbox.waiting parts.1

pub next_behind : (worker from serial : ℕ) (members : List Member) → next_ready worker from members ≡ Some serial → from ≤ serial
next_behind worker from serial members found = leb-true from serial (found_passes (nat_le from) (ready_of worker members) serial found)

-- what is handed out to one changes nothing for those behind it
ready_behind : (worker serial : ℕ) (members : List Member) (x : Member)
    → filter (nat_le (serial + 1)) (ready_of worker (set members serial x)) ≡ filter (nat_le (serial + 1)) (ready_of worker members)
ready_behind worker serial members x =
    let p : ℕ → Bool = λ s. is_ready worker (get_or (set members serial x) s nobody) in
    let q : ℕ → Bool = λ s. is_ready worker (get_or members s nobody) in
    agree_behind (nat_le (serial + 1)) p q (range_with_len 0 (length (set members serial x)))
    (λ s behind.
    let apart : s ≡ serial → ⊥ = λ e. absurd (omega (arith, e, leb-true (serial + 1) s behind)) in
    ap (is_ready worker) (get_or-set_other members serial s x nobody apart))
    ∙ ap (λ (n : ℕ). filter (nat_le (serial + 1)) (filter q (range_with_len 0 n))) (length-set members serial x)

pub handed_more : (most serial : ℕ) (serials : List ℕ) (one : LastPiece) (pieces : List LastPiece) (n m k : NodeState)
    → AreHanded most serials pieces n m → IsHanded most serial one m k → AreHanded most (serials ++ serial ∷ []) (pieces ++ one ∷ []) n k
handed_more most serial [] one [] n m k all h = (k, subst (λ (x : NodeState). IsHanded most serial one x k) all h, refl)
handed_more most serial [] one (p ∷ ps) n m k all h = absurd all
handed_more most serial (s ∷ ss) one [] n m k all h = absurd all
handed_more most serial (s ∷ ss) one (p ∷ ps) n m k (mid, first, rest) h = (mid, first, handed_more most serial ss one ps mid m k rest h)

-- so far: what was handed out to those before a serial, and the others wait as they did
pub record HasCollectedTo (worker most from : ℕ) (old new : List LastPiece) (n m : NodeState) : Type 0 where
  pub serials : List ℕ
  pub pieces : List LastPiece
  pub behind : new ≡ old ++ pieces
  pub handed : AreHanded most serials pieces n m
  pub ready : serials ++ filter (nat_le from) (ready_of worker m.replica.members) ≡ ready_of worker n.replica.members
  pub long : length m.replica.members ≡ length n.replica.members
  pub owed : length m.replica.owed ≡ length n.replica.owed

pub none_yet : (worker most : ℕ) (old : List LastPiece) (n : NodeState) → HasCollectedTo worker most 0 old old n n
none_yet worker most old n = record {
  serials = [];
  pieces = [];
  behind = sym (append-nil old);
  handed = refl;
  ready = from_zero (ready_of worker n.replica.members);
  long = refl;
  owed = refl;
}

pub one_further : (worker most from serial : ℕ) (old mid new : List LastPiece) (n m k : NodeState) → HasCollectedTo worker most from old mid n m
    → next_ready worker from m.replica.members ≡ Some serial → HandsOver most serial mid new m k → HasCollectedTo worker most (serial + 1) old new n k
one_further worker most from serial old mid new n m k so found over =
    let one = over.one in
    let handed = over.handed in
    let members = m.replica.members in
    let p : ℕ → Bool = λ s. is_ready worker (get_or members s nobody) in
    let leads = first_leads from serial (ready_of worker members) (ascends p 0 (length members)) found in
    let x = handed_member most (get_or members serial nobody) in
    let now : k.replica.members ≡ set members serial x = ap (λ (r : ReplicaState). r.members) handed.handed.replica in
    let rest = filter (nat_le (serial + 1)) (ready_of worker k.replica.members) in
    let others : rest ≡ filter (nat_le (serial + 1)) (ready_of worker members) =
    ap (λ (ms : List Member). filter (nat_le (serial + 1)) (ready_of worker ms)) now ∙ ready_behind worker serial members x in
    record {
      serials = so.serials ++ serial ∷ [];
      pieces = so.pieces ++ one ∷ [];
      behind = over.behind ∙ ap (λ (xs : List LastPiece). xs ++ one ∷ []) so.behind ∙ append_assoc old so.pieces (one ∷ []);
      handed = handed_more most serial so.serials one so.pieces n m k so.handed handed;
      ready = append_assoc so.serials (serial ∷ []) rest ∙ ap (λ (r : List ℕ). so.serials ++ serial ∷ r) others ∙ ap (λ (r : List ℕ). so.serials ++ r) (sym leads) ∙ so.ready;
      long = ap (λ (ms : List Member). length ms) now ∙ length-set members serial x ∙ so.long;
      owed = ap (λ (r : ReplicaState). length r.owed) handed.handed.replica ∙ so.owed;
    }

-- where it ends: none waits from there on, or none is there
pub none_further : (worker most from : ℕ) (old new : List LastPiece) (n m : NodeState) → HasCollectedTo worker most from old new n m
    → next_ready worker from m.replica.members ≡ None → Collects worker most old new (Ok tt) n m
none_further worker most from old new n m so none = record {
  serials = so.serials;
  pieces = so.pieces;
  behind = so.behind;
  handed = so.handed;
  left = [];
  ready = ap (λ (r : List ℕ). so.serials ++ r) (sym (none_left (nat_le from) (ready_of worker m.replica.members) none)) ∙ so.ready;
  all = refl;
  some = tt;
}

-- where memory runs out for the next one
stopped_at : (worker most from serial : ℕ) (old new : List LastPiece) (n m : NodeState) (r : Result (Unit {0}) Memory) → HasCollectedTo worker most from old new n m
    → next_ready worker from m.replica.members ≡ Some serial → is_err r ≡ true → Collects worker most old new r n m
stopped_at worker most from serial old new n m (Ok done) so found failed = absurd (cc failed)
stopped_at worker most from serial old new n m (Err memory) so found failed =
    let members = m.replica.members in
    let p : ℕ → Bool = λ s. is_ready worker (get_or members s nobody) in
    let leads = first_leads from serial (ready_of worker members) (ascends p 0 (length members)) found in
    record {
      serials = so.serials;
      pieces = so.pieces;
      behind = so.behind;
      handed = so.handed;
      left = filter (nat_le from) (ready_of worker members);
      ready = so.ready;
      all = tt;
      some = λ none. absurd (cc (sym leads ∙ none));
    }

pub stopped : (worker most from serial : ℕ) (old now new : List LastPiece) (n m k : NodeState) (r : Result (Unit {0}) Memory)
    → HasCollectedTo worker most from old now n m → next_ready worker from m.replica.members ≡ Some serial → (new ≡ now) × (k ≡ m) → is_err r ≡ true
    → Collects worker most old new r n k
stopped worker most from serial old now new n m k r so found same failed =
    subst (λ (x : NodeState). Collects worker most old new r n x) (sym same.1)
    (subst (λ (xs : List LastPiece). Collects worker most old xs r n m) (sym same.0) (stopped_at worker most from serial old now n m r so found failed))

pub all_passed : (worker most from end : ℕ) (old new : List LastPiece) (n m : NodeState) → HasCollectedTo worker most from old new n m
    → end ≡ length n.replica.members → end ≤ from → Collects worker most old new (Ok tt) n m
all_passed worker most from end old new n m so is past =
    let members = m.replica.members in
    let p : ℕ → Bool = λ s. is_ready worker (get_or members s nobody) in
    let none = none_past p from (0 + length members) (ready_of worker members) (all_within p 0 (length members)) (omega (arith, past, is, so.long)) in
    record {
      serials = so.serials;
      pieces = so.pieces;
      behind = so.behind;
      handed = so.handed;
      left = [];
      ready = ap (λ (r : List ℕ). so.serials ++ r) (sym none) ∙ so.ready;
      all = refl;
      some = tt;
    }

-- one is handed out, behind those before
pub handed_over : (serial most : ℕ) (old mid new : List LastPiece) (given : Option LastPiece) (one : LastPiece) (n m : NodeState) → mid ≡ old → new ≡ mid ++ one ∷ []
    → given ≡ Some one → IfSome given (λ (h : LastPiece). IsHanded most serial h n m) → HandsOver most serial old new n m
handed_over serial most old mid new None one n m kept is none handed = absurd (cc none)
handed_over serial most old mid new (Some h) one n m kept is some handed =
    let same : h ≡ one = cc some in
    record {
      one = one;
      handed = subst (λ (x : LastPiece). IsHanded most serial x n m) same handed;
      behind = is ∙ ap (λ (xs : List LastPiece). xs ++ one ∷ []) kept;
    }

-- all that waits is handed out, where it is less than is asked for
take_less : (most : ℕ) (bytes : Bytes) → length (take most bytes) < most → take most bytes ≡ bytes
take_less zero bytes few = absurd (omega (arith, few))
take_less (suc most) [] few = refl
take_less (suc most) (b ∷ bytes) few = ap (λ (bs : Bytes). b ∷ bs) (take_less most bytes (omega (arith, few)))

whole_piece : (most from : ℕ) (q : Queue) (emitted bytes : Bytes) → bytes ≡ take most q.waiting → from ≡ q.handed → length bytes < most → q.waiting ≡ drop q.handed emitted
    → bytes ≡ drop from emitted
whole_piece most from q emitted bytes is at few whole =
    is ∙ take_less most q.waiting (subst (λ (bs : Bytes). length bs < most) is few) ∙ whole ∙ ap (λ (k : ℕ). drop k emitted) (sym at)

pub is_handed : (most serial : ℕ) (one : LastPiece) (n m : NodeState) → IsPiece n (connection_at n.replica.node serial) most one.piece n.seat.standing
    → one.is_cut ≡ (queue_at serial n.replica.members).cut → IsLevel n.seat.standing n.replica → IsSound n.seat.standing → HasHandedOut serial most n m
    → IsHanded most serial one n m
is_handed most serial one n m piece cut level sound handed = record {
  piece = piece;
  cut = cut;
  whole = λ up open_is few.
      whole_piece most one.piece.from (queue_at serial n.replica.members) (emitted_to n.seat.standing serial) one.piece.bytes.items piece.bytes piece.from few
      (level.whole up serial piece.opened.1 (sym cut ∙ open_is));
  sound = sound;
  handed = handed;
}

-- a token behind it leaves all as it was
pub piece_told : (most serial : ℕ) (one : LastPiece) (c : Connection) (n m : NodeState) (s : Standing) → IsOpened n c → c.serial ≡ serial → s ≡ m.seat.standing
    → IsHanded most serial one n m → IsPiece n c most one.piece s
piece_told most serial one c n m s opened same is h =
    let named : connection_at n.replica.node serial ≡ c = λ i. record { node = sym opened.0 i; serial = sym same i } in
    subst (λ (t : Standing). IsPiece n c most one.piece t) (sym (is ∙ h.handed.standing))
    (subst (λ (d : Connection). IsPiece n d most one.piece n.seat.standing) named h.piece)

pub handed_still : (serial most : ℕ) (n m k : NodeState) → HasHandedOut serial most n m → IsStill m k → HasHandedOut serial most n k
handed_still serial most n m k h still = record {
  replica = still.replica ∙ h.replica;
  standing = still.standing ∙ h.standing;
  looks = still.looks ∙ h.looks;
  book = still.book ∙ h.book;
  next = still.next ∙ h.next;
}
