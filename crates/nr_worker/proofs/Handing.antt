-- What was handed out for each connection goes on to begin what is emitted for it.
use Rattle.std.proofs.Common.{◌≡◌, ℕ, ◌+◌, Bool, true, false, cond, Option, Some, None, List, [], ◌∷◌, ◌++◌, map, filter, drop, length, refl, ap, sym, ◌∙◌, subst, append_assoc, append-nil, eq-eqb}
use Rattle.std.specs.Prelude.{◌==◌, ◌&&◌, ◌||◌, not}
use Rattle.std.specs.List.{AllByRecursion, list_any}
use Rattle.std.specs.Option.{option_map}
use Rattle.std.proofs.Math.Seq.{drop-append_seam}
use Rattle.std.proofs.lemmas.Bool.{eqb-true}
use Rattle.std.proofs.lemmas.List.{length-append}
use Rattle.nr_model.specs.Bytes.{Bytes, IsBeginningOf}
use Rattle.nr_model.specs.Items.{Connection}
use Rattle.nr_model.specs.Connections.{handed_to}
use Rattle.nr_worker.specs.Seated.{OpenConnectionState}
use Rattle.nr_worker.specs.Placed.{OpenConnectionsState, seat_at}
use Rattle.nr_worker.specs.Portions.{Portion, PortionArrival, kept_of, arrivals_at, bytes_of, follow, cuts, GrowsHere, AcceptsPortions, handed_of, handed_by, EachSeat, IsPieceOf, AreOfNode, HasHandedOut, HandsOut}

-- those that were kept are of those that came
pub all_kept : (P : Portion → Type 0) (xs : List PortionArrival) → AllByRecursion P (map (λ (x : PortionArrival). x.portion) xs) → AllByRecursion P (kept_of xs)
all_kept P [] all = tt
all_kept P (x ∷ xs) all =
    let more = all_kept P xs all.1 in
    elim x.kept as (λ k. AllByRecursion P (cond k (x.portion ∷ kept_of xs) (kept_of xs))) [ true ↦ (all.0, more) | false ↦ more ]

kept_whole : (kept last more : Bool) → ((not kept || last) || more) ≡ false → (kept ≡ true) × (more ≡ false)
kept_whole true true more is = absurd (cc is)
kept_whole true false more is = (refl, is)
kept_whole false last more is = absurd (cc is)

-- where none of them cuts all were kept
pub whole_kept : (xs : List PortionArrival) → list_any cuts xs ≡ false → kept_of xs ≡ map (λ (x : PortionArrival). x.portion) xs
whole_kept [] none = refl
whole_kept (x ∷ xs) none =
    let parts = kept_whole x.kept x.portion.last (list_any cuts xs) none in
    ap (λ k. cond k (x.portion ∷ kept_of xs) (kept_of xs)) parts.0 ∙ ap (λ (l : List Portion). x.portion ∷ l) (whole_kept xs parts.1)

-- those of a serial
abbrev own : ℕ → List Portion → List Portion
own serial portions = filter (λ (p : Portion). p.connection.serial == serial) portions

kept_one : (q : ℕ) (p : Portion) (k : Bool) (xs : List PortionArrival) → own q (kept_of xs) ≡ kept_of (arrivals_at q xs)
    → let x : PortionArrival = record { portion = p; kept = k } in own q (kept_of (x ∷ xs)) ≡ kept_of (arrivals_at q (x ∷ xs))
kept_one q p true xs more =
    let x : PortionArrival = record { portion = p; kept = true } in
    elim (p.connection.serial == q) as
    (λ b. cond b (p ∷ own q (kept_of xs)) (own q (kept_of xs)) ≡ kept_of (cond b (x ∷ arrivals_at q xs) (arrivals_at q xs))) [
      | true ↦ ap (λ (l : List Portion). p ∷ l) more
      | false ↦ more
    ]
kept_one q p false xs more =
    let x : PortionArrival = record { portion = p; kept = false } in
    elim (p.connection.serial == q) as (λ b. own q (kept_of xs) ≡ kept_of (cond b (x ∷ arrivals_at q xs) (arrivals_at q xs))) [
      | true ↦ more
      | false ↦ more
    ]

kept_own : (q : ℕ) (xs : List PortionArrival) → own q (kept_of xs) ≡ kept_of (arrivals_at q xs)
kept_own q [] = refl
kept_own q (x ∷ xs) = kept_one q x.portion x.kept xs (kept_own q xs)

handed_own : (c : Connection) (ps : List Portion) → AreOfNode c.node ps → handed_to c (map handed_of ps) ≡ bytes_of (own c.serial ps)
handed_own c [] all = refl
handed_own c (p ∷ ps) all =
    let more = handed_own c ps all.1 in
    let H = handed_to c (map handed_of ps) in
    ap (λ z. cond (z && (p.connection.serial == c.serial)) (p.bytes ++ H) H) (eq-eqb p.connection.node c.node all.0)
    ∙ elim (p.connection.serial == c.serial) as (λ b. cond b (p.bytes ++ H) H ≡ bytes_of (cond b (p ∷ own c.serial ps) (own c.serial ps))) [
      | true ↦ ap (λ (z : Bytes). p.bytes ++ z) more
      | false ↦ more
    ]

handed_other : (node : ℕ) (c : Connection) (ps : List Portion) → (c.node == node) ≡ false → AreOfNode node ps → handed_to c (map handed_of ps) ≡ []
handed_other node c [] other all = refl
handed_other node c (p ∷ ps) other all =
    let more = handed_other node c ps other all.1 in
    let H = handed_to c (map handed_of ps) in
    elim (p.connection.node == c.node) as
    (λ b. (p.connection.node == c.node) ≡ b → cond (b && (p.connection.serial == c.serial)) (p.bytes ++ H) H ≡ []) [
      | true ↦ λ own. absurd (cc (sym (eq-eqb c.node node (sym (eqb-true p.connection.node c.node own) ∙ all.0)) ∙ other))
      | false ↦ λ apart. more
    ] refl

-- those of a connection's serial are of what is emitted for it
pieces_own : (emitted : Connection → Bytes) (c : Connection) (ps : List Portion) → AreOfNode c.node ps → AllByRecursion (IsPieceOf emitted) ps
    → AllByRecursion (λ (p : Portion). IsBeginningOf p.bytes (drop p.from (emitted c))) (own c.serial ps)
pieces_own emitted c [] all pieces = tt
pieces_own emitted c (p ∷ ps) all pieces =
    let more = pieces_own emitted c ps all.1 pieces.1 in
    let Q : Portion → Type 0 = λ p. IsBeginningOf p.bytes (drop p.from (emitted c)) in
    elim (p.connection.serial == c.serial) as
    (λ b. (p.connection.serial == c.serial) ≡ b → AllByRecursion Q (cond b (p ∷ own c.serial ps) (own c.serial ps))) [
      | true ↦ λ here.
          let serial = eqb-true p.connection.serial c.serial here in
          let same : p.connection ≡ c = λ i. record { node = all.0 i; serial = serial i } in
          (subst (λ (d : Connection). IsBeginningOf p.bytes (drop p.from (emitted d))) same pieces.0.begins, more)
      | false ↦ λ other. more
    ] refl

-- a piece behind what was handed out begins on
begins_on : (front piece all : Bytes) → IsBeginningOf front all → IsBeginningOf piece (drop (length front) all) → IsBeginningOf (front ++ piece) all
begins_on front piece all b p = (
  p.0,
  append_assoc front piece p.0 ∙ ap (λ (xs : Bytes). front ++ xs) (p.1 ∙ sym (ap (drop (length front)) b.1) ∙ drop-append_seam front b.0) ∙ b.1,
)

each_is : (a b : Bool) → (a && b) ≡ true → (a ≡ true) × (b ≡ true)
each_is true b is = (refl, is)
each_is false b is = absurd (cc is)

-- and so do all that follow one another
follows_on : (all done : Bytes) (ps : List Portion) → follow (length done) ps ≡ true
    → AllByRecursion (λ (p : Portion). IsBeginningOf p.bytes (drop p.from all)) ps → IsBeginningOf done all → IsBeginningOf (done ++ bytes_of ps) all
follows_on all done [] follows pieces begins = subst (λ (x : Bytes). IsBeginningOf x all) (sym (append-nil done)) begins
follows_on all done (p ∷ ps) follows pieces begins =
    let parts = each_is (p.from == length done) (follow (length done + length p.bytes) ps) follows in
    let at = eqb-true p.from (length done) parts.0 in
    let one = begins_on done p.bytes all begins (subst (λ (n : ℕ). IsBeginningOf p.bytes (drop n all)) at pieces.0) in
    subst (λ (x : Bytes). IsBeginningOf x all) (append_assoc done p.bytes (bytes_of ps))
    (follows_on all (done ++ p.bytes) ps (ap (λ n. follow n ps) (length-append done p.bytes) ∙ parts.1) pieces.1 one)

some_is : (s t : OpenConnectionState) → Some s ≡ Some t → s ≡ t
some_is s t is = ap (λ (o : Option OpenConnectionState). elim o [ None ↦ s | Some x ↦ x ]) is

-- what was handed out for a connection of the node is what its seat accepted
handed_here : (node : ℕ) (c : Connection) (xs : List PortionArrival) → (c.node == node) ≡ true → AreOfNode node (kept_of xs)
    → handed_to c (handed_by xs) ≡ bytes_of (kept_of (arrivals_at c.serial xs))
handed_here node c xs here all =
    handed_own c (kept_of xs) (subst (λ (n : ℕ). AreOfNode n (kept_of xs)) (sym (eqb-true c.node node here)) all) ∙ ap bytes_of (kept_own c.serial xs)

waiting_here : (limit : ℕ) (xs : List PortionArrival) (o n : Option OpenConnectionState) (bytes : Bytes) → bytes ≡ bytes_of (kept_of xs) → GrowsHere limit xs o n
    → option_map (λ (s : OpenConnectionState). s.pending) n ≡ option_map (λ (b : Bytes). b ++ bytes) (option_map (λ (s : OpenConnectionState). s.pending) o)
waiting_here limit xs None None bytes is grows = refl
waiting_here limit xs None (Some t) bytes is grows = absurd grows
waiting_here limit xs (Some s) None bytes is grows = absurd grows
waiting_here limit xs (Some s) (Some t) bytes is grows = ap (λ (b : Bytes). Some b) (grows.pending ∙ ap (λ (b : Bytes). s.pending ++ b) (sym is))

none_here : (limit : ℕ) (xs : List PortionArrival) (o n : Option OpenConnectionState) (bytes : Bytes) → bytes ≡ bytes_of (kept_of xs) → GrowsHere limit xs o n → o ≡ None
    → (bytes ≡ []) × (n ≡ None)
none_here limit xs None None bytes is grows none = (is ∙ ap bytes_of grows, refl)
none_here limit xs None (Some t) bytes is grows none = absurd grows
none_here limit xs (Some s) n bytes is grows none = absurd (cc none)

-- it begins what is emitted for it, where what was handed out before is as long as the seat counts
begins_here : (limit : ℕ) (xs : List PortionArrival) (o n : Option OpenConnectionState) (all done : Bytes)
    → ((s : OpenConnectionState) → o ≡ Some s → s.handed ≡ length done)
    → AllByRecursion (λ (p : Portion). IsBeginningOf p.bytes (drop p.from all)) (kept_of xs) → GrowsHere limit xs o n
    → IsBeginningOf done all → IsBeginningOf (done ++ bytes_of (kept_of xs)) all
begins_here limit xs None None all done counted pieces grows begins =
    subst (λ (l : List Portion). IsBeginningOf (done ++ bytes_of l) all) (sym grows)
    (subst (λ (x : Bytes). IsBeginningOf x all) (sym (append-nil done)) begins)
begins_here limit xs None (Some t) all done counted pieces grows begins = absurd grows
begins_here limit xs (Some s) None all done counted pieces grows begins = absurd grows
begins_here limit xs (Some s) (Some t) all done counted pieces grows begins =
    follows_on all done (kept_of xs) (ap (λ n. follow n (kept_of xs)) (sym (counted s refl)) ∙ grows.follows) pieces begins

counted_here : (limit : ℕ) (xs : List PortionArrival) (o n : Option OpenConnectionState) (done : Bytes) → ((s : OpenConnectionState) → o ≡ Some s → s.handed ≡ length done)
    → GrowsHere limit xs o n → (t : OpenConnectionState) → n ≡ Some t → t.handed ≡ length (done ++ bytes_of (kept_of xs))
counted_here limit xs None None done counted grows t is = absurd (cc is)
counted_here limit xs None (Some u) done counted grows t is = absurd grows
counted_here limit xs (Some s) None done counted grows t is = absurd grows
counted_here limit xs (Some s) (Some u) done counted grows t is =
    ap (λ (x : OpenConnectionState). x.handed) (sym (some_is u t is)) ∙ grows.handed
    ∙ ap (λ n. n + length (bytes_of (kept_of xs))) (counted s refl) ∙ sym (length-append done (bytes_of (kept_of xs)))

-- of the pieces that came, those that were kept are of the node
kept_node : (node limit : ℕ) (portions : List Portion) (old new : OpenConnectionsState) (a : AcceptsPortions limit portions old new) → AreOfNode node portions
    → AreOfNode node (kept_of a.arrivals)
kept_node node limit portions old new a all =
    all_kept (λ (p : Portion). p.connection.node ≡ node) a.arrivals (subst (λ (l : List Portion). AreOfNode node l) (sym a.are) all)

-- Pieces for connections of a node are handed out at their seats.
pub hands_out : (node limit : ℕ) (portions : List Portion) (old new : OpenConnectionsState) (a : AcceptsPortions limit portions old new) → AreOfNode node portions
    → HandsOut node (handed_by a.arrivals) old new
hands_out node limit portions old new a all =
    let kept = kept_node node limit portions old new a all in
    record {
      waiting = λ c. elim (c.node == node) as
          (λ b. (c.node == node) ≡ b
          → option_map (λ (s : OpenConnectionState). s.pending) (cond b (seat_at c.serial new) None)
          ≡ option_map (λ (bytes : Bytes). bytes ++ handed_to c (handed_by a.arrivals)) (option_map (λ (s : OpenConnectionState). s.pending) (cond b (seat_at c.serial old) None))) [
            | true ↦ λ here.
                waiting_here limit (arrivals_at c.serial a.arrivals) (seat_at c.serial old) (seat_at c.serial new) (handed_to c (handed_by a.arrivals))
                (handed_here node c a.arrivals here kept) (a.at c.serial)
            | false ↦ λ other. refl
          ] refl;
      none = λ c. elim (c.node == node) as
          (λ b. (c.node == node) ≡ b → cond b (seat_at c.serial old) None ≡ None
          → (handed_to c (handed_by a.arrivals) ≡ []) × (cond b (seat_at c.serial new) None ≡ None)) [
            | true ↦ λ here.
                none_here limit (arrivals_at c.serial a.arrivals) (seat_at c.serial old) (seat_at c.serial new) (handed_to c (handed_by a.arrivals))
                (handed_here node c a.arrivals here kept) (a.at c.serial)
            | false ↦ λ other none. (handed_other node c (kept_of a.arrivals) other kept, refl)
          ] refl;
    }

each_here : (Q : OpenConnectionState → Type 0) (limit : ℕ) (xs : List PortionArrival) (o n : Option OpenConnectionState) → GrowsHere limit xs o n
    → ((s t : OpenConnectionState) → t.session ≡ s.session → Q s → Q t) → ((s : OpenConnectionState) → o ≡ Some s → Q s) → (t : OpenConnectionState) → n ≡ Some t → Q t
each_here Q limit xs None None grows keeps was t is = absurd (cc is)
each_here Q limit xs None (Some u) grows keeps was t is = absurd grows
each_here Q limit xs (Some s) None grows keeps was t is = absurd grows
each_here Q limit xs (Some s) (Some u) grows keeps was t is = subst Q (some_is u t is) (keeps s u grows.session (was s refl))

-- What holds of each seat's session holds still.
pub each_accepted : (P : Connection → OpenConnectionState → Type 0) → ((c : Connection) (s t : OpenConnectionState) → t.session ≡ s.session → P c s → P c t)
    → (node limit : ℕ) (portions : List Portion) (old new : OpenConnectionsState) → AcceptsPortions limit portions old new → EachSeat P node old → EachSeat P node new
each_accepted P keeps node limit portions old new a was = λ c. elim (c.node == node) as
    (λ b. ((s : OpenConnectionState) → cond b (seat_at c.serial old) None ≡ Some s → P c s)
    → (t : OpenConnectionState) → cond b (seat_at c.serial new) None ≡ Some t → P c t) [
      | true ↦ each_here (P c) limit (arrivals_at c.serial a.arrivals) (seat_at c.serial old) (seat_at c.serial new) (a.at c.serial) (keeps c)
      | false ↦ λ was t is. absurd (cc is)
    ] (was c)

-- Where what had been handed out for each connection begins what is emitted for it, and each piece is of that, so it does with what was kept.
pub handed_on : (emitted : Connection → Bytes) (node limit : ℕ) (portions : List Portion) (old new : OpenConnectionsState) (handed : Connection → Bytes)
    (a : AcceptsPortions limit portions old new) → AreOfNode node portions → AllByRecursion (IsPieceOf emitted) portions
    → HasHandedOut emitted node old handed → HasHandedOut emitted node new (λ c. handed c ++ handed_to c (handed_by a.arrivals))
handed_on emitted node limit portions old new handed a all pieces was =
    let kept = kept_node node limit portions old new a all in
    let of = all_kept (IsPieceOf emitted) a.arrivals (subst (λ (l : List Portion). AllByRecursion (IsPieceOf emitted) l) (sym a.are) pieces) in
    record {
      begins = λ c. elim (c.node == node) as
          (λ b. (c.node == node) ≡ b → ((s : OpenConnectionState) → cond b (seat_at c.serial old) None ≡ Some s → s.handed ≡ length (handed c))
          → IsBeginningOf (handed c ++ handed_to c (handed_by a.arrivals)) (emitted c)) [
            | true ↦ λ here counted.
                let at = kept_own c.serial a.arrivals in
                let mine = subst (λ (n : ℕ). AreOfNode n (kept_of a.arrivals)) (sym (eqb-true c.node node here)) kept in
                subst (λ (x : Bytes). IsBeginningOf (handed c ++ x) (emitted c)) (sym (handed_here node c a.arrivals here kept))
                (begins_here limit (arrivals_at c.serial a.arrivals) (seat_at c.serial old) (seat_at c.serial new) (emitted c) (handed c) counted
                (subst (λ (l : List Portion). AllByRecursion (λ (p : Portion). IsBeginningOf p.bytes (drop p.from (emitted c))) l) at
                (pieces_own emitted c (kept_of a.arrivals) mine of)) (a.at c.serial) (was.begins c))
            | false ↦ λ other counted.
                subst (λ (x : Bytes). IsBeginningOf x (emitted c))
                (sym (ap (λ (x : Bytes). handed c ++ x) (handed_other node c (kept_of a.arrivals) other kept) ∙ append-nil (handed c))) (was.begins c)
          ] refl (was.counted c);
      counted = λ c. elim (c.node == node) as
          (λ b. (c.node == node) ≡ b → ((s : OpenConnectionState) → cond b (seat_at c.serial old) None ≡ Some s → s.handed ≡ length (handed c))
          → (t : OpenConnectionState) → cond b (seat_at c.serial new) None ≡ Some t → t.handed ≡ length (handed c ++ handed_to c (handed_by a.arrivals))) [
            | true ↦ λ here counted t is.
                counted_here limit (arrivals_at c.serial a.arrivals) (seat_at c.serial old) (seat_at c.serial new) (handed c) counted (a.at c.serial) t is
                ∙ ap (λ (x : Bytes). length (handed c ++ x)) (sym (handed_here node c a.arrivals here kept))
            | false ↦ λ other counted t is. absurd (cc is)
          ] refl (was.counted c);
    }
