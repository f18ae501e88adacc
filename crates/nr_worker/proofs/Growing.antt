-- Pieces come to seats, one behind the other.
use Rattle.std.proofs.Common.{◌≡◌, ℕ, ◌+◌, ◌<◌, ◌^◌, Bool, true, false, cond, Option, Some, None, List, [], ◌∷◌, ◌++◌, length, refl, ap, sym, ◌∙◌, subst, append_assoc, append-nil, add_assoc, add-zero}
use Rattle.std.specs.Prelude.{◌==◌, ◌&&◌, ◌||◌}
use Rattle.std.specs.List.{list_any}
use Rattle.std.specs.Ordering.{eq_by_cmp, nat_cmp}
use Rattle.std.proofs.Math.Bool.{or_assoc}
use Rattle.std.proofs.lemmas.Bool.{eqb-true}
use Rattle.std.proofs.lemmas.List.{length-append, map-append}
use Rattle.std.proofs.lemmas.List.Elements.{filter-append}
use Rattle.std.proofs.lemmas.List.Folds.{list_any-append}
use Rattle.nr_model.specs.Bytes.{Bytes}
use Rattle.nr_worker.specs.Seated.{OpenConnectionState}
use Rattle.nr_worker.specs.Placed.{OpenConnectionsState, seat_at}
use Rattle.nr_worker.specs.Portions.{Portion, PortionArrival, kept_of, arrivals_at, bytes_of, follow, cuts, IsNext, Grows, GrowsHere, AcceptsPortions}
use Rattle.nr_worker.proofs.Found.{put_by}

pub kept_both : (xs ys : List PortionArrival) → kept_of (xs ++ ys) ≡ kept_of xs ++ kept_of ys
kept_both [] ys = refl
kept_both (x ∷ xs) ys =
    let more = kept_both xs ys in
    elim x.kept as (λ k. cond k (x.portion ∷ kept_of (xs ++ ys)) (kept_of (xs ++ ys)) ≡ cond k (x.portion ∷ kept_of xs) (kept_of xs) ++ kept_of ys) [
      | true ↦ ap (λ (l : List Portion). x.portion ∷ l) more
      | false ↦ more
    ]

pub bytes_both : (xs ys : List Portion) → bytes_of (xs ++ ys) ≡ bytes_of xs ++ bytes_of ys
bytes_both [] ys = refl
bytes_both (x ∷ xs) ys = ap (λ (b : Bytes). x.bytes ++ b) (bytes_both xs ys) ∙ sym (append_assoc x.bytes (bytes_of xs) (bytes_of ys))

kept_bytes : (xs ys : List PortionArrival) → bytes_of (kept_of (xs ++ ys)) ≡ bytes_of (kept_of xs) ++ bytes_of (kept_of ys)
kept_bytes xs ys = ap bytes_of (kept_both xs ys) ∙ bytes_both (kept_of xs) (kept_of ys)

then_both : (a b c : Bool) → (a && (b && c)) ≡ ((a && b) && c)
then_both true b c = refl
then_both false b c = refl

follow_both : (count : ℕ) (xs ys : List Portion) → follow count (xs ++ ys) ≡ (follow count xs && follow (count + length (bytes_of xs)) ys)
follow_both count [] ys = ap (λ n. follow n ys) (sym (add-zero count))
follow_both count (x ∷ xs) ys =
    let n = count + length x.bytes in
    ap (λ b. (x.from == count) && b)
    (follow_both n xs ys
    ∙ ap (λ k. follow n xs && follow k ys) (add_assoc count (length x.bytes) (length (bytes_of xs)) ∙ ap (λ k. count + k) (sym (length-append x.bytes (bytes_of xs)))))
    ∙ then_both (x.from == count) (follow n xs) (follow (count + length (x.bytes ++ bytes_of xs)) ys)

none_more : (b : Bool) → b ≡ (b || false)
none_more true = refl
none_more false = refl

abbrev head_or : PortionArrival → List PortionArrival → PortionArrival
head_or other [] = other
head_or other (x ∷ xs) = x

grows_none : (limit : ℕ) (s : OpenConnectionState) → Grows limit [] s s
grows_none limit s = record {
  session = refl;
  pending = sym (append-nil s.pending);
  handed = sym (add-zero s.handed);
  follows = refl;
  cut = none_more s.cut;
  within = λ few. few;
  first = λ arrival others is next. absurd (cc is);
}

-- the next of a seat to which nothing came
still_next : (limit : ℕ) (a b : OpenConnectionState) (p : Portion) → b.pending ≡ a.pending → b.handed ≡ a.handed → IsNext limit a p → IsNext limit b p
still_next limit a b p pending handed next = record {
  none = pending ∙ next.none;
  next = next.next ∙ sym handed;
  few = next.few;
  counted = subst (λ (n : ℕ). n + length p.bytes < 2 ^ 64) (sym handed) next.counted;
}

first_both : (limit : ℕ) (xs ys : List PortionArrival) (a b d : OpenConnectionState) → Grows limit xs a b → Grows limit ys b d
    → (arrival : PortionArrival) (others : List PortionArrival) → xs ++ ys ≡ arrival ∷ others → IsNext limit a arrival.portion → arrival.kept ≡ true
first_both limit [] ys a b d one two arrival others is next =
    two.first arrival others is (still_next limit a b arrival.portion (one.pending ∙ append-nil a.pending) (one.handed ∙ add-zero a.handed) next)
first_both limit (x ∷ xs) ys a b d one two arrival others is next = one.first arrival xs (ap (λ z. z ∷ xs) (ap (head_or x) is)) next

grows_then : (limit : ℕ) (xs ys : List PortionArrival) (a b d : OpenConnectionState) → Grows limit xs a b → Grows limit ys b d → Grows limit (xs ++ ys) a d
grows_then limit xs ys a b d one two =
    let X = bytes_of (kept_of xs) in
    let Y = bytes_of (kept_of ys) in
    record {
      session = two.session ∙ one.session;
      pending = two.pending ∙ ap (λ (z : Bytes). z ++ Y) one.pending ∙ append_assoc a.pending X Y ∙ ap (λ (z : Bytes). a.pending ++ z) (sym (kept_bytes xs ys));
      handed =
          two.handed ∙ ap (λ n. n + length Y) one.handed ∙ add_assoc a.handed (length X) (length Y)
          ∙ ap (λ n. a.handed + n) (sym (ap length (kept_bytes xs ys) ∙ length-append X Y));
      follows =
          ap (follow a.handed) (kept_both xs ys) ∙ follow_both a.handed (kept_of xs) (kept_of ys)
          ∙ (λ i. one.follows i && follow (sym one.handed i) (kept_of ys)) ∙ two.follows;
      cut =
          two.cut ∙ ap (λ z. z || list_any cuts ys) one.cut ∙ or_assoc a.cut (list_any cuts xs) (list_any cuts ys)
          ∙ ap (λ z. a.cut || z) (sym (list_any-append cuts xs ys));
      within = λ few. two.within (one.within few);
      first = first_both limit xs ys a b d one two;
    }

here_none : (limit : ℕ) (o : Option OpenConnectionState) → GrowsHere limit [] o o
here_none limit None = refl
here_none limit (Some s) = grows_none limit s

here_then : (limit : ℕ) (xs ys : List PortionArrival) (a b d : Option OpenConnectionState) → GrowsHere limit xs a b → GrowsHere limit ys b d → GrowsHere limit (xs ++ ys) a d
here_then limit xs ys None None None one two = kept_both xs ys ∙ (λ i. one i ++ two i)
here_then limit xs ys None None (Some d) one two = two
here_then limit xs ys None (Some b) d one two = absurd one
here_then limit xs ys (Some a) None d one two = absurd one
here_then limit xs ys (Some a) (Some b) None one two = two
here_then limit xs ys (Some a) (Some b) (Some d) one two = grows_then limit xs ys a b d one two

here_along : (limit : ℕ) (xs ys : List PortionArrival) (a b c d : Option OpenConnectionState) → ys ≡ xs → c ≡ a → d ≡ b → GrowsHere limit xs a b → GrowsHere limit ys c d
here_along limit xs ys a b c d e f g h =
    subst (λ (zs : List PortionArrival). GrowsHere limit zs c d) (sym e)
    (subst (λ (o : Option OpenConnectionState). GrowsHere limit xs o d) (sym f) (subst (λ (o : Option OpenConnectionState). GrowsHere limit xs a o) (sym g) h))

pub accepts_none : (limit : ℕ) (seats : OpenConnectionsState) → AcceptsPortions limit [] seats seats
accepts_none limit seats = record { arrivals = []; are = refl; at = λ q. here_none limit (seat_at q seats) }

pub accepts_then : (limit : ℕ) (xs ys : List Portion) (a b d : OpenConnectionsState) → AcceptsPortions limit xs a b → AcceptsPortions limit ys b d → AcceptsPortions limit (xs ++ ys) a d
accepts_then limit xs ys a b d one two = record {
  arrivals = one.arrivals ++ two.arrivals;
  are = map-append (λ (x : PortionArrival). x.portion) one.arrivals two.arrivals ∙ (λ i. one.are i ++ two.are i);
  at = λ q.
      subst (λ (zs : List PortionArrival). GrowsHere limit zs (seat_at q a) (seat_at q d))
      (sym (filter-append (λ (x : PortionArrival). x.portion.connection.serial == q) one.arrivals two.arrivals))
      (here_then limit (arrivals_at q one.arrivals) (arrivals_at q two.arrivals) (seat_at q a) (seat_at q b) (seat_at q d) (one.at q) (two.at q));
}

-- a piece came to the seat of its serial
pub accepts_one : (limit : ℕ) (old new : OpenConnectionsState) (p : Portion) (kept : Bool) (serial : ℕ) (s t : OpenConnectionState) → p.connection.serial ≡ serial
    → Some s ≡ seat_at serial old → ((q : ℕ) → seat_at q new ≡ cond (eq_by_cmp nat_cmp serial q) (Some t) (seat_at q old))
    → Grows limit (record { portion = p; kept = kept } ∷ []) s t → AcceptsPortions limit (p ∷ []) old new
accepts_one limit old new p kept serial s t named was changes grows =
    let a : PortionArrival = record { portion = p; kept = kept } in
    let put = put_by old new serial (Some t) changes in
    record {
      arrivals = a ∷ [];
      are = refl;
      at = λ q. elim (serial == q) as (λ b. (serial == q) ≡ b → GrowsHere limit (arrivals_at q (a ∷ [])) (seat_at q old) (seat_at q new)) [
        | true ↦ λ own.
            here_along limit (a ∷ []) (arrivals_at q (a ∷ [])) (Some s) (Some t) (seat_at q old) (seat_at q new)
            (ap (λ b. cond b (a ∷ []) []) (ap (λ n. n == q) named ∙ own))
            (ap (λ n. seat_at n old) (sym (eqb-true serial q own)) ∙ sym was) (put.at q ∙ ap (λ b. cond b (Some t) (seat_at q old)) own) grows
        | false ↦ λ other.
            here_along limit [] (arrivals_at q (a ∷ [])) (seat_at q old) (seat_at q old) (seat_at q old) (seat_at q new)
            (ap (λ b. cond b (a ∷ []) []) (ap (λ n. n == q) named ∙ other)) refl (put.at q ∙ ap (λ b. cond b (Some t) (seat_at q old)) other)
            (here_none limit (seat_at q old))
      ] refl;
    }

-- or is lost, where there is none
lost_here : (limit : ℕ) (old : OpenConnectionsState) (p : Portion) (serial : ℕ) → p.connection.serial ≡ serial → None ≡ seat_at serial old
    → AcceptsPortions limit (p ∷ []) old old
lost_here limit old p serial named was =
    let a : PortionArrival = record { portion = p; kept = false } in
    record {
      arrivals = a ∷ [];
      are = refl;
      at = λ q. elim (serial == q) as (λ b. (serial == q) ≡ b → GrowsHere limit (arrivals_at q (a ∷ [])) (seat_at q old) (seat_at q old)) [
        | true ↦ λ own.
            let none = ap (λ n. seat_at n old) (sym (eqb-true serial q own)) ∙ sym was in
            here_along limit (a ∷ []) (arrivals_at q (a ∷ [])) None None (seat_at q old) (seat_at q old)
            (ap (λ b. cond b (a ∷ []) []) (ap (λ n. n == q) named ∙ own)) none none refl
        | false ↦ λ other.
            here_along limit [] (arrivals_at q (a ∷ [])) (seat_at q old) (seat_at q old) (seat_at q old) (seat_at q old)
            (ap (λ b. cond b (a ∷ []) []) (ap (λ n. n == q) named ∙ other)) refl refl (here_none limit (seat_at q old))
      ] refl;
    }

pub accepts_lost : (limit : ℕ) (old new : OpenConnectionsState) (p : Portion) (serial : ℕ) → p.connection.serial ≡ serial → None ≡ seat_at serial old → new ≡ old
    → AcceptsPortions limit (p ∷ []) old new
accepts_lost limit old new p serial named was same =
    subst (λ (seats : OpenConnectionsState). AcceptsPortions limit (p ∷ []) old seats) (sym same) (lost_here limit old p serial named was)

-- piece by piece: those that were put, and those that are left, are all
pub record IsAccepting (limit : ℕ) (all left : List Portion) (old now : OpenConnectionsState) : Type 0 where
  pub put : List Portion
  pub are : put ++ left ≡ all
  pub accepted : AcceptsPortions limit put old now

pub accepting_none : (limit : ℕ) (all left : List Portion) (old now : OpenConnectionsState) → left ≡ all → now ≡ old → IsAccepting limit all left old now
accepting_none limit all left old now same still = record {
  put = [];
  are = same;
  accepted = subst (λ (seats : OpenConnectionsState). AcceptsPortions limit [] old seats) (sym still) (accepts_none limit old);
}

pub accepting_more : (limit : ℕ) (all left : List Portion) (p : Portion) (old now new : OpenConnectionsState) → IsAccepting limit all (p ∷ left) old now
    → AcceptsPortions limit (p ∷ []) now new → IsAccepting limit all left old new
accepting_more limit all left p old now new so_far one = record {
  put = so_far.put ++ p ∷ [];
  are = append_assoc so_far.put (p ∷ []) left ∙ so_far.are;
  accepted = accepts_then limit so_far.put (p ∷ []) old now new so_far.accepted one;
}

pub accepting_all : (limit : ℕ) (all : List Portion) (old now : OpenConnectionsState) → IsAccepting limit all [] old now → AcceptsPortions limit all old now
accepting_all limit all old now whole =
    subst (λ (l : List Portion). AcceptsPortions limit l old now) (sym (append-nil whole.put) ∙ whole.are) whole.accepted
