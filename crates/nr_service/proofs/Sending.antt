-- What was sent where all clients were looked at.
use Rattle.std.proofs.Common.{◌≡◌, ◌≢◌, ℕ, ◌+◌, ◌<◌, ◌≤◌, Bool, true, false, ◌||◌, ltb, ◌⊎◌, inl, inr, List, [], ◌++◌, length, get_or, map, take, refl, sym, ap, ◌∙◌, subst, arith, get_or-set_same, get_or-set_other, true≢false}
use Rattle.std.specs.Prelude.{None, All, Option}
use Rattle.std.specs.List.{AllWithin, IsDistinct}
use Rattle.std.proofs.Math.ListN.{set}
use Rattle.std.proofs.Math.Seq.{take-append_seam}
use Rattle.std.proofs.lemmas.Bool.{cases_Bool, ltb-true, ltb-false}
use Rattle.std.proofs.lemmas.List.{get_or-map, length-map}
use Rattle.std.proofs.lemmas.Map.Keys.{apart_from_distinct}
use Rattle.nr_model.specs.Bytes.{Bytes}
use Rattle.nr_model.specs.Items.{Connection, same_connection}
use Rattle.nr_service.specs.Leaving.{IsEnding}
use Rattle.nr_service.specs.Serving.{connection}
use Rattle.nr_service.specs.Stories.{Kept, KeepsOthers, kept_bytes}
use Rattle.nr_service.specs.Sweeps.{AreSent, GoesOnAt, GoOn, IsSent, IsSentOrBroken, LooksSoon, WritesAt}
use Rattle.nr_service.specs.declared.backend.ConnectionState.{ConnectionState}
use Rattle.nr_service.specs.declared.client.Client.{Client}
use Rattle.nr_service.specs.declared.leaving.LeavingBounds.{LeavingBounds}
use Rattle.nr_service.proofs.Apart.{flips}
use Rattle.nr_service.proofs.Working.{get_or_within}

-- two at different places are of different connections
before_apart : {S : Type 0} (clients : List (Client S)) (i k : ℕ) (client : Client S) → IsDistinct same_connection (map connection clients) → i < k
    → k < length clients → same_connection (connection (get_or clients i client)) (connection (get_or clients k client)) ≡ false
before_apart clients i k client apart before high =
    let long = length-map clients connection in
    let first : get_or (map connection clients) i (connection client) ≡ connection (get_or clients i client) =
    get_or-map connection clients i client (connection client) (omega (arith, before, high)) in
    let second : get_or (map connection clients) k (connection client) ≡ connection (get_or clients k client) =
    get_or-map connection clients k client (connection client) high in
    (λ j. same_connection (sym first j) (sym second j))
    ∙ apart_from_distinct same_connection (map connection clients) i k (connection client) apart before (omega arith)

pub apart_at : {S : Type 0} (clients : List (Client S)) (i k : ℕ) (client : Client S) → IsDistinct same_connection (map connection clients) → k ≢ i
    → i < length clients → k < length clients
    → same_connection (connection (get_or clients k client)) (connection (get_or clients i client)) ≡ false
apart_at clients i k client apart differs low high =
    elim (cases_Bool (ltb k i)) [
      | inl before ↦ before_apart clients k i client apart (ltb-true k i before) low
      | inr behind ↦ let at = ltb-false k i behind in
          flips (connection (get_or clients k client)) (connection (get_or clients i client))
          ∙ before_apart clients i k client apart (omega arith) high
    ]

-- where the same is kept for it
sent_still : {S : Type 0} (before after : Kept) (client : Client S) → after (connection client) ≡ before (connection client)
    → IsSentOrBroken before client → IsSentOrBroken after client
sent_still before after client same sent =
    subst (λ (kept : Option Bytes). ((kept_bytes kept ≡ []) ⊎ (client.is_full ≡ true)) ⊎ (client.is_broken ≡ true)) (sym same) sent

-- one was written
pub writes_one : {A S : Type 0} (keeps : A → Kept) (place : ℕ) (busy_before busy_after : Bool) (before after : A) (clients : List (Client S))
    (item new : Client S) → place < length clients → (busy_after ≡ false → busy_before ≡ false)
    → (busy_after ≡ false → IsSentOrBroken (keeps after) new)
    → KeepsOthers (connection (get_or clients place item)) (keeps before) (keeps after)
    → WritesAt keeps place busy_before busy_after before after clients (set clients place new)
writes_one {A} {S} keeps place busy_before busy_after before after clients item new within calm sent others = record {
  calm = calm;
  here = λ rests client low.
      subst (λ (c : Client S). IsSentOrBroken (keeps after) c) (sym (get_or-set_same clients place new client within)) (sent rests);
  others = λ apart k client differs high was.
      subst (λ (c : Client S). IsSentOrBroken (keeps after) c) (sym (get_or-set_other clients place k new client differs))
      (sent_still (keeps before) (keeps after) (get_or clients k client)
      (others (connection (get_or clients k client))
      (ap (λ (c : Client S). same_connection (connection (get_or clients k client)) (connection c)) (get_or_within clients place item client within)
      ∙ apart_at clients place k client apart differs within high)) was);
}

-- there was none
pub writes_none : {A S : Type 0} (keeps : A → Kept) (place : ℕ) (busy : Bool) (state : A) (clients : List (Client S)) → length clients ≤ place
    → WritesAt keeps place busy busy state state clients clients
writes_none keeps place busy state clients none = record {
  calm = λ rests. rests;
  here = λ rests client low. absurd (omega arith);
  others = λ apart k client differs high was. was;
}

-- in front of a place or at it
front_or_at : (k n : ℕ) → k < n + 1 → (k < n) ⊎ (k ≡ n)
front_or_at k n low = elim (cases_Bool (ltb k n)) [ inl below ↦ inl (ltb-true k n below) | inr at ↦ inr (omega (arith, ltb-false k n at)) ]

-- one more was
pub sent_more : {A S : Type 0} (keeps : A → Kept) (place at : ℕ) (busy_before busy_after : Bool) (before after : A) (old new : List (Client S))
    → place ≡ at → at < length old → busy_after ≡ false → IsDistinct same_connection (map connection old)
    → WritesAt keeps place busy_before busy_after before after old new → AllWithin (IsSentOrBroken (keeps before)) old 0 at
    → AllWithin (IsSentOrBroken (keeps after)) new 0 (at + 1)
sent_more {A} {S} keeps place at busy_before busy_after before after old new is within rests apart writes so_far = λ k client low high.
    elim (front_or_at k at high) [
      | inl front ↦ writes.others apart k client (λ e. omega (arith, e, is)) (omega arith) (so_far k client low front)
      | inr here ↦ subst (λ (i : ℕ). IsSentOrBroken (keeps after) (get_or new i client)) (is ∙ sym here) (writes.here rests client (omega (arith, is)))
    ]

-- one more goes on
pub go_on_more : {A S : Type 0} (keeps : A → Kept) (stands : A → Connection → ConnectionState → Type 0) (busy : A → Bool) (bounds : LeavingBounds) (place at : ℕ)
    (from : ℕ) (first before after : A) (all old new : List (Client S)) → place ≡ at → from ≡ at + 1 → at < length all → old ≡ all → before ≡ first
    → GoesOnAt keeps stands busy bounds place before after old new
    → AllWithin (λ client. IsEnding (keeps first) (stands first) (busy first) bounds client None) all from (length all)
    → AllWithin (λ client. IsEnding (keeps first) (stands first) (busy first) bounds client None) all at (length all)
go_on_more {A} {S} keeps stands busy bounds place at from first before after all old new is next within same_clients same goes so_far = λ k client low high.
    elim (at_or_behind at k low) [
      | inl here ↦
          subst (λ (i : ℕ). IsEnding (keeps first) (stands first) (busy first) bounds (get_or all i client) None) (is ∙ sym here)
          (subst (λ (a : A). IsEnding (keeps a) (stands a) (busy a) bounds (get_or all place client) None) same
          (subst (λ (clients : List (Client S)). IsEnding (keeps before) (stands before) (busy before) bounds (get_or clients place client) None) same_clients
          (goes.here client (subst (λ (clients : List (Client S)). place < length clients) (sym same_clients) (omega (arith, is))))))
      | inr behind ↦ so_far k client (omega arith) high
    ]
  where
    at_or_behind : (i k : ℕ) → i ≤ k → (k ≡ i) ⊎ (i < k)
    at_or_behind i k low = elim (cases_Bool (ltb i k)) [ inl behind ↦ inr (ltb-true i k behind) | inr at ↦ inl (omega (arith, ltb-false i k at)) ]

-- one that goes on isn't broken
sound_going : {S : Type 0} (keeps : Kept) (stands : Connection → ConnectionState → Type 0) (busy : Bool) (bounds : LeavingBounds) (client : Client S)
    → IsEnding keeps stands busy bounds client None → IsSentOrBroken keeps client → IsSent keeps client
sound_going keeps stands busy bounds client goes (inl sent) = sent
sound_going keeps stands busy bounds client goes (inr broken) = absurd (true≢false (sym broken ∙ goes.0.sound))

-- all were looked at
all_sent : {A S : Type 0} (keeps : A → Kept) (stands : A → Connection → ConnectionState → Type 0) (busy : A → Bool) (bounds : LeavingBounds) (before after : A)
    (old new : List (Client S)) → GoOn keeps stands busy bounds true before after old new → All (IsSentOrBroken (keeps before)) old
    → AreSent (keeps after) (stands after) (busy after) bounds new
all_sent {A} {S} keeps stands busy bounds before after old new goes sent =
    subst (λ (a : A). AreSent (keeps a) (stands a) (busy a) bounds new) (sym goes.answers)
    (subst (λ (clients : List (Client S)). AreSent (keeps before) (stands before) (busy before) bounds clients) (sym goes.clients)
    (λ k client high. (
      goes.each refl k client high,
      sound_going (keeps before) (stands before) (busy before) bounds (get_or old k client) (goes.each refl k client high) (sent k client high),
    )))

pub looked : {A S : Type 0} (keeps : A → Kept) (stands : A → Connection → ConnectionState → Type 0) (busy : A → Bool) (bounds : LeavingBounds) (before after : A)
    (old new : List (Client S)) (first last : ℕ) (is_all is_all_before rests_before rests is_busy : Bool) → LooksSoon first last (is_all ≡ true)
    → is_all_before ≡ is_all → (is_busy ≡ false → rests ≡ false) → (rests ≡ false → rests_before ≡ false)
    → (is_all ≡ true → rests_before ≡ false → IsDistinct same_connection (map connection old) → All (IsSentOrBroken (keeps before)) old)
    → (rests ≡ false → GoOn keeps stands busy bounds is_all_before before after old new)
    → LooksSoon first last (is_busy ≡ false → IsDistinct same_connection (map connection old)
    → AreSent (keeps after) (stands after) (busy after) bounds new)
looked keeps stands busy bounds before after old new first last is_all is_all_before rests_before rests is_busy (inl now) same calm calm_before sent goes =
    inl (
      now.0,
      λ rest apart.
          let quiet = calm rest in
          all_sent keeps stands busy bounds before after old new
          (subst (λ (b : Bool). GoOn keeps stands busy bounds b before after old new) (same ∙ now.1) (goes quiet))
          (sent now.1 (calm_before quiet) apart),
    )
looked keeps stands busy bounds before after old new first last is_all is_all_before rests_before rests is_busy (inr soon) same calm calm_before sent goes =
    inr soon

-- no work was at hand, by none of two signs
pub first_rests : (asked told : Bool) → (asked || told) ≡ false → asked ≡ false
first_rests true told rests = absurd (true≢false rests)
first_rests false told rests = refl

-- the same of a list that was lent as a whole
pub of_whole : {S : Type 0} (keeps : Kept) (count : ℕ) (lent rest : List (Client S)) → count ≡ length lent
    → (IsDistinct same_connection (map connection lent) → All (IsSentOrBroken keeps) lent)
    → IsDistinct same_connection (map connection (take count (lent ++ rest))) → All (IsSentOrBroken keeps) (take count (lent ++ rest))
of_whole {S} keeps count lent rest is sent =
    subst (λ (clients : List (Client S)). IsDistinct same_connection (map connection clients) → All (IsSentOrBroken keeps) clients)
    (sym (ap (λ (n : ℕ). take n (lent ++ rest)) is ∙ take-append_seam lent rest)) sent

-- whatever holds where all are looked at
pub soon_in_any_case : (before after : ℕ) (P : Type 0) → LooksSoon before after P → LooksSoon before after (Unit {0})
soon_in_any_case before after P (inl now) = inl (now.0, tt)
soon_in_any_case before after P (inr soon) = inr soon
