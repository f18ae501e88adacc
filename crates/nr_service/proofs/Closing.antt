-- Clients that are let go.
use Rattle.std.proofs.Common.{◌≡◌, ℕ, ◌<◌, Bool, true, false, cond, inl, inr, List, [], ◌∷◌, ◌++◌, length, get_or, refl, sym, ap, ◌∙◌, subst, append_assoc, append-nil}
use Rattle.std.specs.Prelude.{Option, Some, None, All, map}
use Rattle.std.specs.Option.{option_map}
use Rattle.std.specs.List.{swap_remove}
use Rattle.std.specs.List.Sorted.{IsPermutation}
use Rattle.std.proofs.lemmas.List.{map-append}
use Rattle.std.proofs.lemmas.List.Elements.{All-nil, All-cons, All-append, All-tail}
use Rattle.std.proofs.lemmas.List.Sorted.{IsPermutation-refl, IsPermutation-trans, IsPermutation-append_right, IsPermutation-swap_remove}
use Rattle.std.proofs.lemmas.Map.Keys.{IsDistinct-tail}
use Rattle.nr_model.specs.Bytes.{Bytes}
use Rattle.nr_model.specs.Items.{Connection, same_connection}
use Rattle.nr_model.specs.Keyspace.{moment}
use Rattle.nr_service.specs.Serving.{connection, IsServed, AreServed}
use Rattle.nr_service.specs.Leaving.{AreGone, Gone, HasGone, IsEnding, shut_by, parting, parting_of, client_of, LetsGo, LetsGoOne}
use Rattle.nr_service.specs.declared.backend.ConnectionState.{ConnectionState}
use Rattle.nr_service.specs.declared.client.Ending.{Ending}
use Rattle.nr_service.specs.Pollers.{Parting, PartsWith}
use Rattle.nr_service.specs.declared.client.Client.{Client}
use Rattle.nr_service.specs.declared.leaving.LeavingBounds.{LeavingBounds}
use Rattle.nr_service.specs.Readings.{IsClosedAt}
use Rattle.nr_service.specs.Stories.{Occurrence, Story, Past, Kept, IsShut, IsClosed, closed_at, closings_in, opened_in, fed_in, handed_in, going_on}
use Rattle.nr_service.proofs.Occurrences.{fed_still, handed_still, going_none, going_both}
use Rattle.nr_service.proofs.Served.{others_served, served_moved}
use Rattle.nr_service.proofs.Working.{get_or_within}
use Rattle.nr_service.specs.Streams.{Course}

-- more closes behind others
shut_both : {A S : Type 0} (now : ℕ) (xs ys : List (Gone A S)) → shut_by now (xs ++ ys) ≡ shut_by now xs ++ shut_by now ys
shut_both now [] ys = refl
shut_both now (one ∷ xs) ys =
    let more = shut_both now xs ys in
    let here = closed_at (connection one.client) now in
    elim one.closed as (λ b. cond b (here ∷ shut_by now (xs ++ ys)) (shut_by now (xs ++ ys)) ≡ cond b (here ∷ shut_by now xs) (shut_by now xs) ++ shut_by now ys) [
      | true ↦ ap (λ (l : List Occurrence). here ∷ l) more
      | false ↦ more
    ]

-- closes feed and open nothing
pub closes_fed : {A S : Type 0} (now : ℕ) (gone : List (Gone A S)) → fed_in (shut_by now gone) ≡ []
closes_fed now [] = refl
closes_fed now (one ∷ gone) =
    elim one.closed as (λ b. fed_in (cond b (closed_at (connection one.client) now ∷ shut_by now gone) (shut_by now gone)) ≡ []) [
      | true ↦ closes_fed now gone
      | false ↦ closes_fed now gone
    ]

pub closes_opened : {A S : Type 0} (now : ℕ) (gone : List (Gone A S)) → opened_in (shut_by now gone) ≡ []
closes_opened now [] = refl
closes_opened now (one ∷ gone) =
    elim one.closed as (λ b. opened_in (cond b (closed_at (connection one.client) now ∷ shut_by now gone) (shut_by now gone)) ≡ []) [
      | true ↦ closes_opened now gone
      | false ↦ closes_opened now gone
    ]

-- and all are at the moment of them
pub closes_timed : {A S : Type 0} (now : ℕ) (gone : List (Gone A S)) → All (IsClosedAt now) (closings_in (shut_by now gone))
closes_timed now [] = All-nil (IsClosedAt now)
closes_timed now (one ∷ gone) =
    elim one.closed as (λ b. All (IsClosedAt now) (closings_in (cond b (closed_at (connection one.client) now ∷ shut_by now gone) (shut_by now gone)))) [
      | true ↦ All-cons (IsClosedAt now) (record { connection = connection one.client; moment = moment now }) (closings_in (shut_by now gone)) refl (closes_timed now gone)
      | false ↦ closes_timed now gone
    ]

-- no stream was given back
pub parts_none : {S : Type 0} (known : Option (List (Parting S))) → PartsWith [] known known
parts_none None = refl
parts_none (Some before) = ap (λ (l : List (Parting _)). Some l) (sym (append-nil before))

-- some were, and then others
pub parts_then : {S : Type 0} (xs ys : List (Parting S)) (a b c : Option (List (Parting S))) → PartsWith xs a b → PartsWith ys b c → PartsWith (xs ++ ys) a c
parts_then {S} xs ys None b c p q = q ∙ ap (λ (o : Option (List (Parting S))). option_map (λ (before : List (Parting S)). before ++ ys) o) p
parts_then {S} xs ys (Some before) b c p q =
    q ∙ ap (λ (o : Option (List (Parting S))). option_map (λ (before : List (Parting S)). before ++ ys) o) p
    ∙ ap (λ (l : List (Parting S)). Some l) (append_assoc before xs ys)

-- none was closed
pub lets_none : {A S D : Type 0} (was_received was_sent : S → Option Bytes) (course : S → Option Course) (is_past : A → Past) (keeps : A → Kept)
    (stands : A → Connection → ConnectionState → Type 0) (busy : A → Bool) (is_gone : A → Connection → Type 0) (parted : D → Option (List (Parting S))) (bounds : LeavingBounds) (state : A)
    (device : D) (clients : List (Client S))
    → LetsGo was_received was_sent course is_past keeps stands busy is_gone parted bounds state state device device clients clients
lets_none {A} {S} was_received was_sent course is_past keeps stands busy is_gone parted bounds state device clients = record {
  gone = [];
  all = IsPermutation-refl clients;
  in_turn = refl;
  each = All-nil (HasGone {A = A} {S = S} keeps stands busy is_gone bounds);
  parts = parts_none (parted device);
  further = λ story a.
      subst (λ (s : Story). AreServed was_received was_sent course (is_past state) (keeps state) s clients) (sym (going_none story)) a;
}

-- some went, and then others
gone_then : {A S : Type 0} (xs ys : List (Gone A S)) (a b c : A) → AreGone a xs b → AreGone b ys c → AreGone a (xs ++ ys) c
gone_then {A} {S} [] ys a b c p q = subst (λ (state : A). AreGone state ys c) p q
gone_then (one ∷ xs) ys a b c p q = (p.0, gone_then xs ys one.after b c p.1 q)

-- one step behind another
pub lets_then : {A S D : Type 0} (was_received was_sent : S → Option Bytes) (course : S → Option Course) (is_past : A → Past) (keeps : A → Kept)
    (stands : A → Connection → ConnectionState → Type 0) (busy : A → Bool) (is_gone : A → Connection → Type 0) (parted : D → Option (List (Parting S))) (bounds : LeavingBounds) (a b c : A)
    (d e f : D) (xs ys zs : List (Client S)) → LetsGo was_received was_sent course is_past keeps stands busy is_gone parted bounds a b d e xs ys
    → LetsGo was_received was_sent course is_past keeps stands busy is_gone parted bounds b c e f ys zs
    → LetsGo was_received was_sent course is_past keeps stands busy is_gone parted bounds a c d f xs zs
lets_then {A} {S} {D} was_received was_sent course is_past keeps stands busy is_gone parted bounds a b c d e f xs ys zs p q =
    let first = map client_of p.gone in
    let second = map client_of q.gone in
    record {
      gone = p.gone ++ q.gone;
      all = subst (λ (gone : List (Client S)). IsPermutation xs (gone ++ zs)) (sym (map-append client_of p.gone q.gone))
          (IsPermutation-trans xs (first ++ ys) ((first ++ second) ++ zs) p.all
          (subst (IsPermutation (first ++ ys)) (sym (append_assoc first second zs))
          (IsPermutation-append_right first ys (second ++ zs) q.all)));
      in_turn = gone_then p.gone q.gone a b c p.in_turn q.in_turn;
      each = All-append (HasGone keeps stands busy is_gone bounds) p.gone q.gone p.each q.each;
      parts = subst (λ (more : List (Parting S)). PartsWith more (parted d) (parted f)) (sym (map-append parting_of p.gone q.gone))
          (parts_then (map parting_of p.gone) (map parting_of q.gone) (parted d) (parted e) (parted f) p.parts q.parts);
      further = λ story s.
          subst (λ (next : Story). AreServed was_received was_sent course (is_past c) (keeps c) next zs)
          (going_both story (shut_by bounds.now p.gone) (shut_by bounds.now q.gone) ∙ ap (going_on story) (sym (shut_both bounds.now p.gone q.gone)))
          (q.further (going_on story (shut_by bounds.now p.gone)) (p.further story s));
    }

-- whether a close closed its connection
shut_as : {A S : Type 0} (client : Client S) (ending : Ending) (now : ℕ) (before after : A) (was_gone : Type 0) (shut : List Occurrence)
    → IsShut (connection client) now was_gone shut
    → (closed : Bool) × (shut ≡ shut_by now (record { client = client; ending = ending; closed = closed; before = before; after = after } ∷ []))
shut_as client ending now before after was_gone shut (inl is) = (true, is.0)
shut_as client ending now before after was_gone shut (inr is) = (false, is.0)

-- it adds nothing that was fed or handed out
shut_bytes : (c : Connection) (now : ℕ) (was_gone : Type 0) (shut : List Occurrence) → IsShut c now was_gone shut → (fed_in shut ≡ []) × (handed_in shut ≡ [])
shut_bytes c now was_gone shut (inl is) = (ap fed_in is.0, ap handed_in is.0)
shut_bytes c now was_gone shut (inr is) = (ap fed_in is.0, ap handed_in is.0)

-- one of them is some, where it was over
pub lets_one : {A S D : Type 0} (was_received was_sent : S → Option Bytes) (course : S → Option Course) (is_past : A → Past) (keeps : A → Kept)
    (stands : A → Connection → ConnectionState → Type 0) (busy : A → Bool) (is_gone : A → Connection → Type 0) (parted : D → Option (List (Parting S))) (bounds : LeavingBounds)
    (ending : Ending) (index : ℕ) (before after : A) (device_before device_after : D) (old new : List (Client S)) (client : Client S)
    → index < length old → client ≡ get_or old index client → IsEnding (keeps before) (stands before) (busy before) bounds client (Some ending)
    → LetsGoOne was_received was_sent course is_past keeps is_gone parted ending bounds.now index before after device_before device_after old new
    → LetsGo was_received was_sent course is_past keeps stands busy is_gone parted bounds before after device_before device_after old new
lets_one {A} {S} {D} was_received was_sent course is_past keeps stands busy is_gone parted bounds ending index before after device_before device_after old new client
    within is over one =
    let told = shut_as one.client ending bounds.now before after (is_gone before (connection one.client)) one.shut one.is in
    let same : one.client ≡ client = one.at ∙ get_or_within old index one.client client within ∙ sym is in
    let gone : Gone A S = record { client = one.client; ending = ending; closed = told.0; before = before; after = after } in
    record {
      gone = gone ∷ [];
      all = one.moved;
      in_turn = (refl, refl);
      each = All-cons (HasGone keeps stands busy is_gone bounds) gone [] (record {
        over = subst (λ (x : Client S). IsEnding (keeps before) (stands before) (busy before) bounds x (Some ending)) (sym same) over;
        shut = subst (λ (shut : List Occurrence). IsShut (connection one.client) bounds.now (is_gone before (connection one.client)) shut) told.1 one.is;
        away = one.gone;
      }) (All-nil (HasGone keeps stands busy is_gone bounds));
      parts = one.parts;
      further = λ story s.
          subst (λ (shut : List Occurrence). AreServed was_received was_sent course (is_past after) (keeps after) (going_on story shut) new) told.1
          (one.further story s);
    }

-- one was taken from the list and closed
pub closed_one : {A S D : Type 0} (was_received was_sent : S → Option Bytes) (course : S → Option Course) (is_past : A → Past) (keeps : A → Kept)
    (is_gone : A → Connection → Type 0) (parted : D → Option (List (Parting S))) (ending : Ending) (now : ℕ) (before after : A) (device_before device_after : D)
    (client : Client S) (clients others : List (Client S)) (index : ℕ) → index < length clients
    → client ≡ get_or clients index client → others ≡ swap_remove clients index client
    → PartsWith (parting ending client.stream ∷ []) (parted device_before) (parted device_after)
    → IsClosed (connection client) now (is_gone before (connection client)) (is_past before) (is_past after) (keeps before) (keeps after)
    → is_gone after (connection client)
    → LetsGoOne was_received was_sent course is_past keeps is_gone parted ending now index before after device_before device_after clients others
closed_one {A} {S} {D} was_received was_sent course is_past keeps is_gone parted ending now before after device_before device_after client clients others index
    within is rest parts k away =
    let c = connection client in
    let bytes = shut_bytes c now (is_gone before c) k.shut k.is in
    let moved : IsPermutation clients (client ∷ others) =
    subst (λ (ys : List (Client S)). IsPermutation clients (client ∷ ys)) (sym rest) (IsPermutation-swap_remove clients index client within is) in
    record {
      client = client;
      shut = k.shut;
      at = is;
      moved = moved;
      parts = parts;
      is = k.is;
      gone = away;
      further = λ story s.
          let next = going_on story k.shut in
          let a = served_moved was_received was_sent course (is_past before) (keeps before) story clients (client ∷ others) moved s in
          record {
            past = k.past story a.past;
            each = others_served was_received was_sent course (keeps before) (keeps after) story next client others
                (record {
                  fed = λ other differs. fed_still other story k.shut bytes.0;
                  handed = λ other differs. handed_still other story k.shut bytes.1;
                  kept = λ other differs. k.others other differs;
                })
                a.apart (All-tail (IsServed was_received was_sent course (keeps before) story) client others a.each);
            apart = IsDistinct-tail same_connection c (map connection others) a.apart;
          };
    }
