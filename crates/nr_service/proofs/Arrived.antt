-- Connections that were accepted, one behind the other.
use Rattle.std.proofs.Common.{◌≡◌, ℕ, ◌+◌, ◌<◌, ◌≤◌, true, List, [], ◌∷◌, ◌++◌, length, refl, sym, ap, ◌∙◌, subst, append_assoc, append-nil, arith}
use Rattle.std.specs.Prelude.{Option, Some, None, map}
use Rattle.std.proofs.lemmas.List.{length-append, map-append}
use Rattle.nr_model.specs.Bytes.{Bytes}
use Rattle.nr_model.specs.Items.{Connection}
use Rattle.nr_service.specs.Arriving.{Arrival, AreArrivals, ArrivesFew, ArrivesUntil, IsWelcome, refused, welcomed}
use Rattle.nr_service.specs.Pollers.{Parting, Abandoned, PartsWith, turned_away}
use Rattle.nr_service.specs.Steps.{Accepts, next_number}
use Rattle.nr_service.specs.Stories.{IsLeftOf, Kept, Past}
use Rattle.nr_service.specs.Streams.{Course}
use Rattle.nr_service.specs.declared.client.Client.{Client}
use Rattle.nr_service.proofs.Closing.{parts_none, parts_then}
use Rattle.nr_service.proofs.Served.{accepts_none, accepts_then}

-- none came
pub arrives_none : {A S D : Type 0} (is_full : A → Type 0) (is_placed : A → A → ℕ → Connection → Type 0) (parted : D → Option (List (Parting S)))
    (state : A) (number : ℕ) (device_before device_after : D) (clients : List (Client S)) → parted device_after ≡ parted device_before
    → ArrivesFew 0 is_full is_placed parted state state number number device_before device_after clients clients
arrives_none {A} {S} {D} is_full is_placed parted state number device_before device_after clients same = record {
  arrives = record {
    came = [];
    each = (refl, refl);
    items = sym (append-nil clients);
    away = subst (λ (o : Option (List (Parting S))). PartsWith [] (parted device_before) o) (sym same) (parts_none (parted device_before));
  };
  few = omega arith;
}

-- one was turned away
pub arrives_away : {A S D : Type 0} (is_full : A → Type 0) (is_placed : A → A → ℕ → Connection → Type 0) (parted : D → Option (List (Parting S)))
    (before after : A) (number : ℕ) (first device_before device_after : D) (clients : List (Client S)) (stream : S) → is_full before
    → parted device_before ≡ parted first → PartsWith (Abandoned stream ∷ []) (parted device_before) (parted device_after)
    → ArrivesFew 1 is_full is_placed parted before after number (next_number number) first device_after clients clients
arrives_away {A} {S} {D} is_full is_placed parted before after number first device_before device_after clients stream full same parts = record {
  arrives = record {
    came = record { stream = stream; client = None; after = after } ∷ [];
    each = (full, (refl, refl));
    items = sym (append-nil clients);
    away = subst (λ (o : Option (List (Parting S))). PartsWith (Abandoned stream ∷ []) o (parted device_after)) same parts;
  };
  few = omega arith;
}

-- one became a client
pub arrives_one : {A S D : Type 0} (is_full : A → Type 0) (is_placed : A → A → ℕ → Connection → Type 0) (parted : D → Option (List (Parting S)))
    (before after : A) (number : ℕ) (first device : D) (old new : List (Client S)) (stream : S) (client : Client S) → new ≡ old ++ client ∷ []
    → parted device ≡ parted first → IsWelcome (is_placed before after number) stream client
    → ArrivesFew 1 is_full is_placed parted before after number (next_number number) first device old new
arrives_one {A} {S} {D} is_full is_placed parted before after number first device old new stream client items same welcome = record {
  arrives = record {
    came = record { stream = stream; client = Some client; after = after } ∷ [];
    each = (welcome, (refl, refl));
    items = items;
    away = subst (λ (o : Option (List (Parting S))). PartsWith [] (parted first) o) (sym same) (parts_none (parted first));
  };
  few = omega arith;
}

-- some came, and then others
came_then : {A S : Type 0} (is_full : A → Type 0) (is_placed : A → A → ℕ → Connection → Type 0) (xs ys : List (Arrival A S)) (a b c : A) (l m n : ℕ)
    → AreArrivals is_full is_placed a l xs b m → AreArrivals is_full is_placed b m ys c n → AreArrivals is_full is_placed a l (xs ++ ys) c n
came_then {A} {S} is_full is_placed [] ys a b c l m n p q =
    subst (λ (state : A). AreArrivals is_full is_placed state l ys c n) p.0
    (subst (λ (number : ℕ). AreArrivals is_full is_placed b number ys c n) p.1 q)
came_then is_full is_placed (one ∷ xs) ys a b c l m n p q = (p.0, came_then is_full is_placed xs ys one.after b c (next_number l) m n p.1 q)

welcomed_both : {A S : Type 0} (xs ys : List (Arrival A S)) → welcomed (xs ++ ys) ≡ welcomed xs ++ welcomed ys
welcomed_both [] ys = refl
welcomed_both {A} {S} (one ∷ xs) ys =
    let more = welcomed_both xs ys in
    elim one.client as (λ o. elim o [ None ↦ welcomed (xs ++ ys) | Some client ↦ client ∷ welcomed (xs ++ ys) ]
    ≡ (elim o [ None ↦ welcomed xs | Some client ↦ client ∷ welcomed xs ]) ++ welcomed ys) [
      | None ↦ more
      | Some client ↦ ap (λ (l : List (Client S)). client ∷ l) more
    ]

refused_both : {A S : Type 0} (xs ys : List (Arrival A S)) → refused (xs ++ ys) ≡ refused xs ++ refused ys
refused_both [] ys = refl
refused_both {A} {S} (one ∷ xs) ys =
    let more = refused_both xs ys in
    elim one.client as (λ o. elim o [ None ↦ one.stream ∷ refused (xs ++ ys) | Some client ↦ refused (xs ++ ys) ]
    ≡ (elim o [ None ↦ one.stream ∷ refused xs | Some client ↦ refused xs ]) ++ refused ys) [
      | None ↦ ap (λ (l : List S). one.stream ∷ l) more
      | Some client ↦ more
    ]

both_few : {A : Type 0} (xs ys : List A) (few more most : ℕ) → few + more ≤ most → length xs ≤ few → length ys ≤ more → length (xs ++ ys) ≤ most
both_few xs ys few more most within p q = let both = length-append xs ys in omega arith

pub arrives_then : {A S D : Type 0} (is_full : A → Type 0) (is_placed : A → A → ℕ → Connection → Type 0) (parted : D → Option (List (Parting S)))
    (few more most : ℕ) (a b c : A) (l m n : ℕ) (d e f : D) (xs ys zs : List (Client S)) → few + more ≤ most
    → ArrivesFew few is_full is_placed parted a b l m d e xs ys → ArrivesFew more is_full is_placed parted b c m n e f ys zs
    → ArrivesFew most is_full is_placed parted a c l n d f xs zs
arrives_then {A} {S} {D} is_full is_placed parted few more most a b c l m n d e f xs ys zs within first second =
    let p = first.arrives in
    let q = second.arrives in
    record {
      arrives = record {
        came = p.came ++ q.came;
        each = came_then is_full is_placed p.came q.came a b c l m n p.each q.each;
        items = q.items ∙ ap (λ (l : List (Client S)). l ++ welcomed q.came) p.items ∙ append_assoc xs (welcomed p.came) (welcomed q.came)
            ∙ ap (λ (l : List (Client S)). xs ++ l) (sym (welcomed_both p.came q.came));
        away = subst (λ (streams : List S). PartsWith (map Abandoned streams) (parted d) (parted f)) (sym (refused_both p.came q.came))
            (subst (λ (more : List (Parting S)). PartsWith more (parted d) (parted f)) (sym (map-append Abandoned (refused p.came) (refused q.came)))
            (parts_then (map Abandoned (refused p.came)) (map Abandoned (refused q.came)) (parted d) (parted e) (parted f) p.away q.away));
      };
      few = both_few p.came q.came few more most within first.few second.few;
    }

-- they are within more than that
pub arrives_within : {A S D : Type 0} (is_full : A → Type 0) (is_placed : A → A → ℕ → Connection → Type 0) (parted : D → Option (List (Parting S)))
    (few most : ℕ) (before after : A) (number last : ℕ) (device_before device_after : D) (old new : List (Client S)) → few ≤ most
    → ArrivesFew few is_full is_placed parted before after number last device_before device_after old new
    → ArrivesFew most is_full is_placed parted before after number last device_before device_after old new
arrives_within is_full is_placed parted few most before after number last device_before device_after old new within came = record {
  arrives = came.arrives;
  few = let few = came.few in omega arith;
}

-- where the number and the device are the same
pub arrives_still : {A S D : Type 0} (is_full : A → Type 0) (is_placed : A → A → ℕ → Connection → Type 0) (parted : D → Option (List (Parting S)))
    (most : ℕ) (before after : A) (number last new : ℕ) (first device device_new : D) (old clients : List (Client S)) → new ≡ last → device_new ≡ device
    → ArrivesFew most is_full is_placed parted before after number last first device old clients
    → ArrivesFew most is_full is_placed parted before after number new first device_new old clients
arrives_still {A} {S} {D} is_full is_placed parted most before after number last new first device device_new old clients same still came =
    subst (λ (n : ℕ). ArrivesFew most is_full is_placed parted before after number n first device_new old clients) (sym same)
    (subst (λ (d : D). ArrivesFew most is_full is_placed parted before after number last first d old clients) (sym still) came)

-- at once
pub until_now : {A S D : Type 0} (was_received was_sent : S → Option Bytes) (course : S → Option Course) (is_past is_left : A → Past) (keeps : A → Kept)
    (is_full : A → Type 0) (is_placed : A → A → ℕ → Connection → Type 0) (parted : D → Option (List (Parting S))) (before after : A) (number : ℕ)
    (device_before device_after : D) (clients : List (Client S)) → parted device_after ≡ parted device_before
    → IsLeftOf (is_past before) (is_left after)
    → ArrivesUntil 1 was_received was_sent course is_past is_left keeps is_full is_placed parted before after number device_before device_after clients clients
until_now was_received was_sent course is_past is_left keeps is_full is_placed parted before after number device_before device_after clients same left =
    let none = arrives_none is_full is_placed parted before number device_before device_after clients same in
    record {
      opened = before;
      last = number;
      accepts = accepts_none was_received was_sent course is_past keeps before clients;
      arrives = none.arrives;
      few = let few = none.few in omega arith;
      left = left;
    }

-- or behind some
pub until_then : {A S D : Type 0} (was_received was_sent : S → Option Bytes) (course : S → Option Course) (is_past is_left : A → Past) (keeps : A → Kept)
    (is_full : A → Type 0) (is_placed : A → A → ℕ → Connection → Type 0) (parted : D → Option (List (Parting S))) (few most : ℕ) (a b c : A) (l m : ℕ)
    (d e f : D) (xs ys zs : List (Client S)) → few < most → Accepts was_received was_sent course is_past keeps a b xs ys
    → ArrivesFew few is_full is_placed parted a b l m d e xs ys
    → ArrivesUntil 1 was_received was_sent course is_past is_left keeps is_full is_placed parted b c m e f ys zs
    → ArrivesUntil most was_received was_sent course is_past is_left keeps is_full is_placed parted a c l d f xs zs
until_then was_received was_sent course is_past is_left keeps is_full is_placed parted few most a b c l m d e f xs ys zs within accepts first until =
    let both = arrives_then is_full is_placed parted few 0 few a b until.opened l m until.last d e f xs ys zs (omega arith) first
    (record { arrives = until.arrives; few = let few = until.few in omega arith }) in
    record {
      opened = until.opened;
      last = until.last;
      accepts = accepts_then was_received was_sent course is_past keeps a b until.opened xs ys zs accepts until.accepts;
      arrives = both.arrives;
      few = let few = both.few in omega arith;
      left = until.left;
    }

-- a client was taken on, and nothing was given back
pub away_none : {S : Type 0} (stream : S) (old new : Option (List (Parting S))) → new ≡ old → PartsWith (turned_away true stream) old new
away_none {S} stream old new same = subst (λ (o : Option (List (Parting S))). PartsWith [] old o) (sym same) (parts_none old)
