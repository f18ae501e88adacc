-- What comes of the connections that are accepted.
use Rattle.std.specs.Prelude.{◌≡◌, ℕ, ◌<◌, ◌≤◌, false, List, [], ◌∷◌, ◌++◌, length, map, Option, None, Some}
use Rattle.nr_model.specs.Bytes.{Bytes}
use Rattle.nr_model.specs.Items.{Connection}
use Rattle.nr_service.specs.Pollers.{Parting, Abandoned, PartsWith}
use Rattle.nr_service.specs.Serving.{connection}
use Rattle.nr_service.specs.Steps.{Accepts, next_number}
use Rattle.nr_service.specs.Stories.{IsLeftOf, Past, Kept}
use Rattle.nr_service.specs.Streams.{Course}
use Rattle.nr_service.specs.declared.client.Client.{Client}

-- A connection that was accepted: its stream, the client that it became, and what answers behind that. It is no client where it was turned away.
pub record Arrival (A S : Type 0) : Type 0 where
  pub stream : S
  pub client : Option (Client S)
  pub after : A

-- A client of this very stream, which hasn't ended, failed or taken nothing yet, whose connection was opened so.
pub record IsWelcome {S : Type 0} (at : Connection → Type 0) (stream : S) (client : Client S) : Type 0 where
  pub its_stream : client.stream ≡ stream
  pub placed : at (connection client)
  pub going : client.is_ending ≡ false
  pub sound : client.is_broken ≡ false
  pub empty : client.is_full ≡ false

-- One was accepted as this number: it was opened at the place of the number; or it was turned away, and there was no room for it.
abbrev pub IsArrival : {A S : Type 0} → (A → Type 0) → (A → A → ℕ → Connection → Type 0) → A → ℕ → S → Option (Client S) → A → Type 0
IsArrival is_full is_placed before number stream None after = is_full before
IsArrival is_full is_placed before number stream (Some client) after = IsWelcome (is_placed before after number) stream client

-- These were, each as the number behind the one before, and by what answers behind the one before.
abbrev pub AreArrivals : {A S : Type 0} → (A → Type 0) → (A → A → ℕ → Connection → Type 0) → A → ℕ → List (Arrival A S) → A → ℕ → Type 0
AreArrivals is_full is_placed before number [] after last = (after ≡ before) × (last ≡ number)
AreArrivals is_full is_placed before number (one ∷ more) after last =
    IsArrival is_full is_placed before number one.stream one.client one.after
    × AreArrivals is_full is_placed one.after (next_number number) more after last

-- the clients that they became, and the streams of those that were turned away
abbrev pub welcomed : {A S : Type 0} → List (Arrival A S) → List (Client S)
welcomed [] = []
welcomed (one ∷ more) = elim one.client [ None ↦ welcomed more | Some client ↦ client ∷ welcomed more ]

abbrev pub refused : {A S : Type 0} → List (Arrival A S) → List S
refused [] = []
refused (one ∷ more) = elim one.client [ None ↦ one.stream ∷ refused more | Some client ↦ refused more ]

-- Connections were accepted from this number on: those that became clients stand behind the others, and the streams of the others were let go of at once.
pub record Arrives {A S D : Type 0} (is_full : A → Type 0) (is_placed : A → A → ℕ → Connection → Type 0) (parted : D → Option (List (Parting S)))
    (before after : A) (number last : ℕ) (device_before device_after : D) (old new : List (Client S)) : Type 0 where
  pub came : List (Arrival A S)
  pub each : AreArrivals is_full is_placed before number came after last
  pub items : new ≡ old ++ welcomed came
  pub away : PartsWith (map Abandoned (refused came)) (parted device_before) (parted device_after)

-- so it was, and these were at most so many
pub record ArrivesFew {A S D : Type 0} (most : ℕ) (is_full : A → Type 0) (is_placed : A → A → ℕ → Connection → Type 0)
    (parted : D → Option (List (Parting S))) (before after : A) (number last : ℕ) (device_before device_after : D) (old new : List (Client S)) : Type 0 where
  pub arrives : Arrives is_full is_placed parted before after number last device_before device_after old new
  pub few : length arrives.came ≤ most

-- Some were accepted from this number on, and then memory ran out at one more, of which nothing is left: with that one they are at most so many.
pub record ArrivesUntil {A S D : Type 0} (most : ℕ) (was_received was_sent : S → Option Bytes) (course : S → Option Course) (is_past is_left : A → Past)
    (keeps : A → Kept) (is_full : A → Type 0) (is_placed : A → A → ℕ → Connection → Type 0) (parted : D → Option (List (Parting S)))
    (before after : A) (number : ℕ) (device_before device_after : D) (old new : List (Client S)) : Type 0 where
  pub opened : A
  pub last : ℕ
  pub accepts : Accepts was_received was_sent course is_past keeps before opened old new
  pub arrives : Arrives is_full is_placed parted before opened number last device_before device_after old new
  pub few : length arrives.came < most
  pub left : IsLeftOf (is_past opened) (is_left after)
