-- What the rule of the slots says of a worker and the combiner.
use Rattle.std.specs.Prelude.{◌≡◌, ◌≢◌, ◌⊎◌, ℕ, ◌+◌, ◌<◌, ◌≤◌, List, [], ◌∷◌, ◌++◌, length, slice_index, Option}
use mathlib.Core.Option.{some}
use lib.ListN.{get_elem?}
use Rattle.atomic_table.specs.Table.{State}
use Rattle.nr_entry.specs.declared.batch.Batch.{Batch}
use Rattle.nr_entry.specs.declared.batch.Answer.{Answer}
use Rattle.nr_slots.specs.declared.view.Parcel.{Parcel}
use Rattle.nr_slots.specs.declared.view.SlotView.{SlotView}
use Rattle.nr_slots.specs.Names.{Names}
use Rattle.nr_slots.specs.Rule.{SlotRule, Owns, Combines}
use Rattle.nr_slots.specs.Layout.{word_of}
use Rattle.nr_slots.specs.Plays.{desk_at}

-- the one list is the other, or all of it but its last
abbrev pub IsAllOrAllButLast : {A : Type 0} → List A → List A → Type 0
IsAllOrAllButLast {A} xs ys = (xs ≡ ys) ⊎ ((last : A) × (ys ≡ xs ++ last ∷ []))

-- each answer names the batch at its place
abbrev pub NameEach : List Answer → List Batch → Type 0
NameEach [] [] = Unit {0}
NameEach [] (b ∷ bs) = ⊥
NameEach (a ∷ others) [] = ⊥
NameEach (a ∷ others) (b ∷ bs) = Names a b × NameEach others bs

pub record SlotFacts (posted : List Batch) (collected : List Answer) (lifted : List Batch) (answered : List Answer) : Type 0 where
  pub lifted_is : IsAllOrAllButLast lifted posted
  pub answered_is : (batches : List Batch) × IsAllOrAllButLast batches lifted × NameEach answered batches
  pub collected_is : IsAllOrAllButLast collected answered
  pub at_most_one : length posted ≤ length collected + 1

-- besides, a worker whose word doesn't say that a batch is offered has posted none but those that were lifted
abbrev pub HoldsOfSeats : Type 0
HoldsOfSeats = (workers : ℕ) (s : State (Option Parcel) SlotView) → SlotRule workers s → (worker : ℕ) → worker < workers → (id other : ℕ) (v c : SlotView) → get_elem? s.views id ≡ some v → get_elem? s.views other ≡ some c
    → Owns v worker → Combines c → SlotFacts v.lane.posted v.lane.collected (desk_at c.desks worker).lifted (desk_at c.desks worker).answered
    × (slice_index s.words (word_of worker) ≢ 1 → (desk_at c.desks worker).lifted ≡ v.lane.posted)
