-- For each worker the serials of its connections for which bytes wait, as a node keeps them.
use Rattle.std.specs.Prelude.{◌≡◌, ℕ, zero, suc, Bool, false, cond, ◌==◌, ◌&&◌, List, [], ◌∷◌, slice_index_or}
use Rattle.std.specs.BTreeSet.{BTreeSet, contains}
use Rattle.std.specs.Ordering.{nat_cmp}
use Rattle.nr_replica.specs.Members.{Member, nobody, is_ready}

-- a worker's set has this serial; a worker past the sets has none
abbrev pub has_serial : List (BTreeSet ℕ) → ℕ → ℕ → Bool
has_serial [] worker serial = false
has_serial (own ∷ sets) zero serial = contains nat_cmp own serial
has_serial (own ∷ sets) (suc worker) serial = has_serial sets worker serial

-- from now on this serial of this worker is there, or isn't, and all others are as before
abbrev pub IsMarked : ℕ → ℕ → Bool → List (BTreeSet ℕ) → List (BTreeSet ℕ) → Type 0
IsMarked worker serial is_there old new =
    (w s : ℕ) → has_serial new w s ≡ cond (worker == w && serial == s) is_there (has_serial old w s)

-- all are as before
abbrev pub IsAsBefore : List (BTreeSet ℕ) → List (BTreeSet ℕ) → Type 0
IsAsBefore old new = (w s : ℕ) → has_serial new w s ≡ has_serial old w s

-- each worker's set has the serials of its connections for which bytes wait, and no others
abbrev pub AreReady : List (BTreeSet ℕ) → List Member → Type 0
AreReady sets members = (worker serial : ℕ) → has_serial sets worker serial ≡ is_ready worker (slice_index_or members serial nobody)
