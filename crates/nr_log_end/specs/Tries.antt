-- What a try to reserve has loaded, and what it found.
use Rattle.std.specs.Prelude.{◌≡◌, ◌⊎◌, ℕ, ◌+◌, ◌^◌, ◌<◌, ◌≤◌, List, [], ◌∷◌, ◌++◌, Option}
use Rattle.nr_entry.specs.declared.entry.Entry.{Entry}
use Rattle.nr_log_end.specs.declared.standing.Standing.{Standing}
use Rattle.nr_log_end.specs.declared.standing.Load.{Load}
use Rattle.nr_log_end.specs.declared.standing.Load.TheVariants.{Tail, Passed}
use Rattle.nr_log_end.specs.Standings.{reserved_as}

-- how many entries a log takes at most
abbrev pub most_entries : ℕ
most_entries = 2 ^ 63

-- an end that stood so and had made these loads
module _ (s : Standing) (looks : List Load) where
  -- the loads of a call: the tail, which was so, and behind it these
  abbrev pub LookedAt : List Load → ℕ → List Load → Type 0
  LookedAt after tail more = (s.seen ≤ tail) × (after ≡ looks ++ (Tail tail ∷ more))

  -- the number is that of the tail which the call loaded
  abbrev pub IsTaken : ℕ → List (Option Entry) → Standing → List Load → Type 0
  IsTaken at shares t after = (t ≡ reserved_as at shares s) × ((more : List Load) × LookedAt after at more)

  -- a passed count of one of the nodes, loaded last by the call, is all places behind the tail that it loaded; or the log has taken all
  -- entries that it can
  abbrev pub IsFull : ℕ → Standing → List Load → Type 0
  IsFull places t after = (t ≡ record s { seen = t.seen })
      × ((more : List Load) × LookedAt after t.seen more
      × (((before : List Load) × (node : ℕ) × (count : ℕ) × (more ≡ before ++ Passed node count ∷ [])
      × (count + places ≤ t.seen) × (node < s.nodes)) ⊎ (most_entries ≤ t.seen)))

  -- the tail has moved on since the call loaded it
  abbrev pub IsLost : Standing → List Load → Type 0
  IsLost t after = (t ≡ record s { seen = t.seen }) × ((tail : ℕ) × (more : List Load) × LookedAt after tail more × (tail < t.seen))
