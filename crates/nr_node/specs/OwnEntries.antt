-- What came of a try to put an entry into the log, and the shares of its own entries that a node keeps.
use Rattle.std.specs.Prelude.{◌≡◌, ◌⊎◌, ⊤, ℕ, ◌<◌, ◌≤◌, Bool, false, nat_le, List, [], ◌∷◌, ◌++◌, length, slice_index, slice_index_or, Option, Some, None, IfSome, refl}
use Rattle.std.specs.Coded.{Coded, code_by, coded×, coded_ℕ, coded_list, coded_option}
use Rattle.std.specs.List.{AllByRecursion, slice_get}
use Rattle.nr_entry.specs.declared.entry.Entry.{Entry}
use Rattle.nr_entry.specs.contracts.entry.Entry as of_entry
use Rattle.nr_log_end.specs.declared.standing.Load.{Load}
use Rattle.nr_log_end.specs.declared.standing.Standing.{Standing}
use Rattle.nr_log_end.specs.Standings.{passed_of, unpassed}
use Rattle.nr_oplog.specs.Calls.{LoadsCounts, IsLeastOf, loads_from}
use Rattle.nr_oplog.specs.declared.view.LogView.{LogView}
use Rattle.nr_node.specs.declared.own_entries.EntryPut.{EntryPut}
use Rattle.nr_node.specs.declared.own_entries.EntryPut.TheVariants.{Taken, Full, Lost, Refused}

-- the entries that a node has reserved and not passed have numbers that it has still to pass
abbrev pub AreAhead : Standing → Type 0
AreAhead s = AllByRecursion (λ (r : ℕ × Entry). passed_of s ≤ r.0) (unpassed s)

-- P holds of the number, where one was taken
abbrev pub IfTaken : EntryPut → (ℕ → Type 0) → Type 0
IfTaken (Taken at) P = P at
IfTaken (Full back) P = ⊤
IfTaken (Lost back) P = ⊤
IfTaken (Refused back memory) P = ⊤

-- P holds of the shares that came back from a full log
abbrev pub IfFull : EntryPut → (List (Option Entry) → Type 0) → Type 0
IfFull (Taken at) P = ⊤
IfFull (Full back) P = P back
IfFull (Lost back) P = ⊤
IfFull (Refused back memory) P = ⊤

-- P holds of the shares that came back since another node was first
abbrev pub IfLost : EntryPut → (List (Option Entry) → Type 0) → Type 0
IfLost (Taken at) P = ⊤
IfLost (Full back) P = ⊤
IfLost (Lost back) P = P back
IfLost (Refused back memory) P = ⊤

-- P holds of the shares that came back for want of memory
abbrev pub IfRefused : EntryPut → (List (Option Entry) → Type 0) → Type 0
IfRefused (Taken at) P = ⊤
IfRefused (Full back) P = ⊤
IfRefused (Lost back) P = ⊤
IfRefused (Refused back memory) P = P back

-- P holds where the shares came back
abbrev pub IfBack : EntryPut → Type 0 → Type 0
IfBack (Taken at) P = ⊤
IfBack (Full back) P = P
IfBack (Lost back) P = P
IfBack (Refused back memory) P = P

-- there is a share for the first node
abbrev pub IsFirst : List (Option Entry) → Type 0
IsFirst shares = (0 < length shares) × ((entry : Entry) × (slice_index_or shares 0 None ≡ Some entry))

-- the passed counts of all nodes, so many, were loaded one after the other, and each was above this number
pub record IsSeenPassed (nodes : ℕ) (looks : List Load) (number : ℕ) : Type 0 where
  pub before : List Load
  pub counts : List ℕ
  pub behind : List Load
  pub loaded : looks ≡ before ++ (loads_from 0 counts ++ behind)
  pub all : length counts ≡ nodes
  pub above : (node : ℕ) → node < length counts → number < slice_index counts node

-- so it was seen that all nodes have passed these
abbrev pub AreSeenPassed : LogView → List (ℕ × Entry) → Type 0
AreSeenPassed v entries = AllByRecursion (λ (one : ℕ × Entry). IsSeenPassed v.standing.nodes v.looks one.0) entries

-- the shares of its own entries that a node keeps, with their numbers, and the number of the last entry that it reserved
pub record OwnState : Type 0 where
  pub kept : List (ℕ × Entry)
  pub last : Option ℕ

abbrev pub coded_own : Coded OwnState
coded_own =
    code_by (List (ℕ × Entry) × Option ℕ) (coded× (coded_list (coded× coded_ℕ of_entry.the_row.coded)) (coded_option coded_ℕ)) (λ o. (o.kept, o.last))
    (λ p. record { kept = p.0; last = p.1 }) (λ _. refl)

-- the number of the last reservation
abbrev pub last_number : List (ℕ × Entry) → Option ℕ
last_number [] = None
last_number (r ∷ []) = Some r.0
last_number (r ∷ (next ∷ rs)) = last_number (next ∷ rs)

-- whether there is a last one, and its number is that or a greater one
abbrev pub is_from : ℕ → Option ℕ → Bool
is_from number None = false
is_from number (Some last) = nat_le number last

-- these are the last of a node's reservations, and of each before them it was seen that all nodes have passed it
abbrev pub AreLast : OwnState → LogView → Type 0
AreLast own v =
    (gone : List (ℕ × Entry)) × (gone ++ own.kept ≡ v.standing.reservations) × AreSeenPassed v gone × (own.last ≡ last_number v.standing.reservations)

-- their numbers are below one
abbrev pub AreBelow : ℕ → List (ℕ × Entry) → Type 0
AreBelow least entries = AllByRecursion (λ (one : ℕ × Entry). one.0 < least) entries

-- its number is that or a greater one
abbrev pub IsFromOn : ℕ → (ℕ × Entry) → Type 0
IsFromOn least one = least ≤ one.0

-- the passed counts of all nodes were loaded, and the first entries were let go of: those below the least of these counts, and no others
pub record LetsGoBy (old new : List (ℕ × Entry)) (v w : LogView) : Type 0 where
  pub least : ℕ
  pub loads : LoadsCounts v w
  pub is_least : IsLeastOf least w.met
  pub gone : List (ℕ × Entry)
  pub all : gone ++ new ≡ old
  pub below : AreBelow least gone
  pub left : IfSome (slice_get new 0) (IsFromOn least)

-- Behind loads of the passed counts of all nodes, which a call made, exactly the first that are below the least of these were let go of.
pub record FreesBy (old new : List (ℕ × Entry)) (nodes : ℕ) (looks after : List Load) : Type 0 where
  pub before : List Load
  pub counts : List ℕ
  pub behind : List Load
  pub loaded : after ≡ looks ++ (before ++ (loads_from 0 counts ++ behind))
  pub every : length counts ≡ nodes
  pub least : ℕ
  pub is_least : IsLeastOf least counts
  pub gone : List (ℕ × Entry)
  pub all : gone ++ new ≡ old
  pub below : AreBelow least gone
  pub left : IfSome (slice_get new 0) (IsFromOn least)

-- so it was, or none was kept
abbrev pub Frees : List (ℕ × Entry) → List (ℕ × Entry) → ℕ → List Load → List Load → Type 0
Frees old new nodes looks after = ((old ≡ []) × (new ≡ [])) ⊎ FreesBy old new nodes looks after

-- so it was, or none was kept
abbrev pub LetsGo : List (ℕ × Entry) → List (ℕ × Entry) → LogView → LogView → Type 0
LetsGo old new v w = ((old ≡ []) × (new ≡ []) × (w ≡ v)) ⊎ LetsGoBy old new v w
