-- Which worker a connection is dealt to.
use Rattle.std.specs.Prelude.{◌≡◌, ℕ, ◌+◌, ◌*◌, ◌<◌, ◌%◌, ◌/◌, Bool, true, false, List, [], ◌∷◌, Option, Some, None}
use Rattle.nr_service.specs.Dealt.{Deals}
use Rattle.nr_service.specs.Steps.{next_number}

-- the node so many behind that of a number, and the lane of the number's worker there
abbrev pub node_of : ℕ → ℕ → ℕ → ℕ
node_of nodes number passed = (number % nodes + passed) % nodes

abbrev pub lane_of : ℕ → ℕ → ℕ → ℕ → ℕ
lane_of nodes workers number passed = node_of nodes number passed * workers + number / nodes % workers

-- Connections go to the nodes in turn, and to the workers of each in turn: this one went to the worker of its number at the node of its number, or at one behind
-- that; or it was turned away.
abbrev pub IsDealt : ℕ → ℕ → ℕ → Option ℕ → Type 0
IsDealt nodes workers number (Some lane) = (passed : ℕ) × (passed < nodes) × (lane ≡ lane_of nodes workers number passed)
IsDealt nodes workers number None = Unit {0}

-- So it went to the first node from that of its number on that had room as it was asked; where none had, and each was asked, it was turned away.
abbrev pub IsAdmitted : ℕ → ℕ → ℕ → (ℕ → Bool → Type 0) → Option ℕ → Type 0
IsAdmitted nodes workers number admits (Some lane) =
    (passed : ℕ) × (passed < nodes) × (lane ≡ lane_of nodes workers number passed) × admits (node_of nodes number passed) true
    × ((before : ℕ) → before < passed → admits (node_of nodes number before) false)
IsAdmitted nodes workers number admits None = (passed : ℕ) → passed < nodes → admits (node_of nodes number passed) false

-- this became of one that was taken
pub record DealsOne (nodes workers number : ℕ) (admits : ℕ → Bool → Type 0) (old new : Option (List (Option ℕ))) : Type 0 where
  pub one : Option ℕ
  pub is : IsAdmitted nodes workers number admits one
  pub deals : Deals (one ∷ []) old new

-- so were these, each as the number behind the one before
abbrev pub AreDealt : ℕ → ℕ → ℕ → List (Option ℕ) → ℕ → Type 0
AreDealt nodes workers number [] last = last ≡ number
AreDealt nodes workers number (one ∷ more) last = IsDealt nodes workers number one × AreDealt nodes workers (next_number number) more last

-- So connections were dealt out, from one number on up to another.
pub record DealsFrom (nodes workers number last : ℕ) (old new : Option (List (Option ℕ))) : Type 0 where
  pub more : List (Option ℕ)
  pub are : AreDealt nodes workers number more last
  pub deals : Deals more old new

-- so they were from the first on
pub record HasDealt (nodes workers : ℕ) (old new : Option (List (Option ℕ))) : Type 0 where
  pub last : ℕ
  pub dealt : DealsFrom nodes workers 0 last old new
