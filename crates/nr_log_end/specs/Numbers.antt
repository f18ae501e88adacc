-- The numbers of a connection's jobs.
use Rattle.std.specs.Prelude.{ℕ, ◌<◌, List, [], ◌∷◌, map}
use Rattle.std.specs.List.{AllByRecursion}
use Rattle.nr_model.specs.Items.{Connection, Item}
use Rattle.nr_model.specs.Entries.{Jobs}
use Rattle.nr_model.specs.Asked.{own_jobs}

-- each number is below all behind it
abbrev pub IsRising : List ℕ → Type 0
IsRising [] = Unit {0}
IsRising (n ∷ numbers) = AllByRecursion (λ (m : ℕ). n < m) numbers × IsRising numbers

-- the numbers of a connection's jobs among these, in order
abbrev pub numbers_of : Connection → Jobs → List ℕ
numbers_of c jobs = map (λ (job : Item). job.number) (own_jobs c jobs)

-- connection number s of a node
abbrev pub connection_at : ℕ → ℕ → Connection
connection_at node serial = record { node = node; serial = serial }

-- the jobs of each connection of the node have numbers that rise
abbrev pub AreRising : ℕ → Jobs → Type 0
AreRising node jobs = (serial : ℕ) → IsRising (numbers_of (connection_at node serial) jobs)
