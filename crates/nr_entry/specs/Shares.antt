-- An entry, shared by all nodes.
use Rattle.std.specs.Prelude.{ℕ, List, Option, Some, replicate}
use Rattle.std.specs.Arc.{arc_value}
use Rattle.nr_entry.specs.declared.entry.Entry.{Entry}
use Rattle.nr_entry.specs.declared.shares.Unshared.{Unshared}
use Rattle.nr_entry.specs.declared.shares.Unshared.TheVariants.{Whole, One}

-- a share for each of so many nodes
abbrev pub shares_of : Entry → ℕ → List (Option Entry)
shares_of entry nodes = replicate nodes (Some entry)

-- the entry whose shares aren't made yet
abbrev pub entry_of : Unshared → Entry
entry_of (Whole entry) = entry
entry_of (One one) = arc_value one
