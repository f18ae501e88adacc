use Rattle.std.proofs.Common.{◌≡◌, ◌++◌, map as each}
use Rattle.std.specs.FinMap as map
use Rattle.nr_packs.specs.Packed.{entries_in}
use Rattle.nr_sets.proofs.Bare.{bare}
use Rattle.nr_sets.proofs.form.table_of.Given as goal

-- what is copied and what is left are all
abbrev pub invariant-loop-member : goal.invariant-loop-member
invariant-loop-member l = map.entries l.table ++ each bare l.member-iterator ≡ entries_in l.members
