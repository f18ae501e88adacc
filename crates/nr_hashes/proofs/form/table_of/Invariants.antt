use Rattle.std.proofs.Common.{◌≡◌, ◌++◌}
use Rattle.std.specs.FinMap as map
use Rattle.nr_packs.specs.Packed.{entries_in}
use Rattle.nr_hashes.proofs.form.table_of.Given as goal

-- what is copied and what is left are all
abbrev pub invariant-loop-field : goal.invariant-loop-field
invariant-loop-field l = map.entries l.table ++ l.field-iterator ≡ entries_in l.pairs
