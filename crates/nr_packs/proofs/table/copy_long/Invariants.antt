use Rattle.std.proofs.Common.{◌≡◌, ◌++◌}
use Rattle.nr_packs.proofs.table.copy_long.Given as goal

-- what is copied and what is left are all
abbrev pub invariant-loop-field : goal.invariant-loop-field
invariant-loop-field l = l.copied.entries ++ l.field-iterator ≡ l.pairs.entries
