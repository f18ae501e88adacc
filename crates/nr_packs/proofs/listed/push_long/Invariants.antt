use Rattle.std.proofs.Common.{◌≡◌, ◌++◌}
use Rattle.nr_packs.specs.Rows.{pairs_in}
use Rattle.nr_packs.proofs.listed.push_long.Given as goal

-- what was pushed and what is left are all
abbrev pub invariant-loop-field : goal.invariant-loop-field
invariant-loop-field l = pairs_in l.rows.items ++ l.field-iterator ≡ pairs_in l.fn.rows.items ++ l.long.entries
