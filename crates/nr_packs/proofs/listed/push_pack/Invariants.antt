use Rattle.std.proofs.Common.{◌≡◌, ◌++◌, length}
use Rattle.nr_packs.specs.Packed.{entries_in}
use Rattle.nr_packs.specs.Rows.{pairs_in}
use Rattle.nr_packs.proofs.listed.push_pack.Given as goal

-- what was pushed and what is left are all
abbrev pub invariant-loop-field : goal.invariant-loop-field
invariant-loop-field l = pairs_in l.rows.items ++ entries_in l.rest ≡ pairs_in l.fn.rows.items ++ entries_in l.fn.bytes

abbrev pub decreases-loop-field : goal.decreases-loop-field
decreases-loop-field l = length l.rest
