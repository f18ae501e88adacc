use Rattle.std.proofs.Common.{◌≡◌, ◌++◌, drop}
use Rattle.nr_packs.specs.Rows.{pairs_in}
use Rattle.nr_packs.specs.Tables.{pairs_of}
use Rattle.nr_packs.proofs.listed.push_packs.Given as goal

-- what was pushed and what is left are all
abbrev pub invariant-loop-pack : goal.invariant-loop-pack
invariant-loop-pack l = pairs_in l.rows.items ++ pairs_of (drop l.pack-index l.packs) ≡ pairs_in l.fn.rows.items ++ pairs_of l.packs
