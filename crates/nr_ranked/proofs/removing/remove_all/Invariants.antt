use Rattle.std.proofs.Common.{◌≡◌, drop}
use Rattle.std.specs.Prelude.{fold}
use Rattle.std.specs.FinMap as finmap
use Rattle.nr_ranked.proofs.removing.remove_all.Given as goal

-- what is there, less what is left to take out, is what is wanted
abbrev pub invariant-loop-member : goal.invariant-loop-member
invariant-loop-member l = fold finmap.remove l.zset (drop l.member-index l.members) ≡ fold finmap.remove l.fn.zset l.members
