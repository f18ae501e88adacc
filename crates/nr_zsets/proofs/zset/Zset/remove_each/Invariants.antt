use Rattle.std.proofs.Common.{◌≡◌, drop}
use Rattle.std.specs.Prelude.{fold}
use Rattle.std.specs.FinMap as finmap
use Rattle.nr_zsets.proofs.zset.Zset.remove_each.Given as goal

-- what is there, less what is left to take out, is what is wanted
abbrev pub invariant-loop-member : goal.invariant-loop-member
invariant-loop-member l = fold finmap.remove l.self (drop l.member-index l.members) ≡ fold finmap.remove l.fn.self l.members
