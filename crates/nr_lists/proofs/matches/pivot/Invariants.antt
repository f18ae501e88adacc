use Rattle.nr_lists.proofs.Listed.{Looks}
use Rattle.nr_lists.proofs.matches.pivot.Given as goal

-- what is left to look at
abbrev pub invariant-loop-place : goal.invariant-loop-place
invariant-loop-place l = Looks l.fn.pivot l.place l.fn.walk l.walk
