use Rattle.std.proofs.Common.{◌≡◌, zip}
use Rattle.nr_strings.specs.Joins.{function_of}
use Rattle.nr_strings.proofs.InPlace.{computed, of_both}
use Rattle.nr_strings.proofs.joins.join_others.Given as goal

-- those before are joined
abbrev pub invariant-loop-index : goal.invariant-loop-index
invariant-loop-index l = l.bytes ≡ computed (of_both (function_of l.operation)) (zip l.fn.bytes l.others) l.fn.bytes l.index
