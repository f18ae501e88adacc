use Rattle.std.proofs.Common.{◌≡◌, length}
use Rattle.std.specs.Prelude.{find}
use Rattle.nr_packs.specs.Packed.{entries_in}
use Rattle.nr_zsets.specs.Forms.{items_in}
use Rattle.nr_zsets.proofs.block.first.Given as goal

-- none so far passed
abbrev pub invariant-loop-member : goal.invariant-loop-member
invariant-loop-member g l = find (g.T.Test.passing l.test) (items_in (entries_in l.rest)) ≡ find (g.T.Test.passing l.test) (items_in l.pairs)

abbrev pub decreases-loop-member : goal.decreases-loop-member
decreases-loop-member g l = length l.rest
