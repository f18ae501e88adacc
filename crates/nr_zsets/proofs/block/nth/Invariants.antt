use Rattle.std.proofs.Common.{◌≡◌}
use Rattle.std.specs.List.{slice_get}
use Rattle.nr_zsets.specs.Forms.{items_in}
use Rattle.nr_zsets.proofs.block.nth.Given as goal

-- it stands as far behind among those that are left
abbrev pub invariant-loop-member : goal.invariant-loop-member
invariant-loop-member l = slice_get l.member-iterator l.left ≡ slice_get (items_in l.pairs) l.place
