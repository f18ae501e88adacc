use Rattle.std.proofs.Common.{◌≡◌, ◌++◌}
use Rattle.nr_zsets.specs.Forms.{items_in}
use Rattle.nr_zsets.proofs.block.tree_of.Given as goal

-- what is in the tree, and what is left, are all
abbrev pub invariant-loop-member : goal.invariant-loop-member
invariant-loop-member l = l.tree.0 ++ l.member-iterator ≡ items_in l.pairs
