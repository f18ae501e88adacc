use Rattle.std.proofs.Common.{◌+◌, ◌*◌, length}
use Rattle.nr_ordered.proofs.tree.+counting.Given as goal

-- what is below, and one more for the call between a tree and its sides
abbrev pub decreases-Tree::len : goal.decreases-Tree::len
decreases-Tree::len l = 2 * length l.self.now.0

abbrev pub decreases-sides_len : goal.decreases-sides_len
decreases-sides_len l = 2 * (length l.left.now.0 + length l.right.now.0) + 1
