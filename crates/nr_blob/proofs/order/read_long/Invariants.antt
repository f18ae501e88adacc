use Rattle.std.proofs.Common.{◌≡◌, ◌-◌, take}
use Rattle.nr_blob.proofs.order.read_long.Given as goal

abbrev pub invariant-loop-place : goal.invariant-loop-place
invariant-loop-place l = take l.place l.left ≡ take l.place l.right

abbrev pub decreases-loop-place : goal.decreases-loop-place
decreases-loop-place l = l.last - l.place
