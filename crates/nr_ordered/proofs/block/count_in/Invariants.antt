use Rattle.std.proofs.Common.{◌≡◌, ◌≤◌, ◌+◌, take, drop, length}
use Rattle.std.specs.Prelude.{filter}
use Rattle.nr_ordered.specs.Blocks.{lens_in, items_in, total}
use Rattle.nr_ordered.proofs.block.count_in.Given as goal

-- the bytes that are left, and how many items pass in all
abbrev pub invariant-loop-place : goal.invariant-loop-place
invariant-loop-place g l =
    (l.rest ≡ drop (total (take l.place (lens_in l.lens))) l.bytes)
    × (l.count + length (filter (g.T.Test.passing l.test) (drop l.place (items_in (lens_in l.lens) l.bytes l.numbers)))
    ≡ length (filter (g.T.Test.passing l.test) (items_in (lens_in l.lens) l.bytes l.numbers)))
    × (l.count ≤ l.place)
