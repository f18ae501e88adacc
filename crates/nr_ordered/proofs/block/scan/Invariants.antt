use Rattle.std.proofs.Common.{◌≡◌, ◌+◌, take, drop}
use Rattle.nr_ordered.specs.Lists.{front}
use Rattle.nr_ordered.specs.Blocks.{lens_in, items_in, total}
use Rattle.nr_ordered.proofs.block.scan.Given as goal

-- the bytes that are left, and how many items pass in all
abbrev pub invariant-loop-place : goal.invariant-loop-place
invariant-loop-place g l =
    (l.rest ≡ drop (total (take l.place (lens_in l.lens))) l.bytes)
    × (l.place + front (g.C.Cut.parts l.cut) (drop l.place (items_in (lens_in l.lens) l.bytes l.numbers))
    ≡ front (g.C.Cut.parts l.cut) (items_in (lens_in l.lens) l.bytes l.numbers))
