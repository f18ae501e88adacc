use Rattle.std.proofs.Common.{◌≡◌, take, drop}
use Rattle.std.specs.Prelude.{find}
use Rattle.nr_ordered.specs.Blocks.{lens_in, items_in, total}
use Rattle.nr_ordered.proofs.block.first_in.Given as goal

-- the bytes that are left, among which the first that passes stands
abbrev pub invariant-loop-place : goal.invariant-loop-place
invariant-loop-place g l =
    (l.rest ≡ drop (total (take l.place (lens_in l.lens))) l.bytes)
    × (find (g.T.Test.passing l.test) (drop l.place (items_in (lens_in l.lens) l.bytes l.numbers))
    ≡ find (g.T.Test.passing l.test) (items_in (lens_in l.lens) l.bytes l.numbers))
