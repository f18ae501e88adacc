use Rattle.std.proofs.Common.{◌≡◌, ◌+◌, length}
use Rattle.nr_ordered.specs.Lists.{front}
use Rattle.nr_zsets.specs.Forms.{items_in}
use Rattle.nr_zsets.proofs.block.front_of.Given as goal

-- all so far stand in front
abbrev pub invariant-loop-place : goal.invariant-loop-place
invariant-loop-place g l = record {
  front : l.place + front (g.C.Cut.parts l.cut) l.walk ≡ front (g.C.Cut.parts l.cut) (items_in l.pairs);
  left : l.place + length l.walk ≡ length (items_in l.pairs);
}
