use Rattle.std.proofs.Common.{◌≡◌, drop}
use Rattle.nr_packs.specs.Packed.{packed, entries_in}
use Rattle.nr_packs.proofs.packed.places.behind.Given as goal

-- as many of what is left are to be passed
abbrev pub invariant-loop-left : goal.invariant-loop-left
invariant-loop-left l = record {
  stored : packed (entries_in l.rest) ≡ l.rest;
  left : drop l.left (entries_in l.rest) ≡ drop l.place (entries_in l.bytes);
}

abbrev pub decreases-loop-left : goal.decreases-loop-left
decreases-loop-left l = l.left
