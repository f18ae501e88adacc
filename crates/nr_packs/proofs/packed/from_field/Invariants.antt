use Rattle.std.proofs.Common.{◌≡◌, ◌≤◌, length}
use Rattle.nr_packs.specs.Packed.{packed, entries_in}
use Rattle.nr_packs.specs.Placed.{from}
use Rattle.nr_packs.proofs.packed.from_field.Given as goal

-- the place is in what is left
abbrev pub invariant-loop-other : goal.invariant-loop-other
invariant-loop-other l = record {
  stored : packed (entries_in l.rest) ≡ l.rest;
  place : from l.field (entries_in l.rest) ≡ from l.field (entries_in l.bytes);
  within : length l.rest ≤ length l.bytes;
}

abbrev pub decreases-loop-other : goal.decreases-loop-other
decreases-loop-other l = length l.rest
