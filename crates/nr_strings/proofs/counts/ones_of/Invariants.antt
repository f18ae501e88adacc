use Rattle.std.proofs.Common.{◌≡◌, ◌≤◌, ◌*◌, take}
use Rattle.nr_model.specs.Strings.{ones}
use Rattle.nr_strings.proofs.counts.ones_of.Given as goal

-- the set bits of the bytes before, at most eight of each
abbrev pub invariant-loop-byte : goal.invariant-loop-byte
invariant-loop-byte l = record {
  count : l.count ≡ ones (take l.byte-index l.bytes);
  bound : l.count ≤ l.byte-index * 8;
}
