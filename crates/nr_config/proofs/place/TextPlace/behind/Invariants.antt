-- What is left of the bytes leads to the same place.
use Rattle.std.proofs.Common.{◌≡◌, drop}
use Rattle.nr_config.specs.Places.{place_from, start}
use Rattle.nr_config.proofs.place.TextPlace.behind.Given as goal

abbrev pub invariant-loop-byte : goal.invariant-loop-byte
invariant-loop-byte l = place_from l.place (drop l.byte-index l.before) ≡ place_from start l.before
