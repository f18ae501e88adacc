use Rattle.std.proofs.Common.{◌≡◌, drop}
use Rattle.std.specs.Prelude.{fold}
use Rattle.nr_zsets.specs.Forms.{next_number}
use Rattle.nr_zsets.proofs.digits.number_in.Given as goal

-- what was read, with what is left, is all
abbrev pub invariant-loop-byte : goal.invariant-loop-byte
invariant-loop-byte l = fold next_number l.number (drop l.byte-index l.bytes) ≡ fold next_number 0 l.bytes
