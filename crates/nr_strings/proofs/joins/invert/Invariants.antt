use Rattle.std.proofs.Common.{◌≡◌, ◌-◌}
use Rattle.nr_strings.proofs.InPlace.{computed}
use Rattle.nr_strings.proofs.joins.invert.Given as goal

-- those before are turned
abbrev pub invariant-loop-byte : goal.invariant-loop-byte
invariant-loop-byte l = l.bytes ≡ computed (λ byte. 255 - byte) l.fn.bytes l.fn.bytes l.byte-index
