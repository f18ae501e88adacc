use Rattle.std.proofs.Common.{◌≡◌, ◌≤◌, ◌<◌, ◌^◌, drop}
use Rattle.std.specs.Prelude.{fold}
use Rattle.nr_zsets.specs.Forms.{next_number}
use Rattle.nr_zsets.proofs.digits.write_number.Given as goal

-- what is left, with what was written behind it, spells all, and has room in front of it
abbrev pub invariant-loop-left : goal.invariant-loop-left
invariant-loop-left l = record {
  within : l.start ≤ 8;
  room : l.left < 256 ^ l.start;
  spelled : fold next_number l.left (drop l.start l.bytes) ≡ l.number;
}

abbrev pub decreases-loop-left : goal.decreases-loop-left
decreases-loop-left l = l.left
