use Rattle.std.proofs.Common.{◌≡◌, ◌++◌, map, take, drop}
use Rattle.nr_script.specs.Receivers.{emptied, received_lines}
use Rattle.nr_script.proofs.player.show_received.Given as goal

abbrev pub invariant-loop-number : goal.invariant-loop-number
invariant-loop-number l = record {
  taken : l.opened ≡ map emptied (take l.number l.fn.opened) ++ drop l.number l.fn.opened;
  printed : l.out.items ≡ l.fn.out.items ++ received_lines 0 (take l.number l.fn.opened);
}
