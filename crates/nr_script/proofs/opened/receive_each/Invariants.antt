use Rattle.std.proofs.Common.{◌≡◌, map, take}
use Rattle.nr_world.specs.Seen.{handed_seen}
use Rattle.nr_script.specs.Receivers.{with_handed}
use Rattle.nr_script.proofs.opened.receive_each.Given as goal

abbrev pub invariant-loop-part : goal.invariant-loop-part
invariant-loop-part l = l.receivers ≡ map (with_handed (map handed_seen (take l.part-index l.handed))) l.fn.receivers
