use Rattle.std.proofs.Common.{◌≡◌, ◌++◌, ◌∷◌, [], map, take, drop}
use Rattle.nr_world.specs.Seen.{handed_seen}
use Rattle.nr_script.specs.Receivers.{with_handed}
use Rattle.nr_script.proofs.opened.receive_part.Given as goal

abbrev pub invariant-loop-receiver : goal.invariant-loop-receiver
invariant-loop-receiver l =
    l.receivers ≡ map (with_handed (handed_seen l.part ∷ [])) (take l.receiver-index l.fn.receivers) ++ drop l.receiver-index l.fn.receivers
