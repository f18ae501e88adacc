use Rattle.std.proofs.Common.{map, ap, ◌∙◌}
use Rattle.nr_world.specs.Seen.{handed_seen}
use Rattle.nr_script.specs.Receivers.{emptied}
use Rattle.nr_script.proofs.Receivers.{emptied_handed}
use Rattle.nr_script.proofs.player.show_handed.Goals as goal

pub returns-clause-taken : goal.returns-clause-taken
returns-clause-taken c =
    c.in_ok-show_received.ensures.taken ∙ ap (map emptied) c.in_ok-receive.ensures
    ∙ emptied_handed (map handed_seen c.args.handed.now) c.args.opened.now
