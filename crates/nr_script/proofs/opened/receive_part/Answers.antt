use Rattle.std.proofs.Common.{[], ◌∷◌, ◌<◌, length, arith}
use Rattle.nr_world.specs.Seen.{handed_seen}
use Rattle.nr_script.specs.Receivers.{with_handed}
use Rattle.nr_script.proofs.Receivers.{changed_more}
use Rattle.nr_script.proofs.opened.receive_part.Goals as goal

pub loop-receiver-preserved : goal.loop-receiver-preserved
loop-receiver-preserved c =
    let below : c.loop-receiver.receiver-index < length c.args.receivers.now = omega arith in
    changed_more (with_handed (handed_seen c.args.part.now ∷ [])) c.args.receivers.now c.loop-receiver.receivers c.loop-receiver.receiver-index
    c.receiver-item.result c.receive.new.self below c.loop-receiver.invariant c.in_ok-receive.ensures
