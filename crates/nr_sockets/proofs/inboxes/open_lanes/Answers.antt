use Rattle.std.proofs.Common.{◌≡◌, refl, sym, ◌∙◌}
use Rattle.nr_sockets.proofs.Numbered.{one_added, one_longer}
use Rattle.nr_sockets.specs.declared.inboxes.LaneInbox.{LaneInbox}
use Rattle.nr_sockets.specs.declared.inboxes.PollHandle.{PollHandle}
use Rattle.nr_sockets.proofs.inboxes.open_lanes.Goals as goal

pub loop-number-preserved : goal.loop-number-preserved
loop-number-preserved g c =
    let lanes = c.loop-number.lanes.items in
    let more_lanes = c.push.new.self.items in
    let lane_is = c.in_ok-push.ensures.items in
    let lookouts = c.loop-number.lookouts.items in
    let more_lookouts = c.push-in-loop-number.new.self.items in
    let lookout_is = c.in_ok-push-2.ensures.items in record {
      lanes = one_longer lanes more_lanes c.in_ok-lane.lane _ _ lane_is refl c.loop-number.invariant.lanes;
      count = one_longer lookouts more_lookouts c.in_ok-lane.lookout _ _ lookout_is refl c.loop-number.invariant.count;
      places = one_added lanes more_lanes c.in_ok-lane.lane (λ number (lane : LaneInbox). lane.number ≡ number) lane_is
          (c.in_ok-lane.ensures.number ∙ sym c.loop-number.invariant.lanes) c.loop-number.invariant.places;
      numbers = one_added lookouts more_lookouts c.in_ok-lane.lookout (λ lane (lookout : PollHandle). lookout.lane ≡ lane) lookout_is
          (c.in_ok-lane.ensures.lookout ∙ sym c.loop-number.invariant.count) c.loop-number.invariant.numbers;
    }
