-- Rounds of steps end in a settled world.
use Rattle.std.proofs.Common.{◌≡◌, ◌≤◌, true, false, List, [], ◌++◌, ap, sym, ◌∙◌, subst, arith}
use Rattle.std.specs.Prelude.{flat_map}
use Rattle.std.proofs.lemmas.Bool.{not-true}
use Rattle.std.proofs.lemmas.List.{append-nil}
use Rattle.nr_model.specs.Bytes.{Bytes}
use Rattle.nr_model.specs.Items.{Connection}
use Rattle.nr_model.specs.Sequential.{emitted_for}
use Rattle.nr_model.specs.Connections.{Setup, handed_to}
use Rattle.nr_model.specs.Asked.{own_jobs}
use Rattle.nr_model.specs.Nodes.{World, fresh, node_at, worker_at, client_of, sequence_of}
use Rattle.nr_model.specs.Nodes.Steps.{is_client, posted_jobs}
use Rattle.nr_model.specs.Nodes.Pasts.{Event, AreEvents, IsPast, world_after, handed_in}
use Rattle.nr_model.specs.Nodes.Explained.{IsWhole, jobs_executed, asked_jobs}
use Rattle.nr_model.specs.Nodes.Settling.{after_events, AreRounds, IsSettled}
use Rattle.nr_model.proofs.NodesSteps.{each_sized, a_client, world_after-append}
use Rattle.nr_model.proofs.NodesOwnPlaces.{each_placed}
use Rattle.nr_model.proofs.NodesOwnShaped.{each_shaped}
use Rattle.nr_model.proofs.NodesOwnHolds.{each_own}
use Rattle.nr_model.proofs.NodesExecutedWorlds.{each_fit}
use Rattle.nr_model.proofs.NodesAccountsKnown.{each_known, nodes_accounted}
use Rattle.nr_model.proofs.NodesSettledStill.{IsStill, all_of, are_both, last_round}
use Rattle.nr_model.proofs.NodesSettledDropped.{each_dropped}
use Rattle.nr_model.proofs.NodesSettledWhole.{part_is_whole}
use Rattle.nr_model.proofs.NodesSettledQuiet.{still_held, still_passed, still_filled, still_waiting}
use Rattle.nr_model.proofs.NodesSettledSlots.{IsQuiet, quiet_applied, quiet_slot, quiet_pending, quiet_bytes}

-- a world behind events in which no step of a round is enabled
is_quiet : (setup : Setup) (events : List Event) → IsStill setup (world_after setup events) → IsQuiet setup (world_after setup events)
is_quiet setup events still =
    record {
      still = still;
      sized = each_sized setup events;
      placed = each_placed setup events;
      shaped = (each_shaped setup events).shaped;
      fit = each_fit setup events;
      dropped = each_dropped setup events;
    }

-- each job that was asked for was executed
all_executed : (setup : Setup) (events : List Event) → 1 ≤ setup.places → IsStill setup (world_after setup events) → (c : Connection)
    → is_client (world_after setup events) c ≡ true → (node_at c.node (world_after setup events)).down ≡ false
    → (node_at c.node (world_after setup events)).since ≤ c.serial
    → own_jobs c (jobs_executed (world_after setup events)) ≡ asked_jobs (world_after setup events) c
all_executed setup events places still c here up recent =
    let world = world_after setup events in
    let q = is_quiet setup events still in
    let is = a_client world c here in
    let there = is.there in
    let long = q.sized.nodes in
    let node = node_at c.node world in
    let w = (client_of c world).worker in
    let within = ((q.shaped c.node is.there).named c.serial is.stands).worker in
    let executed = own_jobs c (jobs_executed world) in
    let waiting = still_waiting setup world q.sized q.dropped still places c.node (omega arith) in
    let slot = quiet_slot setup world q places c.node w (omega arith) within in
    let pending = quiet_pending setup world q places c.node w (omega arith) within in
    let none : executed ++ (own_jobs c node.waiting ++ (own_jobs c (posted_jobs (worker_at w node).slot) ++ own_jobs c (worker_at w node).pending)) ≡ executed ++ [] =
    λ i. executed ++ (own_jobs c (waiting i) ++ (own_jobs c (posted_jobs (slot i)) ++ own_jobs c (pending i))) in
    sym (none ∙ append-nil executed) ∙ (each_own setup events c is).whole up recent

-- and all that is emitted was handed out
all_handed : (setup : Setup) (events : List Event) → AreEvents setup (fresh setup) events → IsStill setup (world_after setup events) → (c : Connection)
    → IsWhole c (world_after setup events) → handed_to c (handed_in events) ≡ emitted_for c (sequence_of (world_after setup events))
all_handed setup events are still c whole =
    let world = world_after setup events in
    let q = is_quiet setup events still in
    let node = node_at c.node world in
    let handed = handed_to c (handed_in events) in
    let there = (a_client world c whole.0).there in
    let long = q.sized.nodes in
    let applied = quiet_applied setup world q c.node (omega arith) (not-true node.down whole.1) in
    sym (append-nil handed)
    ∙ ap (λ (bs : Bytes). handed ++ bs) (sym (quiet_bytes setup world q c))
    ∙ (nodes_accounted setup events are).whole c whole
    ∙ part_is_whole c node.applied world.taken (omega arith) (each_known setup events are).run

-- so it is settled
pub still_is_settled : (setup : Setup) (events : List Event) → 1 ≤ setup.places → AreEvents setup (fresh setup) events
    → IsStill setup (world_after setup events) → IsSettled setup events (world_after setup events)
still_is_settled setup events places are still =
    let world = world_after setup events in
    let q = is_quiet setup events still in
    record {
      slots = quiet_slot setup world q places;
      pending = quiet_pending setup world q places;
      waiting = still_waiting setup world q.sized q.dropped still places;
      filled = still_filled setup world q.sized still;
      held = still_held setup world still;
      passed = still_passed setup world q.sized still;
      applied = quiet_applied setup world q;
      bytes = quiet_bytes setup world q;
      executed = all_executed setup events places still;
      handed = all_handed setup events are still;
    }

-- whatever has happened, rounds end so
pub rounds_settle : (setup : Setup) (before : List Event) (world : World) (rounds : List (List Event)) → 1 ≤ setup.nodes → 1 ≤ setup.workers → 1 ≤ setup.places
    → IsPast setup before world → AreRounds setup world rounds
    → IsSettled setup (before ++ flat_map (λ events. events) rounds) (after_events setup world (flat_map (λ events. events) rounds))
rounds_settle setup before world rounds nodes workers places past are =
    let later = all_of rounds in
    let here = world_after setup before in
    let last = last_round setup here rounds (subst (λ (w : World). AreRounds setup w rounds) past.1 are) in
    let same : world_after setup (before ++ later) ≡ after_events setup here later = world_after-append setup (fresh setup) before later in
    let whole = are_both setup (fresh setup) before later past.0 last.are in
    let settled = still_is_settled setup (before ++ later) places whole (subst (IsStill setup) (sym same) last.still) in
    subst (IsSettled setup (before ++ later)) (same ∙ ap (λ (w : World). after_events setup w later) (sym past.1)) settled
