-- What was taken and the batches that were posted stay: what comes later stands behind them.
use Rattle.std.proofs.Common.{◌≡◌, ◌-◌, true, false, cond, List, [], ◌∷◌, ◌++◌, refl, ap, sym, ◌∙◌, subst, append_assoc}
use Rattle.std.specs.Prelude.{flat_map, fold}
use Rattle.std.proofs.lemmas.List.{append-nil}
use Rattle.std.proofs.lemmas.Grind.{flat_map-append}
use Rattle.nr_model.specs.Entries.{read_jobs}
use Rattle.nr_model.specs.Connections.{Setup}
use Rattle.nr_model.specs.Bytes.{IsBeginningOf}
use Rattle.nr_model.specs.Nodes.{Reads, World, fresh, node_at, with_node, log_of, tail_of, items_taken, jobs_taken, sequence_of}
use Rattle.nr_model.specs.Nodes.Steps.{Step, Open, Feed, Post, Lift, Reserve, Fill, Fetch, Apply, Look, Answer, Collect, Close, Refuse, Revive, Outcome, Opened, Done, Idle, Refused, advanced_by, with_reads, effect, effect_by, came_to, after_step}
use Rattle.nr_model.specs.Nodes.Pasts.{Event, after_event, world_after}
use Rattle.nr_model.specs.Nodes.Explained.{jobs_executed}
use Rattle.nr_model.proofs.NodesSteps.{world_after-append}

-- a list is a beginning of itself
pub begins_itself : {A : Type 0} (x : List A) → IsBeginningOf x x
begins_itself x = ([], append-nil x)

-- and of what has more behind it
pub begins_more : {A : Type 0} (x more : List A) → IsBeginningOf x (x ++ more)
begins_more x more = (more, refl)

-- a beginning of a beginning
pub begins_on : {A : Type 0} (x y z : List A) → IsBeginningOf x y → IsBeginningOf y z → IsBeginningOf x z
begins_on x y z a b = (a.0 ++ b.0, sym (append_assoc x a.0 b.0) ∙ ap (λ ys. ys ++ b.0) a.1 ∙ b.1)

-- what is put together of each of them
pub begins_flat_map : {A B : Type 0} (f : A → List B) (x y : List A) → IsBeginningOf x y → IsBeginningOf (flat_map f x) (flat_map f y)
begins_flat_map f x y a = (flat_map f a.0, sym (flat_map-append f x a.0) ∙ ap (flat_map f) a.1)

-- one world grew to another
pub record Grows (old new : World) : Type 0 where
  pub taken : IsBeginningOf old.taken new.taken
  pub batches : IsBeginningOf old.batches new.batches

pub grows_itself : (world : World) → Grows world world
grows_itself world = record { taken = begins_itself world.taken; batches = begins_itself world.batches }

pub grows_on : (a b c : World) → Grows a b → Grows b c → Grows a c
grows_on a b c first second = record {
  taken = begins_on a.taken b.taken c.taken first.taken second.taken;
  batches = begins_on a.batches b.batches c.batches first.batches second.batches;
}

-- by what a step does that is enabled
effect_grows : (setup : Setup) (world : World) (step : Step) (refused : Refused) → Grows world (effect setup world step refused)
effect_grows setup world (Open n w) refused = record { taken = begins_itself world.taken; batches = begins_itself world.batches }
effect_grows setup world (Feed c time bytes) refused = record { taken = begins_itself world.taken; batches = begins_itself world.batches }
effect_grows setup world (Post n w) refused = record { taken = begins_itself world.taken; batches = begins_more world.batches _ }
effect_grows setup world (Lift n w) refused = record { taken = begins_itself world.taken; batches = begins_itself world.batches }
effect_grows setup world (Reserve n) refused = record { taken = begins_more world.taken _; batches = begins_itself world.batches }
effect_grows setup world (Fill n t) refused = record { taken = begins_itself world.taken; batches = begins_itself world.batches }
effect_grows setup world (Fetch n) refused = record { taken = begins_itself world.taken; batches = begins_itself world.batches }
effect_grows setup world (Apply n) refused = record { taken = begins_itself world.taken; batches = begins_itself world.batches }
effect_grows setup world (Look n) refused =
    let tail = tail_of world in
    let node = node_at n world in
    let ahead = advanced_by (tail - node.passed) refused n (log_of world.taken) node in
    elim (ahead.down) as (λ down. Grows world (cond down (with_node n ahead world)
    (record (with_node n (with_reads refused.cuts tail ahead) world) { taken = world.taken ++ Reads n ahead.applied (read_jobs ahead.waiting) ∷ [] }))) [
      | true ↦ record { taken = begins_itself world.taken; batches = begins_itself world.batches }
      | false ↦ record { taken = begins_more world.taken _; batches = begins_itself world.batches }
    ]
effect_grows setup world (Answer n w) refused = record { taken = begins_itself world.taken; batches = begins_itself world.batches }
effect_grows setup world (Collect n w) refused = record { taken = begins_itself world.taken; batches = begins_itself world.batches }
effect_grows setup world (Close c time) refused = record { taken = begins_itself world.taken; batches = begins_itself world.batches }
effect_grows setup world (Refuse n) refused = record { taken = begins_itself world.taken; batches = begins_itself world.batches }
effect_grows setup world (Revive n f) refused = record { taken = begins_itself world.taken; batches = begins_itself world.batches }

-- by the outcome
by_outcome : (o : Outcome) (setup : Setup) (world : World) (step : Step) (refused : Refused) → Grows world (effect_by o setup world step refused)
by_outcome (Opened c) setup world step refused = effect_grows setup world step refused
by_outcome Done setup world step refused = effect_grows setup world step refused
by_outcome (Idle reason) setup world step refused = grows_itself world

pub step_grows : (setup : Setup) (world : World) (step : Step) (refused : Refused) → Grows world (after_step setup world step refused)
step_grows setup world step refused = by_outcome (came_to setup world step refused) setup world step refused

-- by any events
pub events_grow : (setup : Setup) (world : World) (events : List Event) → Grows world (fold (after_event setup) world events)
events_grow setup world [] = grows_itself world
events_grow setup world (e ∷ events) =
    let next = after_event setup world e in
    grows_on world next (fold (after_event setup) next events) (step_grows setup world e.step e.refused) (events_grow setup next events)

-- so what a front of a past led to is a beginning of what the whole led to
pub grows : (setup : Setup) (events before later : List Event) → events ≡ before ++ later → Grows (world_after setup before) (world_after setup events)
grows setup events before later is =
    subst (Grows (world_after setup before)) (sym (ap (world_after setup) is ∙ world_after-append setup (fresh setup) before later))
    (events_grow setup (world_after setup before) later)

-- in the jobs that were executed, and in the sequence
pub grown_jobs : (old new : World) → Grows old new → IsBeginningOf (jobs_executed old) (jobs_executed new)
grown_jobs old new g = begins_flat_map jobs_taken old.taken new.taken g.taken

pub grown_sequence : (old new : World) → Grows old new → IsBeginningOf (sequence_of old) (sequence_of new)
grown_sequence old new g = begins_flat_map items_taken old.taken new.taken g.taken
