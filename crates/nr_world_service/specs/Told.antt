-- What happened to connections by the events of a server, in order.
use Rattle.std.specs.Prelude.{Option, Some, None, List, [], ◌∷◌, ◌++◌, cond, flat_map, map}
use Rattle.nr_model.specs.Items.{Connection}
use Rattle.nr_model.specs.Keyspace.{moment}
use Rattle.nr_model.specs.Nodes.Steps.{Step, Open, Feed, Close, Outcome, Opened, Done, Idle}
use Rattle.nr_model.specs.Nodes.Pasts.{Event, is_done}
use Rattle.nr_service.specs.Stories as stories

-- an open that was done
abbrev pub opened_by : Outcome → List stories.Occurrence
opened_by (Opened c) = stories.Opened c ∷ []
opened_by Done = []
opened_by (Idle reason) = []

-- an open, a feed or a close that was done, these two at the moment of the step; the other steps do nothing to a connection but hand out
abbrev pub told_by : Step → Outcome → List stories.Occurrence
told_by (Open n w) outcome = opened_by outcome
told_by (Feed c time bytes) outcome =
    cond (is_done outcome) (stories.Fed (record { connection = c; moment = moment time; bytes = bytes }) ∷ []) []
told_by (Close c time) outcome = cond (is_done outcome) (stories.closed_at c time ∷ []) []
told_by _ outcome = []

-- and each piece that was handed out
abbrev pub told_of : Event → List stories.Occurrence
told_of e = told_by e.step e.outcome ++ map stories.HandedOut e.handed

abbrev pub told_in : List Event → List stories.Occurrence
told_in events = flat_map told_of events

-- the connection that was opened, where one was
abbrev pub opening : Option Connection → List stories.Occurrence
opening None = []
opening (Some c) = stories.Opened c ∷ []
