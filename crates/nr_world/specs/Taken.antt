-- What a step does to a world, whatever past it has.
use Rattle.std.specs.Prelude.{◌≡◌, List, [], None, Option}
use Rattle.nr_model.specs.Connections as traffic
use Rattle.nr_model.specs.Nodes as nodes
use Rattle.nr_model.specs.Nodes.Steps as steps
use Rattle.nr_model.specs.Nodes.Pasts.{Answering, Event, IsEvent, IsPast}
use Rattle.nr_model.specs.declared.reason.Reason.{Reason}
use Rattle.nr_world.specs.WorldState.{WorldState, Shows}
use Rattle.std.specs.Prelude.{Some}

-- the first reason that was found, else this outcome
abbrev pub idle_or : Option Reason → steps.Outcome → steps.Outcome
idle_or None outcome = outcome
idle_or (Some reason) outcome = steps.Idle reason

-- Whatever past a world has, it shows the world behind it: then the step was an event of this outcome, which handed out these bytes and took this answer, and the
-- world behind it is shown.
pub record IsTaken (old new : WorldState) (step : steps.Step) (outcome : steps.Outcome) (handed : List traffic.Handed) (answer : Option Answering) (world : nodes.World) : Type 0 where
  pub refused : steps.Refused
  pub event : IsEvent old.setup world (record { step = step; outcome = outcome; handed = handed; answer = answer; refused = refused })
  pub shows : Shows new (steps.after_step old.setup world step refused)

pub record Takes (old new : WorldState) (step : steps.Step) (outcome : steps.Outcome) (handed : List traffic.Handed) (answer : Option Answering) : Type 0 where
  pub setup : new.setup ≡ old.setup
  pub taken : (events : List Event) (world : nodes.World) → IsPast old.setup events world → Shows old world → IsTaken old new step outcome handed answer world

-- a step that hands out nothing and takes no answer
abbrev pub Steps : WorldState → WorldState → steps.Step → steps.Outcome → Type 0
Steps old new step outcome = Takes old new step outcome [] None
