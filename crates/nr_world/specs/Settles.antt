-- What settling does to a world, whatever past it has.
use Rattle.std.specs.Prelude.{◌≡◌, ◌≤◌, ◌+◌, List, ◌++◌, length, flat_map}
use Rattle.nr_model.specs.Connections as traffic
use Rattle.nr_model.specs.Nodes as nodes
use Rattle.nr_model.specs.Nodes.Pasts.{Event, IsPast, handed_in}
use Rattle.nr_model.specs.Nodes.Settling.{AreRounds, IsSettled, after_events, left_in}
use Rattle.nr_world.specs.WorldState.{WorldState, Shows}

-- all events of some rounds, in order
abbrev pub events_of : List (List Event) → List Event
events_of rounds = flat_map (λ events. events) rounds

-- From a world with this past, rounds were taken until one in which nothing was done. They handed out these bytes, the world behind them is shown
-- and is settled, and they are at most three more than the jobs that were left.
pub record HasSettled (setup : traffic.Setup) (new : WorldState) (handed : List traffic.Handed) (past : List Event) (world : nodes.World) : Type 0 where
  pub rounds : List (List Event)
  pub are : AreRounds setup world rounds
  pub handed_is : handed ≡ handed_in (events_of rounds)
  pub shows : Shows new (after_events setup world (events_of rounds))
  pub settled : IsSettled setup (past ++ events_of rounds) (after_events setup world (events_of rounds))
  pub few : length rounds ≤ left_in world.nodes + 3

-- So it is for each past that the world may have, and each world of the definitions that it shows.
pub record SettlesWorld (old new : WorldState) (handed : List traffic.Handed) : Type 0 where
  pub setup : new.setup ≡ old.setup
  pub taken : (events : List Event) (world : nodes.World) → IsPast old.setup events world → Shows old world → HasSettled old.setup new handed events world
