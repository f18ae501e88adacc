-- Which stories may have led to what answers, and what that says of one sequential Redis.
use Rattle.std.specs.Prelude.{◌≡◌, false, List, None}
use Rattle.nr_model.specs.Items.{Connection}
use Rattle.nr_model.specs.Sequential.{emitted_for}
use Rattle.nr_model.specs.Bytes.{IsBeginningOf}
use Rattle.nr_model.specs.Nodes.{World, sequence_of}
use Rattle.nr_model.specs.Nodes.Steps.{is_client}
use Rattle.nr_model.specs.Nodes.Pasts.{Event, IsPast}
use Rattle.nr_model.specs.Nodes.Explained.{Explains}
use Rattle.nr_model.specs.Nodes.Settling.{IsSettled}
use Rattle.nr_world.specs.WorldState.{Shows}
use Rattle.nr_service.specs.Stories.{Story, bytes_handed}
use Rattle.nr_world_service.specs.Kept.{kept_at}
use Rattle.nr_world_service.specs.State.{WorldBackendState}
use Rattle.nr_world_service.specs.Told.{told_in}

-- A story is that of events which led to a world of its size: what happened by them is what happened in it, in that order.
pub record IsOf (story : Story) (events : List Event) (world : World) : Type 0 where
  pub past : IsPast story.setup events world
  pub told : told_in events ≡ story.occurrences

-- So may a story have led to it: its nodes show that world.
pub record HasLedTo (a : WorldBackendState) (story : Story) : Type 0 where
  pub events : List Event
  pub world : World
  pub is : IsOf story events world
  pub sized : a.world.setup ≡ story.setup
  pub shows : Shows a.world world

-- What is left of a story where memory ran out: it led to a server before.
pub record HasOnceLed (story : Story) : Type 0 where
  pub to : WorldBackendState
  pub led : HasLedTo to story

-- And nothing is left to be done: that world is settled. Bytes are kept for connections of it alone.
pub record IsAtRest (a : WorldBackendState) (story : Story) : Type 0 where
  pub events : List Event
  pub world : World
  pub is : IsOf story events world
  pub sized : a.world.setup ≡ story.setup
  pub shows : Shows a.world world
  pub works : a.failed ≡ false
  pub settled : IsSettled story.setup events world
  pub absent : (c : Connection) → is_client world c ≡ false → kept_at c a.taps ≡ None

-- A story is that of events which what was taken in their world, in order, explains. What was handed out for each connection is a beginning of what one sequential Redis emits
-- for it along that sequence.
pub record IsExplained (story : Story) : Type 0 where
  pub events : List Event
  pub world : World
  pub is : IsOf story events world
  pub explains : Explains (sequence_of world) story.setup events world
  pub begins : (c : Connection) → IsBeginningOf (bytes_handed c story) (emitted_for c (sequence_of world))

abbrev pub StoryLaw : Type 0
StoryLaw = (a : WorldBackendState) (story : Story) → HasOnceLed story → IsExplained story
