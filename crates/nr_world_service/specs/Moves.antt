-- How the nodes go on, whatever past they have.
use Rattle.std.specs.Prelude.{◌≡◌, ℕ, true, false, cond, List, [], ◌∷◌, map}
use Rattle.nr_model.specs.Items.{Connection}
use Rattle.nr_model.specs.Connections.{Setup, Handed}
use Rattle.nr_model.specs.Nodes.{World, node_at}
use Rattle.nr_model.specs.Nodes.Steps.{is_client, is_worker}
use Rattle.nr_model.specs.Nodes.Pasts.{Event, AreEvents, IsPast}
use Rattle.nr_model.specs.Nodes.Settling.{after_events}
use Rattle.nr_world.specs.Settles.{SettlesWorld}
use Rattle.nr_world.specs.WorldState.{WorldState, Shows}
use Rattle.nr_service.specs.Stories.{Occurrence, HandedOut, closed_at, opened_in}
use Rattle.nr_world_service.specs.Stands.{is_gone, takes_none, IsGone, IsFull}
use Rattle.nr_world_service.specs.Told.{told_in}

-- connections that weren't there in a world, and are in one behind it
abbrev pub AreNew : World → World → List Connection → Type 0
AreNew world after [] = Unit {0}
AreNew world after (c ∷ connections) = (is_client world c ≡ false) × (is_client after c ≡ true) × AreNew world after connections

-- More events, by which this happened, and no more. The connections that were opened by them are new.
pub record IsFurther (setup : Setup) (new : WorldState) (more : List Occurrence) (world : World) : Type 0 where
  pub events : List Event
  pub are : AreEvents setup world events
  pub shows : Shows new (after_events setup world events)
  pub told : told_in events ≡ more
  pub is_new : AreNew world (after_events setup world events) (opened_in more)

pub record Moves (old new : WorldState) (more : List Occurrence) : Type 0 where
  pub setup : new.setup ≡ old.setup
  pub further : (events : List Event) (world : World) → IsPast old.setup events world → Shows old world → IsFurther old.setup new more world

-- the work that was at hand was done, and nothing is left
pub record Rests (old new : WorldState) (handed : List Handed) : Type 0 where
  pub moves : Moves old new (map HandedOut handed)
  pub settles : SettlesWorld old new handed

-- A connection was closed at a moment, and no other, or nothing happened where it took no room. Behind it it takes none.
pub record ClosesConnection (old new : WorldState) (c : Connection) (time : ℕ) : Type 0 where
  pub shut : List Occurrence
  pub moves : Moves old new shut
  pub is : (events : List Event) (world : World) → IsPast old.setup events world → Shows old world → shut ≡ cond (is_gone world c) [] (closed_at c time ∷ [])
  pub gone : (events : List Event) (world : World) → IsPast old.setup events world → Shows old world → IsGone new c

-- nothing moved, and a worker of a node took no connection
pub record Refuses (old new : WorldState) (n w : ℕ) : Type 0 where
  pub shows : (events : List Event) (world : World) → IsPast old.setup events world → Shows old world → Shows new world
  pub full : (events : List Event) (world : World) → IsPast old.setup events world → Shows old world → is_worker old.setup n w ≡ true
      → takes_none old.setup (node_at n world) ≡ true

-- no node had room for one more
abbrev pub FindsFull : WorldState → Type 0
FindsFull old = (events : List Event) (world : World) → IsPast old.setup events world → Shows old world → IsFull old
