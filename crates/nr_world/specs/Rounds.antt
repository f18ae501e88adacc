-- Steps that were taken one behind another, as far as a round and as all rounds, whatever past the world has.
use Rattle.std.specs.Prelude.{◌≡◌, ℕ, ◌+◌, ◌-◌, ◌*◌, Bool, true, false, cond, List, [], ◌∷◌, ◌++◌, length, map, slice_index_or}
use Rattle.nr_model.specs.Connections as traffic
use Rattle.nr_model.specs.Nodes as nodes
use Rattle.nr_model.specs.Nodes.Steps as steps
use Rattle.nr_model.specs.Nodes.Pasts.{Event, AreEvents, IsPast, handed_in}
use Rattle.nr_model.specs.Nodes.Settling.{in_turn, applying, is_idle, does, after_events, IsRound}
use Rattle.nr_world.specs.WorldState.{WorldState, Shows}
use Rattle.nr_world.specs.Served.{node_seen}
use Rattle.nr_world.specs.Logs.{log_seen}
use Rattle.nr_world.specs.Settles.{events_of}

-- the last of these events are an apply and a fetch of a node, both idle
pub record EndsIdle (n : ℕ) (events : List Event) : Type 0 where
  pub before : List Event
  pub apply : Event
  pub fetch : Event
  pub is : events ≡ before ++ apply ∷ fetch ∷ []
  pub applies : apply.step ≡ steps.Apply n
  pub fetches : fetch.step ≡ steps.Fetch n
  pub first : is_idle apply.outcome ≡ true
  pub second : is_idle fetch.outcome ≡ true

-- so do those before each look
pub record AreLooks (events : List Event) : Type 0 where
  pub idle : (n : ℕ) (front back : List Event) (look : Event) → events ≡ front ++ look ∷ back → look.step ≡ steps.Look n → EndsIdle n front

-- From a world, these steps were events that led to one that is shown. What was handed out before and after them is given, and whether one of them was done.
pub record IsRun (setup : traffic.Setup) (new : WorldState) (made : List steps.Step) (before after : List traffic.Handed) (done : Bool)
    (world : nodes.World) : Type 0 where
  pub events : List Event
  pub are : AreEvents setup world events
  pub steps_are : map (λ (e : Event). e.step) events ≡ made
  pub handed : after ≡ before ++ handed_in events
  pub done_is : does events ≡ done
  pub looks : AreLooks events
  pub shows : Shows new (after_events setup world events)

pub record RunsSteps (old new : WorldState) (made : List steps.Step) (before after : List traffic.Handed) (done : Bool) : Type 0 where
  pub setup : new.setup ≡ old.setup
  pub taken : (events : List Event) (world : nodes.World) → IsPast old.setup events world → Shows old world → IsRun old.setup new made before after done world

-- steps that hand out nothing
abbrev pub RunsBy : WorldState → WorldState → List steps.Step → Bool → Type 0
RunsBy old new made done = RunsSteps old new made [] [] done

-- what a node has still to do with a log of so many entries: to fetch each that it hasn't passed, and to apply it
abbrev pub left_to_pass : ℕ → nodes.Node → ℕ
left_to_pass tail node = 2 * (tail - node.passed) + cond node.fetched 0 1

abbrev pub turns_left : ℕ → WorldState → ℕ
turns_left n v = left_to_pass (v.log.base + length (log_seen v.log)) (slice_index_or (map node_seen v.nodes) n nodes.no_node)

-- a node took turns, the last of them idle
pub record TakesNodeTurns (n : ℕ) (old new : WorldState) (done : Bool) : Type 0 where
  pub turns : ℕ
  pub middle : WorldState
  pub first : RunsBy old middle (in_turn n turns) done
  pub last : RunsBy middle new (steps.Apply n ∷ steps.Fetch n ∷ []) false

-- and then it looked
pub record Replays (n : ℕ) (old new : WorldState) (done : Bool) : Type 0 where
  pub turns : ℕ
  pub runs : RunsBy old new (in_turn n turns ++ steps.Look n ∷ []) done

-- so did so many nodes
pub record ReplayEach (count : ℕ) (old new : WorldState) (done : Bool) : Type 0 where
  pub turns : List ℕ
  pub many : length turns ≡ count
  pub runs : RunsBy old new (applying 0 turns) done

-- a round was taken
pub record IsRoundTaken (setup : traffic.Setup) (new : WorldState) (before after : List traffic.Handed) (done : Bool) (world : nodes.World) : Type 0 where
  pub events : List Event
  pub round : IsRound setup world events
  pub handed : after ≡ before ++ handed_in events
  pub done_is : does events ≡ done
  pub shows : Shows new (after_events setup world events)

pub record TakesRound (old new : WorldState) (before after : List traffic.Handed) (done : Bool) : Type 0 where
  pub setup : new.setup ≡ old.setup
  pub taken : (events : List Event) (world : nodes.World) → IsPast old.setup events world → Shows old world → IsRoundTaken old.setup new before after done world

-- rounds, in each of which something was done
abbrev pub AreBusy : traffic.Setup → nodes.World → List (List Event) → Type 0
AreBusy setup world [] = Unit {0}
AreBusy setup world (events ∷ more) = IsRound setup world events × (does events ≡ true) × AreBusy setup (after_events setup world events) more

-- so many of them
pub record AreRoundsTaken (count : ℕ) (setup : traffic.Setup) (new : WorldState) (handed : List traffic.Handed) (world : nodes.World) : Type 0 where
  pub rounds : List (List Event)
  pub busy : AreBusy setup world rounds
  pub many : length rounds ≡ count
  pub handed_is : handed ≡ handed_in (events_of rounds)
  pub shows : Shows new (after_events setup world (events_of rounds))

pub record TakesRounds (count : ℕ) (old new : WorldState) (handed : List traffic.Handed) : Type 0 where
  pub setup : new.setup ≡ old.setup
  pub taken : (events : List Event) (world : nodes.World) → IsPast old.setup events world → Shows old world → AreRoundsTaken count old.setup new handed world
