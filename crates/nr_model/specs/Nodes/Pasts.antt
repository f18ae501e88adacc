-- What happened to a server of several nodes: its past, event by event.
use Rattle.std.specs.Prelude.{◌≡◌, ◌<◌, ◌≤◌, ℕ, ◌-◌, Bool, true, false, ◌&&◌, ◌||◌, ◌==◌, nat_lt, cond, List, [], ◌∷◌, flat_map, fold, Contains, Option, Some, None}
use Rattle.nr_model.specs.Queues.{grows}
use Rattle.nr_model.specs.Sequential.Events.{Emission}
use Rattle.nr_model.specs.Servers.{emitted_all}
use Rattle.nr_model.specs.Entries.{read_jobs, entry_items}
use Rattle.nr_model.specs.Connections.{Setup, Handed}
use Rattle.nr_model.specs.Nodes.{Empty, Posted, Lifted, Answered, Worker, Node, World, fresh, node_at, worker_at, client_at, log_of, logged_at, tail_of}
use Rattle.nr_model.specs.Nodes.Steps.{Step, Apply, Look, Collect, Revive, Outcome, Opened, Done, Idle, Cut, Refused, came_to, is_client, collected, texts_for, falls_at, advanced_by, after_step}

-- the answer to a batch, as its worker took it: whether all its jobs were executed
pub record Answering : Type 0 where
  pub node : ℕ
  pub worker : ℕ
  pub batch : ℕ
  pub executed : Bool

-- a step that was taken: what came of it, the bytes that it handed to connections, the answer that it took, and what was refused for memory in it
pub record Event : Type 0 where
  pub step : Step
  pub outcome : Outcome
  pub handed : List Handed
  pub answer : Option Answering
  pub refused : Refused

-- the answer that a slot holds, to its worker's last batch
abbrev pub answer_in : ℕ → ℕ → Worker → Option Answering
answer_in n w worker =
    elim worker.slot [
      | Empty ↦ None
      | Posted jobs ↦ None
      | Lifted owed ↦ None
      | Answered executed ↦ Some (record { node = n; worker = w; batch = worker.batches - 1; executed = executed })
    ]

abbrev pub is_done : Outcome → Bool
is_done (Opened c) = true
is_done Done = true
is_done (Idle reason) = false

-- what a step hands out, and which answer it takes, where it is done
abbrev pub handed_by : World → Step → List Handed
handed_by world (Collect n w) = collected w (node_at n world).clients
handed_by world _ = []

abbrev pub answer_by : World → Step → Option Answering
answer_by world (Collect n w) = answer_in n w (worker_at w (node_at n world))
answer_by world _ = None

-- a step passes this entry,
abbrev pub IsPassed : World → Step → ℕ → Type 0
IsPassed world (Apply n) x = x ≡ (node_at n world).passed
IsPassed world (Look n) x = ((node_at n world).passed ≤ x) × (x < tail_of world)
IsPassed world step x = ⊥

-- and delivers what it emits to connections of the node; a look delivers behind all entries what the reads emit
abbrev pub IsDelivered : World → Step → Cut → Type 0
IsDelivered world (Apply n) cut = (cut.connection.node ≡ n) × (cut.entry ≡ (node_at n world).passed)
IsDelivered world (Look n) cut = (cut.connection.node ≡ n) × ((node_at n world).passed ≤ cut.entry) × (cut.entry ≤ tail_of world)
IsDelivered world step cut = ⊥

-- a node as an entry finds it, behind those that the step passes before it; what is emitted there, by the entry or behind all entries by the reads that
-- lead; and whether the node is down by then, or falls by the entry
abbrev pub found_by : Refused → World → ℕ → ℕ → Node
found_by refused world n x = let node = node_at n world in advanced_by (x - node.passed) refused n (log_of world.taken) node

abbrev pub emitted_there : World → ℕ → Node → List Emission
emitted_there world x node =
    emitted_all node.server (cond (x == tail_of world) (read_jobs node.waiting) (entry_items (logged_at x world).jobs))

abbrev pub delivers_none : Refused → World → ℕ → Node → Bool
delivers_none refused world x node = node.down || (nat_lt x (tail_of world) && (node.refused || falls_at refused.falls x))

-- The growth of a queue that was refused is one that the step makes: the connection is there, its node delivers, and its queue takes this reply or message
-- behind those before it.
pub record IsGrowth (world : World) (refused : Refused) (cut : Cut) : Type 0 where
  pub there : is_client world cut.connection ≡ true
  pub delivers : delivers_none refused world cut.entry (found_by refused world cut.connection.node cut.entry) ≡ false
  pub grows : grows (client_at cut.connection.serial (found_by refused world cut.connection.node cut.entry)).queue
      (texts_for cut.connection (emitted_there world cut.entry (found_by refused world cut.connection.node cut.entry))) cut.after ≡ true

abbrev pub is_revival : Step → Bool
is_revival (Revive n f) = true
is_revival _ = false

-- What is refused for memory is what a step does: it falls by an entry that it passes, a queue of what it delivers doesn't grow, and a copy is none where a
-- node would come back. In any other step nothing is refused, and a step that is idle refuses at most that copy.
pub record AreRefused (world : World) (step : Step) (outcome : Outcome) (refused : Refused) : Type 0 where
  pub falls : (x : ℕ) → refused.falls ≡ Some x → (is_done outcome ≡ true) × IsPassed world step x
  pub cuts : (cut : Cut) → Contains refused.cuts cut → (is_done outcome ≡ true) × IsDelivered world step cut × IsGrowth world refused cut
  pub copy : refused.copy ≡ true → is_revival step ≡ true

-- the event is what the step comes to in a world
pub record IsEvent (setup : Setup) (world : World) (e : Event) : Type 0 where
  pub outcome_is : e.outcome ≡ came_to setup world e.step e.refused
  pub handed_is : e.handed ≡ cond (is_done e.outcome) (handed_by world e.step) []
  pub answer_is : e.answer ≡ cond (is_done e.outcome) (answer_by world e.step) None
  pub refused_are : AreRefused world e.step e.outcome e.refused

abbrev pub after_event : Setup → World → Event → World
after_event setup world e = after_step setup world e.step e.refused

abbrev pub world_after : Setup → List Event → World
world_after setup events = fold (after_event setup) (fresh setup) events

-- each is what its step comes to behind those before
abbrev pub AreEvents : Setup → World → List Event → Type 0
AreEvents setup world [] = Unit {0}
AreEvents setup world (e ∷ events) = IsEvent setup world e × AreEvents setup (after_event setup world e) events

-- these events are a past of a world
abbrev pub IsPast : Setup → List Event → World → Type 0
IsPast setup events world = AreEvents setup (fresh setup) events × (world ≡ world_after setup events)

-- all that was handed out
abbrev pub handed_in : List Event → List Handed
handed_in events = flat_map (λ e. e.handed) events
