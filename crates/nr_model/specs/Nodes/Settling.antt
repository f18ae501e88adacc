-- Settling: rounds of steps, until one in which nothing was done (own).
use Rattle.std.specs.Prelude.{◌≡◌, ◌<◌, ◌≤◌, ℕ, zero, suc, ◌+◌, Bool, true, false, not, List, [], ◌∷◌, ◌++◌, length, map, flat_map, fold}
use Rattle.std.specs.List.{list_any, range_with_len}
use Rattle.nr_model.specs.Items.{Connection}
use Rattle.nr_model.specs.Sequential.{emitted_for}
use Rattle.nr_model.specs.Connections.{Setup, handed_to}
use Rattle.nr_model.specs.Asked.{own_jobs}
use Rattle.nr_model.specs.Nodes.{Slot, Empty, Posted, Lifted, Answered, Worker, Node, World, node_at, worker_at, tail_of, sequence_of}
use Rattle.nr_model.specs.Nodes.Steps.{Step, Post, Lift, Reserve, Fill, Fetch, Apply, Look, Answer, Collect, Outcome, outcome, is_client}
use Rattle.nr_model.specs.Nodes.Pasts.{Event, AreEvents, IsPast, after_event, handed_in, is_done}
use Rattle.nr_model.specs.Nodes.Explained.{jobs_executed, asked_jobs, IsWhole, waiting_for}

-- for each node and worker, in order
abbrev pub for_workers : Setup → (ℕ → ℕ → List Step) → List Step
for_workers setup steps = flat_map (λ n. flat_map (steps n) (range_with_len 0 setup.workers)) (range_with_len 0 setup.nodes)

-- the parts of a round: batches are posted and lifted; entries are reserved and filled; each node applies and fetches so many times in turn, and looks; batches
-- are answered, and answers and bytes collected
abbrev pub lifting : Setup → List Step
lifting setup = for_workers setup (λ n w. Post n w ∷ Lift n w ∷ [])

abbrev pub reserving : Setup → List Step
reserving setup = flat_map (λ n. Reserve n ∷ map (Fill n) (range_with_len 0 setup.nodes)) (range_with_len 0 setup.nodes)

abbrev pub in_turn : ℕ → ℕ → List Step
in_turn n zero = []
in_turn n (suc turns) = Apply n ∷ Fetch n ∷ in_turn n turns

-- node n is the first of these
abbrev pub applying : ℕ → List ℕ → List Step
applying n [] = []
applying n (turns ∷ more) = in_turn n turns ++ Look n ∷ applying (suc n) more

abbrev pub answering : Setup → List Step
answering setup = for_workers setup (λ n w. Answer n w ∷ Collect n w ∷ [])

abbrev pub round_of : Setup → List ℕ → List Step
round_of setup turns = lifting setup ++ (reserving setup ++ (applying 0 turns ++ answering setup))

abbrev pub is_idle : Outcome → Bool
is_idle outcome = not (is_done outcome)

-- a round: each node applies and fetches in turn until both are idle
pub record IsRound (setup : Setup) (world : World) (events : List Event) : Type 0 where
  pub are : AreEvents setup world events
  pub turns : List ℕ
  pub nodes : length turns ≡ setup.nodes
  pub steps : map (λ (e : Event). e.step) events ≡ round_of setup turns
  pub until : (n : ℕ) (front back : List Event) (apply fetch look : Event) → events ≡ front ++ apply ∷ fetch ∷ look ∷ back → look.step ≡ Look n
      → (is_idle apply.outcome ≡ true) × (is_idle fetch.outcome ≡ true)
  pub some : (n : ℕ) (front back : List Event) (look : Event) → events ≡ front ++ look ∷ back → look.step ≡ Look n
      → (before : List Event) × (apply : Event) × (fetch : Event) × (front ≡ before ++ apply ∷ fetch ∷ []) × (apply.step ≡ Apply n) × (fetch.step ≡ Fetch n)

-- something was done in it
abbrev pub does : List Event → Bool
does events = list_any (λ (e : Event). is_done e.outcome) events

abbrev pub after_events : Setup → World → List Event → World
after_events setup world events = fold (after_event setup) world events

-- rounds, until one in which nothing was done
abbrev pub AreRounds : Setup → World → List (List Event) → Type 0
AreRounds setup world [] = ⊥
AreRounds setup world (events ∷ []) = IsRound setup world events × (does events ≡ false)
AreRounds setup world (events ∷ next ∷ more) = IsRound setup world events × (does events ≡ true) × AreRounds setup (after_events setup world events) (next ∷ more)

-- the jobs of a node that were asked for and are neither reserved nor run: those that it has lifted, those of a batch that was posted, and those that wait at its workers
abbrev pub posted_count : Slot → ℕ
posted_count Empty = 0
posted_count (Posted jobs) = length jobs
posted_count (Lifted owed) = 0
posted_count (Answered executed) = 0

abbrev pub left_at_workers : List Worker → ℕ
left_at_workers [] = 0
left_at_workers (worker ∷ workers) = length worker.pending + posted_count worker.slot + left_at_workers workers

abbrev pub left_in : List Node → ℕ
left_in [] = 0
left_in (node ∷ nodes) = length node.waiting + left_at_workers node.workers + left_in nodes

-- Nothing is held any more, and every node has passed the whole log; a node that is up has applied it. Each job of a connection of a node that is up was executed,
-- unless the connection is from before its node came back, and a connection of one that takes what is emitted was handed all of it.
pub record IsSettled (setup : Setup) (events : List Event) (world : World) : Type 0 where
  pub slots : (n w : ℕ) → n < setup.nodes → w < setup.workers → (worker_at w (node_at n world)).slot ≡ Empty
  pub pending : (n w : ℕ) → n < setup.nodes → w < setup.workers → (worker_at w (node_at n world)).pending ≡ []
  pub waiting : (n : ℕ) → n < setup.nodes → (node_at n world).waiting ≡ []
  pub filled : (n : ℕ) → n < setup.nodes → list_any (λ (b : Bool). b) (node_at n world).unfilled ≡ false
  pub held : (n : ℕ) → n < setup.nodes → (node_at n world).fetched ≡ false
  pub passed : (n : ℕ) → n < setup.nodes → (node_at n world).passed ≡ tail_of world
  pub applied : (n : ℕ) → n < setup.nodes → (node_at n world).down ≡ false → (node_at n world).applied ≡ tail_of world
  pub bytes : (c : Connection) → waiting_for world c ≡ []
  pub executed : (c : Connection) → is_client world c ≡ true → (node_at c.node world).down ≡ false → (node_at c.node world).since ≤ c.serial
      → own_jobs c (jobs_executed world) ≡ asked_jobs world c
  pub handed : (c : Connection) → IsWhole c world → handed_to c (handed_in events) ≡ emitted_for c (sequence_of world)

-- Whatever has happened, rounds end in a settled world, and they are at most three more than the jobs that were left.
pub record SettlingLaw : Type 0 where
  pub settles : (setup : Setup) (before : List Event) (world : World) (rounds : List (List Event)) → 1 ≤ setup.nodes → 1 ≤ setup.workers → 1 ≤ setup.places
      → IsPast setup before world → AreRounds setup world rounds
      → IsSettled setup (before ++ flat_map (λ events. events) rounds) (after_events setup world (flat_map (λ events. events) rounds))
  pub few : (setup : Setup) (before : List Event) (world : World) (rounds : List (List Event)) → 1 ≤ setup.nodes → 1 ≤ setup.workers → 1 ≤ setup.places
      → IsPast setup before world → AreRounds setup world rounds → length rounds ≤ left_in world.nodes + 3
