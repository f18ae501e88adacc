-- What a worker's steps come to, by its node alone.
use Rattle.std.specs.Prelude.{◌≡◌, ◌<◌, ℕ, Bool, not, ◌&&◌, ◌||◌, ◌==◌, List, length, slice_index_or, Option, Some, None, IsTrue}
use Rattle.nr_model.specs.Connections as traffic
use Rattle.nr_model.specs.Nodes as nodes
use Rattle.nr_model.specs.Nodes.Steps as steps
use Rattle.nr_model.specs.declared.reason.Reason.TheVariants as reasons
use Rattle.nr_model.specs.Nodes.Steps.{idle_where, is_free, is_posted, is_lifted, is_answered, is_empty, owed_in, posted_jobs, collected, collected_node}
use Rattle.nr_model.specs.Nodes.Pasts.{Answering, Event, IsPast, answer_in}
use Rattle.nr_entry.specs.Entry.{are_of}
use Rattle.nr_replica.specs.Members.{AreNumbered}
use Rattle.nr_world.specs.declared.node.WorldNode.{WorldNode}
use Rattle.nr_world.specs.Served.{node_seen}
use Rattle.nr_world.specs.WorldState.{WorldState, Shows}
use Rattle.nr_world.specs.Whole.{IsWhole}

-- of a worker whose node is up
abbrev pub post_outcome : nodes.Worker → steps.Outcome
post_outcome worker = idle_where (not (is_free worker.slot)) reasons.Busy (idle_where (is_empty worker.pending) reasons.Nothing steps.Done)

abbrev pub lift_outcome : nodes.Worker → steps.Outcome
lift_outcome worker = idle_where (not (is_posted worker.slot)) reasons.Nothing steps.Done

-- of one whose node is down or not
abbrev pub answer_outcome : Bool → nodes.Worker → steps.Outcome
answer_outcome down worker =
    idle_where (not (is_lifted worker.slot || (down && is_posted worker.slot))) reasons.Nothing
    (idle_where (not down && not (owed_in worker.slot == 0)) reasons.NotYet steps.Done)

-- of a worker of a node
abbrev pub may_post : ℕ → nodes.Node → steps.Outcome
may_post w node = idle_where node.down reasons.Down (post_outcome (nodes.worker_at w node))

abbrev pub may_lift : ℕ → nodes.Node → steps.Outcome
may_lift w node = idle_where node.down reasons.Down (lift_outcome (nodes.worker_at w node))

abbrev pub may_answer : ℕ → nodes.Node → steps.Outcome
may_answer w node = answer_outcome node.down (nodes.worker_at w node)

abbrev pub may_collect : ℕ → nodes.Node → steps.Outcome
may_collect w node = idle_where (not (is_answered (nodes.worker_at w node).slot) && length (collected w node.clients) == 0) reasons.Nothing steps.Done

-- the answer that a slot holds
abbrev pub executed_in : nodes.Slot → Option Bool
executed_in nodes.Empty = None
executed_in (nodes.Posted jobs) = None
executed_in (nodes.Lifted owed) = None
executed_in (nodes.Answered executed) = Some executed

-- what a collect at a worker of node n came to, what it handed out, the answer that it took, and the node behind it
pub record IsCollected (n w : ℕ) (old new : nodes.Node) (outcome : steps.Outcome) (handed : List traffic.Handed) (answer : Option Answering) : Type 0 where
  pub comes_to : outcome ≡ may_collect w old
  pub node : new ≡ collected_node w old
  pub handed_out : handed ≡ collected w old.clients
  pub taken : answer ≡ answer_in n w (nodes.worker_at w old)

-- a worker of node n, which is whole, with the node's jobs and connections
pub record IsPlace (n w : ℕ) (node : WorldNode) : Type 0 where
  pub whole : IsWhole n node
  pub stands : w < length node.workers.items
  pub numbered : AreNumbered node.replica.node 0 node.replica.members
  pub own : IsTrue (are_of node.replica.node (posted_jobs (nodes.worker_at w (node_seen node)).slot))

pub record HasWorker (v : WorldState) (n w : ℕ) : Type 0 where
  pub there : n < length v.nodes
  pub place : (d : WorldNode) → IsPlace n w (slice_index_or v.nodes n d)

-- whatever past a world has, and whichever world it shows, a step comes to this
pub record ComesTo (v : WorldState) (step : steps.Step) (outcome : steps.Outcome) : Type 0 where
  pub is : (events : List Event) (world : nodes.World) → IsPast v.setup events world → Shows v world → steps.outcome v.setup world step ≡ outcome
