-- What contracts see of a worker at its node, and of all workers of a node.
use Rattle.std.specs.Prelude.{◌≡◌, ◌⊎◌, ℕ, zero, suc, List, [], ◌∷◌, refl}
use Rattle.std.specs.Coded.{Coded, code_by, coded×, coded_ℕ}
use Rattle.nr_entry.specs.declared.batch.Batch.{Batch}
use Rattle.nr_entry.specs.declared.batch.Answer.{Answer}
use Rattle.nr_entry.specs.declared.batch.Outcome.{Outcome}
use Rattle.nr_entry.specs.declared.job.Job.{Job}
use Rattle.nr_slots.specs.Names.{IsForLast}
use Rattle.nr_slots.specs.declared.view.CombinerPast.{CombinerPast}
use Rattle.nr_slots.specs.Seats.{WorkerView, new_worker, with_posted, with_collected, with_heard}
use Rattle.nr_slots.specs.Codes.{worker_code}
use Rattle.nr_combiner.specs.Counts.{next_generation}
use Rattle.nr_combiner.specs.Shared.{NodeView}

-- which node it is at, and how many workers that has; how many connections of it are open at most, and how many bytes wait for one at most; its seat at the
-- node's slots, the number of its next batch, and its generation: how often something was handed out for its connections, or one of them was closed
pub record NodeHandleState : Type 0 where
  pub node : ℕ
  pub workers : ℕ
  pub connections : ℕ
  pub limit : ℕ
  pub seat : WorkerView
  pub next : ℕ
  pub generation : ℕ

abbrev pub coded_worker : Coded NodeHandleState
coded_worker =
    code_by (ℕ × (ℕ × (ℕ × (ℕ × (WorkerView × (ℕ × ℕ))))))
    (coded× coded_ℕ (coded× coded_ℕ (coded× coded_ℕ (coded× coded_ℕ (coded× worker_code (coded× coded_ℕ coded_ℕ))))))
    (λ w. (w.node, (w.workers, (w.connections, (w.limit, (w.seat, (w.next, w.generation)))))))
    (λ p. record {
      node = p.0;
      workers = p.1.0;
      connections = p.1.1.0;
      limit = p.1.1.1.0;
      seat = p.1.1.1.1.0;
      next = p.1.1.1.1.1.0;
      generation = p.1.1.1.1.1.1;
    }) (λ _. refl)

-- batch number n is the first of these, and so on
abbrev pub CountFrom : ℕ → List Batch → Type 0
CountFrom n [] = Unit {0}
CountFrom n (batch ∷ batches) = (batch.number ≡ n) × CountFrom (suc n) batches

-- what its node shows
abbrev pub shared_of : NodeHandleState → NodeView
shared_of w = record { node = w.node; slots = record { id = w.seat.slots; workers = w.workers }; connections = w.connections; limit = w.limit }

-- one that has handed in nothing yet
abbrev pub fresh_worker : NodeView → ℕ → NodeHandleState
fresh_worker shared worker = record { node = shared.node; workers = shared.slots.workers; connections = shared.connections; limit = shared.limit; seat = new_worker shared.slots.id worker; next = 0; generation = 0 }

-- so many of a node, numbered from one on
abbrev pub fresh_workers : NodeView → ℕ → ℕ → List NodeHandleState
fresh_workers shared first zero = []
fresh_workers shared first (suc more) = fresh_worker shared first ∷ fresh_workers shared (suc first) more

-- a node's workers, so many, none of which has handed in anything yet
pub record IsNode (workers connections limit node : ℕ) (list : List NodeHandleState) : Type 0 where
  pub shared : NodeView
  pub named : shared.node ≡ node
  pub wide : shared.slots.workers ≡ workers
  pub limited : (shared.connections ≡ connections) × (shared.limit ≡ limit)
  pub all : list ≡ fresh_workers shared 0 workers

-- something was handed out for its connections
abbrev pub with_more : NodeHandleState → NodeHandleState
with_more w = record w { generation = next_generation w.generation }

-- it heard of its node's combiner, which had done this at its desk
abbrev pub told_of : CombinerPast → NodeHandleState → NodeHandleState
told_of desk w = record w { seat = with_heard desk w.seat }

-- a connection was closed, which was one of its own, or none of its own that was open
abbrev pub MayHaveClosed : NodeHandleState → NodeHandleState → Type 0
MayHaveClosed w v = (v ≡ with_more w) ⊎ (v ≡ w)

-- it handed in these jobs as its next batch
pub record HasPosted (jobs : List Job) (w v : NodeHandleState) : Type 0 where
  pub batch : Batch
  pub named : (batch.node ≡ w.node) × (batch.worker ≡ w.seat.worker) × (batch.number ≡ w.next)
  pub holds : batch.jobs.items ≡ jobs
  pub posted : v ≡ record w { seat = with_posted batch w.seat; next = suc w.next }

-- it took the answer to the batch that it posted last, which says this
pub record HasCollected (outcome : Outcome) (w v : NodeHandleState) : Type 0 where
  pub answer : Answer
  pub last : IsForLast answer w.seat.lane.posted w.seat.lane.collected
  pub says : answer.outcome ≡ outcome
  pub collected : v ≡ record w { seat = with_collected answer w.seat }
