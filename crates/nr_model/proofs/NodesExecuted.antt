-- Every job of a batch whose answer says executed was executed.
use Rattle.std.proofs.Common.{◌≡◌, ℕ, ◌-◌, ◌<◌, true, cond, List, [], ◌∷◌, ◌++◌, length, refl, ap, sym, ◌∙◌, subst, arith, Contains}
use Rattle.std.specs.Prelude.{Some, None}
use Rattle.std.proofs.lemmas.List.Elements.{Contains-append_left}
use Rattle.nr_model.specs.Items.{Item}
use Rattle.nr_model.specs.Connections.{Setup}
use Rattle.nr_model.specs.Nodes.{Slot, Empty, Posted, Lifted, Answered, Batch, World, fresh, node_at, worker_at, log_of}
use Rattle.nr_model.specs.Nodes.Steps.{Outcome, came_to}
use Rattle.nr_model.specs.Nodes.Pasts.{Answering, Event, answer_in, is_done, answer_by, AreEvents, world_after}
use Rattle.nr_model.specs.Nodes.Explained.{jobs_executed, IsBatchOf, AreExecuted}
use Rattle.nr_model.proofs.NodesSteps.{Moves, each_step, each_sized, are_last}
use Rattle.nr_model.proofs.NodesExecutedGrows.{grows, grown_jobs}
use Rattle.nr_model.proofs.NodesExecutedLists.{stands}
use Rattle.nr_model.proofs.NodesExecutedFits.{WorkerFits}
use Rattle.nr_model.proofs.NodesExecutedNodes.{standing_of}
use Rattle.nr_model.proofs.NodesExecutedWorlds.{AreFit, each_fit}

-- what an answer that says executed tells of its slot
record IsAnswerOf (n w : ℕ) (slot : Slot) (posted : ℕ) (a : Answering) : Type 0 where
  is : slot ≡ Answered true
  node : n ≡ a.node
  worker : w ≡ a.worker
  batch : posted - 1 ≡ a.batch

answer_of : (n w : ℕ) (slot : Slot) (posted : ℕ) (a : Answering) → answer_in n w (record { pending = []; batches = posted; slot = slot }) ≡ Some a
    → a.executed ≡ true → IsAnswerOf n w slot posted a
answer_of n w Empty posted a e whole = absurd (cc e)
answer_of n w (Posted jobs) posted a e whole = absurd (cc e)
answer_of n w (Lifted owed) posted a e whole = absurd (cc e)
answer_of n w (Answered executed) posted a e whole =
    let answer : Answering = record { node = n; worker = w; batch = posted - 1; executed = executed } in
    let is : answer ≡ a = cc in
    record {
      is = ap Answered (ap (λ (b : Answering). b.executed) is ∙ whole);
      node = ap (λ (b : Answering). b.node) is;
      worker = ap (λ (b : Answering). b.worker) is;
      batch = ap (λ (b : Answering). b.batch) is;
    }

-- a batch that an answer names, of which all jobs were executed
record IsFound (a : Answering) (world : World) : Type 0 where
  batch : Batch
  stands : Contains world.batches batch
  named : IsBatchOf a batch
  executed : (x : Item) → Contains batch.jobs x → Contains (jobs_executed world) x

-- the answer that a collect takes
collected_batch : (world : World) (n w : ℕ) → n < length world.nodes → AreFit world → (a : Answering)
    → answer_in n w (worker_at w (node_at n world)) ≡ Some a → a.executed ≡ true → IsFound a world
collected_batch world n w there fit a e whole =
    let node = node_at n world in
    let worker = worker_at w node in
    let s = standing_of n (log_of world.taken) (jobs_executed world) node in
    let answer = answer_of n w worker.slot worker.batches a e whole in
    let p = subst (λ (t : Slot). WorkerFits n w world.batches s t worker.batches) answer.is (fit.nodes n there w) in
    let l = p.last refl in
    let number = l.number in
    let batch = answer.batch in
    record {
      batch = l.batch;
      stands = l.stands;
      named = (l.own.node ∙ answer.node, l.own.worker ∙ answer.worker, omega arith);
      executed = l.fits refl;
    }

-- no other step takes one
answer_moves : (setup : Setup) → Moves setup (λ world step refused outcome after. AreFit world → (a : Answering)
    → cond (is_done outcome) (answer_by world step) None ≡ Some a → a.executed ≡ true → IsFound a world)
answer_moves setup = record {
  idles = λ world step refused reason fit a e whole. absurd (cc e);
  opens = λ world n w refused may fit a e whole. absurd (cc e);
  feeds = λ world c time bytes refused may fit a e whole. absurd (cc e);
  posts = λ world n w refused may fit a e whole. absurd (cc e);
  lifts = λ world n w refused may fit a e whole. absurd (cc e);
  reserves = λ world n refused may fit a e whole. absurd (cc e);
  fills = λ world n t refused may fit a e whole. absurd (cc e);
  fetches = λ world n refused may fit a e whole. absurd (cc e);
  applies = λ world n refused may fit a e whole. absurd (cc e);
  looks = λ world n refused may fit a e whole. absurd (cc e);
  answers = λ world n w refused may fit a e whole. absurd (cc e);
  collects = λ world n w refused may fit a e whole. collected_batch world n w may.worker.there fit a e whole;
  closes = λ world c time refused may fit a e whole. absurd (cc e);
  refuses = λ world n refused may fit a e whole. absurd (cc e);
  revives = λ world n f refused may fit a e whole. absurd (cc e);
}

-- the answer that an event took
answered_batch : (setup : Setup) (front : List Event) (e : Event) (back : List Event)
    → AreEvents setup (fresh setup) (front ++ e ∷ back) → (a : Answering) → e.answer ≡ Some a → a.executed ≡ true → IsFound a (world_after setup front)
answered_batch setup front e back are a took whole =
    let world = world_after setup front in
    let now = (are_last setup (fresh setup) front (e ∷ back) are).0 in
    let is : e.answer ≡ cond (is_done (came_to setup world e.step e.refused)) (answer_by world e.step) None =
    now.answer_is ∙ ap (λ (o : Outcome). cond (is_done o) (answer_by world e.step) None) now.outcome_is in
    each_step setup (λ world step refused outcome after. AreFit world → (a : Answering)
    → cond (is_done outcome) (answer_by world step) None ≡ Some a → a.executed ≡ true → IsFound a world) (answer_moves setup)
    world e.step e.refused (each_sized setup front) (each_fit setup front) a (sym is ∙ took) whole

-- the batches answered as executed, by every past
pub are_executed : (setup : Setup) (events : List Event) → AreEvents setup (fresh setup) events → AreExecuted events (world_after setup events)
are_executed setup events are x h =
    let s = stands events h.event h.event_in in
    let old = world_after setup s.front in
    let new = world_after setup events in
    let found = answered_batch setup s.front h.event s.back (subst (AreEvents setup (fresh setup)) s.is are) h.answer h.answer_in h.executed in
    let grown = grows setup events s.front (h.event ∷ s.back) s.is in
    let batches = grown.batches in
    let jobs = grown_jobs old new grown in
    let here : Contains new.batches found.batch =
    subst (λ (bs : List Batch). Contains bs found.batch) batches.1 (Contains-append_left old.batches batches.0 found.batch found.stands) in
    let same : found.batch ≡ h.batch =
    (each_fit setup events).one found.batch h.batch here h.batch_in (found.named.0 ∙ sym h.named.0) (found.named.1 ∙ sym h.named.1)
    (found.named.2 ∙ sym h.named.2) in
    let done = found.executed x (subst (λ (b : Batch). Contains b.jobs x) (sym same) h.job_in) in
    subst (λ (js : List Item). Contains js x) jobs.1 (Contains-append_left (jobs_executed old) jobs.0 x done)
