-- Reads that wait alone, the replies to which were prepared, and the batch of a worker that was lifted alone.
use Rattle.std.proofs.Common.{◌≡◌, ℕ, ◌<◌, inl, inr, Bool, true, List, [], ◌∷◌, ◌++◌, Option, Some, None, length, refl, ap, sym, ◌∙◌, subst, get_or, get_or-set_same}
use Rattle.std.specs.Prelude.{Result, Ok, Err, IfSome}
use Rattle.nr_blob.specs.declared.memory.Memory.{Memory}
use Rattle.nr_model.specs.Bytes.{IsBeginningOf}
use Rattle.nr_model.specs.Entries.{Jobs, read_jobs}
use Rattle.nr_model.specs.Servers.{Server}
use Rattle.nr_entry.specs.Jobs.{items_of}
use Rattle.nr_entry.specs.declared.batch.Batch.{Batch}
use Rattle.nr_entry.specs.declared.job.Job.{Job}
use Rattle.nr_replica.specs.Lent.{AreRepliesTo, RepliesState}
use Rattle.nr_replica.specs.Members.{AreReads}
use Rattle.nr_slots.specs.declared.view.CombinerPast.{CombinerPast}
use Rattle.nr_slots.specs.declared.view.WorkerPast.{WorkerPast}
use Rattle.nr_slots.specs.Names.{IsTold}
use Rattle.nr_slots.specs.Rule.{no_desk}
use Rattle.nr_slots.specs.Seats.{CombinerView, NoteView, desk_of, note_of}
use Rattle.nr_node.specs.Lending.{AreReadyFor, PreparedState}
use Rattle.nr_node.specs.Level.{NodeState}
use Rattle.nr_node.specs.Reserved.{left_jobs}
use Rattle.nr_node.specs.Steps.{GoesOnWaiting}
use Rattle.nr_node.specs.declared.answers.Round.{Round}
use Rattle.nr_node.specs.declared.answers.Round.TheVariants as rounds
use Rattle.nr_combiner.specs.Aside.{HasTakenIn, HoldsAlone, IsPreparedLast}
use Rattle.nr_combiner.specs.Served.{CombinerState}
use Rattle.nr_combiner.specs.Steps.{ComesTo, TakesIn}
use Rattle.nr_combiner.specs.Workers.{CountFrom}
use Rattle.nr_combiner.proofs.Counted.{counted_next, is_last_of}
use Rattle.nr_combiner.proofs.Led.{reads_joined, reads_lead, reads_stay}

-- what is replied to is read
replied : (s : Server) (jobs : Jobs) (replies : List RepliesState) → AreRepliesTo s jobs replies → AreReads jobs
replied s jobs [] none = subst AreReads (sym none) tt
replied s jobs (r ∷ replies) (own, rest, parts, run, more) = subst AreReads (sym parts) (reads_joined own rest run.reads (replied s rest replies more))

ready_reads : (jobs : Jobs) (p : PreparedState) → AreReadyFor jobs p → AreReads jobs
ready_reads jobs p ready = replied _ jobs p.replies ready.replies

-- no update leads among them, so they stay as an entry is taken
left_all : (next waiting : List Job) → AreReads (items_of waiting) → left_jobs next waiting ≡ items_of waiting
left_all [] waiting reads = reads_stay (items_of waiting) reads
left_all (job ∷ next) waiting reads = refl

waits_on : (n m : NodeState) → GoesOnWaiting n m → AreReads (items_of n.replica.waiting) → items_of m.replica.waiting ≡ items_of n.replica.waiting
waits_on n m h reads = h.left.waiting ∙ left_all n.next n.replica.waiting reads

tried_waits : (places : ℕ) (r : Result Round Memory) (n m : NodeState) → ComesTo places r n m → AreReads (items_of n.replica.waiting)
    → items_of m.replica.waiting ≡ items_of n.replica.waiting
tried_waits places (Ok rounds.Done) n m (inl (at, entry, h)) reads = h.left.waiting ∙ left_all n.next n.replica.waiting reads
tried_waits places (Ok rounds.Done) n m (inr h) reads = h.left.waiting ∙ left_all n.next n.replica.waiting reads
tried_waits places (Ok rounds.Full) n m h reads = waits_on n m h.0 reads
tried_waits places (Ok rounds.Again) n m h reads = waits_on n m h.0 reads
tried_waits places (Ok rounds.NotYet) n m h reads = absurd h
tried_waits places (Ok rounds.Down) n m h reads = ap (λ (x : NodeState). items_of x.replica.waiting) h
tried_waits places (Err memory) n m (inl same) reads = ap (λ (x : NodeState). items_of x.replica.waiting) same
tried_waits places (Err memory) n m (inr h) reads = waits_on n m h reads

-- they are all that a look runs, behind a try to reserve
pub still_ready : (places : ℕ) (r : Result Round Memory) (n m : NodeState) (prepared : Option PreparedState) → ComesTo places r n m
    → IfSome prepared (AreReadyFor (items_of n.replica.waiting)) → IfSome prepared (AreReadyFor (read_jobs (items_of m.replica.waiting)))
still_ready places r n m None tried ready = tt
still_ready places r n m (Some p) tried ready =
    let reads = ready_reads (items_of n.replica.waiting) p ready in
    let same = tried_waits places r n m tried reads in
    subst (λ (jobs : Jobs). AreReadyFor jobs p) (sym (ap read_jobs same ∙ reads_lead (items_of n.replica.waiting) reads)) ready

-- ---- the batch that was lifted
-- it is at the end of what the combiner has lifted
lifted_at : (worker : ℕ) (batch : Batch) (c d : CombinerState) → worker < length c.seat.desks → TakesIn worker batch c d
    → (desk_of d.seat worker).lifted ≡ (desk_of c.seat worker).lifted ++ batch ∷ []
lifted_at worker batch c d near took =
    let old = desk_of c.seat worker in
    let mid : CombinerPast = record { lifted = old.lifted ++ batch ∷ []; answered = old.answered; grip = old.grip } in
    ap (λ (v : CombinerView). (desk_of v worker).lifted) took.seat ∙ ap (λ (desk : CombinerPast). desk.lifted) (get_or-set_same c.seat.desks worker mid no_desk near)

-- so it is the one that the worker posted last, by its number, and the replies to it are prepared
alone_ready : (worker number : ℕ) (c d : CombinerState) (p : PreparedState) (lane : WorkerPast) → HoldsAlone worker number c d → IsTold (desk_of d.seat worker) lane
    → IsPreparedLast number p lane.posted → AreReadyFor (items_of d.node.replica.waiting) p
alone_ready worker number c d p lane h told last =
    let batch = h.taken.batch in
    let front : IsBeginningOf ((desk_of c.seat worker).lifted ++ batch ∷ []) (last.before ++ last.batch ∷ []) =
    subst (λ (bs : List Batch). IsBeginningOf ((desk_of c.seat worker).lifted ++ batch ∷ []) bs) last.posted_is
    (subst (λ (bs : List Batch). IsBeginningOf bs lane.posted) (lifted_at worker batch c d h.near h.taken.took) told.0) in
    let same : batch ≡ last.batch = is_last_of 0 (desk_of c.seat worker).lifted batch last.before last.batch front
    (subst (CountFrom 0) last.posted_is last.counted) (h.taken.number_is ∙ sym last.number_is) in
    subst (λ (jobs : List Job). AreReadyFor (items_of jobs) p) (ap (λ (b : Batch). b.jobs.items) (sym same) ∙ sym h.alone) last.ready

-- where it is that one, of which the worker heard by a note, the replies are kept
pub kept_ready : (worker seat number : ℕ) (c d : CombinerState) (note : NoteView) (lifted : Option ℕ) (kept : Option PreparedState) (p : PreparedState) (lane : WorkerPast)
    → worker ≡ seat → note ≡ note_of d.seat → IfSome lifted (λ n. HoldsAlone worker n c d) → IsTold (get_or note.desks seat no_desk) lane → IsPreparedLast number p lane.posted
    → IfSome kept (λ k. (k ≡ p) × (lifted ≡ Some number)) → IfSome kept (AreReadyFor (items_of d.node.replica.waiting))
kept_ready worker seat number c d note lifted None p lane is noted alone told last keeps = tt
kept_ready worker seat number c d note lifted (Some k) p lane is noted alone told last keeps =
    let here : IsTold (desk_of d.seat worker) lane =
    subst (λ (x : ℕ). IsTold (desk_of d.seat x) lane) (sym is) (subst (λ (v : NoteView). IsTold (get_or v.desks seat no_desk) lane) noted told) in
    let h : HoldsAlone worker number c d = subst (λ (o : Option ℕ). IfSome o (λ n. HoldsAlone worker n c d)) keeps.1 alone in
    subst (AreReadyFor (items_of d.node.replica.waiting)) (sym keeps.0) (alone_ready worker number c d p lane h here last)

-- what was lifted where nothing waited waits alone
pub holds_alone : (worker : ℕ) (was_idle : Bool) (idle taken : Option ℕ) (c d : CombinerState) → worker < length c.seat.desks → (was_idle ≡ true → c.node.replica.waiting ≡ [])
    → IfSome taken (λ n. HasTakenIn worker n c d) → IfSome idle (λ n. (was_idle ≡ true) × (taken ≡ Some n)) → IfSome idle (λ n. HoldsAlone worker n c d)
holds_alone worker was_idle None taken c d near none took idle = tt
holds_alone worker was_idle (Some n) taken c d near none took idle =
    let t : HasTakenIn worker n c d = subst (λ (o : Option ℕ). IfSome o (λ n. HasTakenIn worker n c d)) idle.1 took in
    record {
      near = near;
      taken = t;
      alone = ap (λ (x : NodeState). x.replica.waiting) t.took.node ∙ ap (λ (jobs : List Job). jobs ++ t.batch.jobs.items) (none idle.0);
    }

-- what was posted just now is the last
pub prepared_last : (old new : List Batch) (batch : Batch) (p : PreparedState) → new ≡ old ++ batch ∷ [] → CountFrom 0 old → batch.number ≡ length old
    → AreReadyFor (items_of batch.jobs.items) p → IsPreparedLast batch.number p new
prepared_last old new batch p is counted number ready = record {
  before = old;
  batch = batch;
  posted_is = is;
  counted = (counted_next old new batch batch.number is counted number refl).0;
  number_is = refl;
  ready = ready;
}
