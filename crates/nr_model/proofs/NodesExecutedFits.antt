-- What a worker's slot says of the jobs of its last batch: how many of its jobs are owed, and where they are.
use Rattle.std.proofs.Common.{◌≡◌, ◌≢◌, ℕ, suc, ◌+◌, ◌-◌, ◌<◌, Bool, true, false, cond, ◌⊎◌, inl, inr, List, [], ◌∷◌, ◌++◌, length, refl, ap, sym, ◌∙◌, subst, arith, Contains}
use Rattle.std.specs.Prelude.{◌==◌, filter, slice_index_or}
use Rattle.std.proofs.lemmas.Bool.{eq-eqb, ne_eqb}
use Rattle.std.proofs.lemmas.List.{length-append}
use Rattle.std.proofs.lemmas.List.Elements.{Contains-append_left, Contains-append_right, Contains-push, Contains-push_cases, filter-append}
use Rattle.nr_model.specs.Items.{Item}
use Rattle.nr_model.specs.Entries.{Jobs}
use Rattle.nr_model.specs.Nodes.{Client, fresh_client, Slot, Empty, Posted, Lifted, Answered, Batch}
use Rattle.nr_model.specs.Nodes.Steps.{is_free, owed_in, owing_less}
use Rattle.nr_model.proofs.NodesExecutedLists.{count, first_in, later_in, some_in, kept_in}

-- what a node's workers see of it: whether it is down, its connections, the jobs that it has lifted and neither reserved an entry for nor run, those of
-- its entries that it hasn't applied, and all that were executed
pub record Standing : Type 0 where
  pub down : Bool
  pub clients : List Client
  pub waiting : Jobs
  pub behind : Jobs
  pub executed : Jobs

-- the worker of a job's connection
abbrev pub worker_of : List Client → Item → ℕ
worker_of clients job = (slice_index_or clients job.connection.serial (fresh_client 0 0 job.connection)).worker

-- a job of a connection of the node, and of this worker
pub record IsAt (clients : List Client) (w : ℕ) (job : Item) : Type 0 where
  pub there : job.connection.serial < length clients
  pub worker : worker_of clients job ≡ w

-- a job of a connection that the worker serves
abbrev pub serves : ℕ → List Client → Item → Bool
serves w clients job = worker_of clients job == w

-- how many of them are neither applied nor run
abbrev pub owing : ℕ → Standing → ℕ
owing w s = count (serves w s.clients) s.waiting + count (serves w s.clients) s.behind

-- where the jobs of the batch in a slot are
abbrev pub SlotFits : ℕ → Standing → Jobs → Slot → Type 0
SlotFits w s jobs Empty = Unit {0}
SlotFits w s jobs (Posted posted) = jobs ≡ posted
SlotFits w s jobs (Lifted owed) = s.down ≡ false → (x : Item) → Contains jobs x → IsAt s.clients w x × (Contains s.waiting x ⊎ Contains s.executed x)
SlotFits w s jobs (Answered whole) = whole ≡ true → (x : Item) → Contains jobs x → Contains s.executed x

-- a batch of a worker of a node
pub record IsOf (r w : ℕ) (b : Batch) : Type 0 where
  pub node : b.node ≡ r
  pub worker : b.worker ≡ w

-- the last batch of a worker that posted so many
pub record IsLast (r w : ℕ) (batches : List Batch) (s : Standing) (slot : Slot) (posted : ℕ) : Type 0 where
  pub batch : Batch
  pub stands : Contains batches batch
  pub own : IsOf r w batch
  pub number : suc batch.number ≡ posted
  pub fits : SlotFits w s batch.jobs slot

-- a worker that posted so many batches
pub record WorkerFits (r w : ℕ) (batches : List Batch) (s : Standing) (slot : Slot) (posted : ℕ) : Type 0 where
  pub owed : s.down ≡ false → owed_in slot ≡ owing w s
  pub below : (b : Batch) → Contains batches b → IsOf r w b → b.number < posted
  pub last : is_free slot ≡ false → IsLast r w batches s slot posted

-- from one standing to a later one
pub record Follows (w : ℕ) (s t : Standing) : Type 0 where
  pub up : t.down ≡ false → s.down ≡ false
  pub at : (x : Item) → IsAt s.clients w x → IsAt t.clients w x
  pub executed : (x : Item) → Contains s.executed x → Contains t.executed x
  pub waiting : t.down ≡ false → (x : Item) → Contains s.waiting x → Contains t.waiting x ⊎ Contains t.executed x

-- the jobs of a slot's batch
slot_on : (w : ℕ) (s t : Standing) → Follows w s t → (jobs : Jobs) (slot : Slot) → SlotFits w s jobs slot → SlotFits w t jobs slot
slot_on w s t f jobs Empty p = tt
slot_on w s t f jobs (Posted posted) p = p
slot_on w s t f jobs (Lifted owed) p = λ up x h.
    let q = p (f.up up) x h in
    (f.at x q.0, elim (q.1) [ inl waits ↦ f.waiting up x waits | inr done ↦ inr (f.executed x done) ])
slot_on w s t f jobs (Answered whole) p = λ e x h. f.executed x (p e x h)

slot_less : (w k : ℕ) (s : Standing) (jobs : Jobs) (slot : Slot) → SlotFits w s jobs slot → SlotFits w s jobs (owing_less k slot)
slot_less w k s jobs Empty p = p
slot_less w k s jobs (Posted posted) p = p
slot_less w k s jobs (Lifted owed) p = p
slot_less w k s jobs (Answered whole) p = p

-- a slot that owes less
owed_less : (k : ℕ) (slot : Slot) → owed_in (owing_less k slot) ≡ owed_in slot - k
owed_less k Empty = omega arith
owed_less k (Posted posted) = omega arith
owed_less k (Lifted owed) = refl
owed_less k (Answered whole) = omega arith

free_less : (k : ℕ) (slot : Slot) → is_free (owing_less k slot) ≡ is_free slot
free_less k Empty = refl
free_less k (Posted posted) = refl
free_less k (Lifted owed) = refl
free_less k (Answered whole) = refl

-- where as many are owed
pub fits_on : (r w : ℕ) (batches : List Batch) (s t : Standing) (slot : Slot) (posted : ℕ) → Follows w s t → (t.down ≡ false → owing w t ≡ owing w s)
    → WorkerFits r w batches s slot posted → WorkerFits r w batches t slot posted
fits_on r w batches s t slot posted f same p = record {
  owed = λ up. p.owed (f.up up) ∙ sym (same up);
  below = p.below;
  last = λ some.
      let l = p.last some in
      record { batch = l.batch; stands = l.stands; own = l.own; number = l.number; fits = slot_on w s t f l.batch.jobs slot l.fits };
}

-- where so many were applied or run
pub fits_less : (r w : ℕ) (batches : List Batch) (s t : Standing) (slot : Slot) (posted k : ℕ) → Follows w s t
    → (t.down ≡ false → owing w s ≡ k + owing w t) → WorkerFits r w batches s slot posted → WorkerFits r w batches t (owing_less k slot) posted
fits_less r w batches s t slot posted k f fewer p = record {
  owed = λ up.
      let all = fewer up in
      let before = p.owed (f.up up) in
      let less = owed_less k slot in
      omega arith;
  below = p.below;
  last = λ some.
      let l = p.last (sym (free_less k slot) ∙ some) in
      record {
        batch = l.batch;
        stands = l.stands;
        own = l.own;
        number = l.number;
        fits = slot_less w k t l.batch.jobs slot (slot_on w s t f l.batch.jobs slot l.fits);
      };
}

-- another worker's batch was posted
pub fits_beside : (r w : ℕ) (batches : List Batch) (b : Batch) (s : Standing) (slot : Slot) (posted : ℕ) → (IsOf r w b → ⊥)
    → WorkerFits r w batches s slot posted → WorkerFits r w (batches ++ b ∷ []) s slot posted
fits_beside r w batches b s slot posted other p = record {
  owed = p.owed;
  below = λ d h own. elim (Contains-push_cases batches b d h) [
    | inl old ↦ p.below d old own
    | inr new ↦ absurd (other (subst (IsOf r w) (sym new) own))
  ];
  last = λ some.
      let l = p.last some in
      record { batch = l.batch; stands = Contains-append_left batches (b ∷ []) l.batch l.stands; own = l.own; number = l.number; fits = l.fits };
}

-- an empty slot, and a batch that is posted in it
pub fits_post : (r w : ℕ) (batches : List Batch) (s : Standing) (jobs : Jobs) (posted : ℕ) → WorkerFits r w batches s Empty posted
    → WorkerFits r w (batches ++ record { node = r; worker = w; number = posted; jobs = jobs } ∷ []) s (Posted jobs) (posted + 1)
fits_post r w batches s jobs posted p =
    let new : Batch = record { node = r; worker = w; number = posted; jobs = jobs } in
    record {
      owed = p.owed;
      below = λ b h own. elim (Contains-push_cases batches new b h) [
        | inl old ↦ let before = p.below b old own in omega arith
        | inr e ↦ let number : posted ≡ b.number = ap (λ (d : Batch). d.number) e in omega arith
      ];
      last = λ some. record {
        batch = new;
        stands = Contains-push batches new;
        own = record { node = refl; worker = refl };
        number = omega arith;
        fits = refl;
      };
    }

-- all pass a test, or none
count_all : (test : Item → Bool) (jobs : Jobs) → ((x : Item) → Contains jobs x → test x ≡ true) → count test jobs ≡ length jobs
count_all test [] all = refl
count_all test (x ∷ jobs) all =
    ap (λ (b : Bool). length (cond b (x ∷ filter test jobs) (filter test jobs))) (all x (first_in x jobs))
    ∙ ap suc (count_all test jobs (λ y h. all y (later_in y x jobs h)))

count_none : (test : Item → Bool) (jobs : Jobs) → ((x : Item) → Contains jobs x → test x ≡ false) → count test jobs ≡ 0
count_none test [] all = refl
count_none test (x ∷ jobs) all =
    ap (λ (b : Bool). length (cond b (x ∷ filter test jobs) (filter test jobs))) (all x (first_in x jobs))
    ∙ count_none test jobs (λ y h. all y (later_in y x jobs h))

-- as many pass a test that says the same
pub count_same : (a b : Item → Bool) (jobs : Jobs) → ((x : Item) → Contains jobs x → a x ≡ b x) → count a jobs ≡ count b jobs
count_same a b [] same = refl
count_same a b (x ∷ jobs) same =
    let more = count_same a b jobs (λ y h. same y (later_in y x jobs h)) in
    ap (λ (m : Bool). length (cond m (x ∷ filter a jobs) (filter a jobs))) (same x (first_in x jobs))
    ∙ elim (b x) as (λ m. length (cond m (x ∷ filter a jobs) (filter a jobs)) ≡ length (cond m (x ∷ filter b jobs) (filter b jobs))) [
      | true ↦ ap suc more
      | false ↦ more
    ]

pub count-append : (test : Item → Bool) (xs ys : Jobs) → count test (xs ++ ys) ≡ count test xs + count test ys
count-append test xs ys = ap length (filter-append test xs ys) ∙ length-append (filter test xs) (filter test ys)

-- the batch is lifted
abbrev pub with_lifted : Jobs → Standing → Standing
with_lifted jobs s = record s { waiting = s.waiting ++ jobs }

-- which leaves where the others are
lifted_follows : (w : ℕ) (s : Standing) (jobs : Jobs) → Follows w s (with_lifted jobs s)
lifted_follows w s jobs = record {
  up = λ up. up;
  at = λ x a. a;
  executed = λ x h. h;
  waiting = λ up x h. inl (Contains-append_left s.waiting jobs x h);
}

pub fits_lift : (r w : ℕ) (batches : List Batch) (s : Standing) (jobs : Jobs) (posted : ℕ) → ((x : Item) → Contains jobs x → IsAt s.clients w x)
    → WorkerFits r w batches s (Posted jobs) posted → WorkerFits r w batches (with_lifted jobs s) (Lifted (length jobs)) posted
fits_lift r w batches s jobs posted at p = record {
  owed = λ up.
      let test = serves w s.clients in
      let before : 0 ≡ owing w s = p.owed up in
      let all = count_all test jobs (λ x h. eq-eqb (worker_of s.clients x) w (at x h).worker) in
      let more = count-append test s.waiting jobs in
      omega arith;
  below = p.below;
  last = λ some.
      let l = p.last refl in
      record {
        batch = l.batch;
        stands = l.stands;
        own = l.own;
        number = l.number;
        fits = λ up x h.
            let here = subst (λ (js : Jobs). Contains js x) l.fits h in
            (at x here, inl (Contains-append_right s.waiting jobs x here));
      };
}

pub fits_lift_beside : (r w v : ℕ) (batches : List Batch) (s : Standing) (jobs : Jobs) (slot : Slot) (posted : ℕ) → v ≢ w
    → ((x : Item) → Contains jobs x → IsAt s.clients w x) → WorkerFits r v batches s slot posted → WorkerFits r v batches (with_lifted jobs s) slot posted
fits_lift_beside r w v batches s jobs slot posted other at p =
    fits_on r v batches s (with_lifted jobs s) slot posted (lifted_follows v s jobs)
    (λ up.
    let test = serves v s.clients in
    let none = count_none test jobs (λ x h. ne_eqb (worker_of s.clients x) v (λ e. other (sym e ∙ (at x h).worker))) in
    let more = count-append test s.waiting jobs in
    omega arith) p

-- nothing is owed, so all of the batch was executed
pub all_executed : (r w : ℕ) (batches : List Batch) (s : Standing) (owed posted : ℕ) → s.down ≡ false → owed ≡ 0
    → WorkerFits r w batches s (Lifted owed) posted → (l : IsLast r w batches s (Lifted owed) posted) → (x : Item) → Contains l.batch.jobs x → Contains s.executed x
all_executed r w batches s owed posted up none p l x h =
    let q = l.fits up x h in
    elim (q.1) [
      | inr done ↦ done
      | inl waits ↦
          let test = serves w s.clients in
          let all : owed ≡ owing w s = p.owed up in
          let here = kept_in test s.waiting x waits (eq-eqb (worker_of s.clients x) w q.0.worker) in
          absurd (some_in (filter test s.waiting) x (omega arith) here)
    ]

-- the answer of a node that is up, and of one that is down
pub fits_answer : (r w : ℕ) (batches : List Batch) (s : Standing) (owed posted : ℕ) → s.down ≡ false → owed ≡ 0
    → WorkerFits r w batches s (Lifted owed) posted → WorkerFits r w batches s (Answered true) posted
fits_answer r w batches s owed posted up none p = record {
  owed = λ e. sym none ∙ p.owed e;
  below = p.below;
  last = λ some.
      let l = p.last refl in
      record {
        batch = l.batch;
        stands = l.stands;
        own = l.own;
        number = l.number;
        fits = λ e. all_executed r w batches s owed posted up none p l;
      };
}

pub fits_refusal : (r w : ℕ) (batches : List Batch) (s : Standing) (slot : Slot) (posted : ℕ) → s.down ≡ true → is_free slot ≡ false
    → WorkerFits r w batches s slot posted → WorkerFits r w batches s (Answered false) posted
fits_refusal r w batches s slot posted down some p = record {
  owed = λ up. absurd (cc (up, down));
  below = p.below;
  last = λ e.
      let l = p.last some in
      record { batch = l.batch; stands = l.stands; own = l.own; number = l.number; fits = λ f. absurd (cc f) };
}

-- the answer is taken
pub fits_taken : (r w : ℕ) (batches : List Batch) (s : Standing) (whole : Bool) (posted : ℕ) → WorkerFits r w batches s (Answered whole) posted
    → WorkerFits r w batches s Empty posted
fits_taken r w batches s whole posted p = record { owed = p.owed; below = p.below; last = λ e. absurd (cc e) }
