-- The jobs of a node's connections stay what their batches held, wherever they are.
use Rattle.std.proofs.Common.{◌≡◌, ℕ, zero, suc, ◌+◌, ◌<◌, ◌≤◌, max, fold, inl, inr, ◌⊎◌, Bool, true, IsTrue, cond, List, [], ◌∷◌, ◌++◌, map, length, drop, Contains, refl, ap, sym, ◌∙◌, subst, arith, append_assoc, get_or, set, get_or-set_same, get_or-set_other}
use Rattle.std.specs.Prelude.{◌≢◌, ◌==◌, Result, Ok, Err}
use Rattle.std.specs.List.{AllByRecursion, slice_get}
use Rattle.std.proofs.lemmas.Bool.{cases_Bool, and_parts, eqb-true}
use Rattle.std.proofs.lemmas.Bool.Decides.{eqb_tells}
use Rattle.std.proofs.lemmas.List.{map-append, length-append, append-nil}
use Rattle.nr_blob.specs.declared.memory.Memory.{Memory}
use Rattle.nr_model.specs.Items.{Item, Sequence, is_update}
use Rattle.nr_model.specs.Entries.{Jobs, entry_moment}
use Rattle.nr_model.proofs.JobLists.{All-append}
use Rattle.nr_model.proofs.NodesExecutedLists.{in_middle}
use Rattle.nr_model.proofs.NodesOwnLists.{All-weaker, All-entry, All-left_by_entry, All-reads, All-left_by_reads}
use Rattle.nr_entry.specs.Jobs.{item_of, items_of}
use Rattle.nr_entry.specs.Entry.{are_of, are_updates}
use Rattle.nr_entry.specs.Shares.{shares_of}
use Rattle.nr_entry.specs.declared.batch.Answer.{Answer}
use Rattle.nr_entry.specs.declared.batch.Batch.{Batch}
use Rattle.nr_entry.specs.declared.entry.Entry.{Entry}
use Rattle.nr_entry.specs.declared.job.Job.{Job}
use Rattle.nr_log_end.specs.declared.standing.Standing.{Standing}
use Rattle.nr_log_end.specs.declared.standing.LogEvent.{LogEvent}
use Rattle.nr_log_end.specs.declared.standing.LogEvent.TheVariants.{Applied, Ran}
use Rattle.nr_log_end.specs.Standings.{record_of, applied_of, own_entries, reservation}
use Rattle.nr_replica.specs.Replicas.{ReplicaState}
use Rattle.nr_slots.specs.declared.view.CombinerPast.{CombinerPast}
use Rattle.nr_slots.specs.Rule.{no_desk}
use Rattle.nr_slots.specs.Seats.{CombinerView, desk_of, with_lifted, with_answered}
use Rattle.nr_node.specs.Level.{NodeState, unpassed, jobs_reserved}
use Rattle.nr_node.specs.Advanced.{HasPassed, jobs_of_own}
use Rattle.nr_node.specs.Reserved.{due_jobs, left_jobs}
use Rattle.nr_node.specs.Steps.{taken_node, HasReserved, HasNoneDue, GoesOnWaiting, GoesOnBy}
use Rattle.nr_node.specs.declared.answers.Round.{Round}
use Rattle.nr_node.specs.declared.answers.Round.TheVariants as rounds
use Rattle.nr_node.proofs.Lists.{record-append}
use Rattle.nr_node.proofs.Owed.{all_front, all_back}
use Rattle.nr_combiner.specs.Served.{IsOfWorker, IsNoRefusal, HandsNoneBack, IsLifted, IsOwnOfBatch, AllJobs, HasNoJobs}
use Rattle.nr_combiner.specs.Steps.{ComesTo, HasLooked}

-- ---- lists
reserved-append : (rs more : List (ℕ × Entry)) → jobs_reserved (rs ++ more) ≡ jobs_reserved rs ++ jobs_reserved more
reserved-append [] more = refl
reserved-append (r ∷ rs) more =
    ap (λ (js : Jobs). items_of r.1.jobs.items ++ js) (reserved-append rs more) ∙ sym (append_assoc (items_of r.1.jobs.items) (jobs_reserved rs) (jobs_reserved more))

-- whether a look was done
pub is_done : (r : Result Round Memory) → (r ≡ Ok rounds.Done) ⊎ (r ≢ Ok rounds.Done)
is_done (Ok rounds.Done) = inl refl
is_done (Ok rounds.Full) = inr (λ e. absurd (cc e))
is_done (Ok rounds.Again) = inr (λ e. absurd (cc e))
is_done (Ok rounds.NotYet) = inr (λ e. absurd (cc e))
is_done (Ok rounds.Down) = inr (λ e. absurd (cc e))
is_done (Err memory) = inr (λ e. absurd (cc e))

-- an entry's moment is none before those of its jobs
fold_grows : (jobs : Jobs) (from : ℕ) → from ≤ fold (λ m (job : Item). max m job.moment) from jobs
fold_grows [] from = omega arith
fold_grows (job ∷ jobs) from = let more = fold_grows jobs (max from job.moment) in omega (arith, more)

fold_above : (jobs : Jobs) (from upto : ℕ) → fold (λ m (job : Item). max m job.moment) from jobs ≤ upto → AllByRecursion (λ (job : Item). job.moment ≤ upto) jobs
fold_above [] from upto within = tt
fold_above (job ∷ jobs) from upto within =
    let more = fold_grows jobs (max from job.moment) in
    (omega (arith, more, within), fold_above jobs (max from job.moment) upto within)

entry_above : (jobs : Jobs) → AllByRecursion (λ (job : Item). job.moment ≤ entry_moment jobs) jobs
entry_above jobs = fold_above jobs 0 (entry_moment jobs) (omega arith)

module _ (Q : Item → Type 0) where
  -- ---- what holds of all jobs of a node goes on to do so
  -- nothing changed where they are
  pub same_jobs : (n m : NodeState) → m.seat.standing ≡ n.seat.standing → m.next ≡ n.next → m.replica.waiting ≡ n.replica.waiting → AllJobs Q n → AllJobs Q m
  same_jobs n m standing next waiting a = record {
    done = subst (λ (s : Standing). AllByRecursion Q (record_of s.history)) (sym standing) a.done;
    reserved = subst (λ (s : Standing). AllByRecursion Q (jobs_reserved (unpassed s))) (sym standing) a.reserved;
    due = subst (λ (js : List Job). AllByRecursion Q (items_of js)) (sym next) a.due;
    waits = subst (λ (js : List Job). AllByRecursion Q (items_of js)) (sym waiting) a.waits;
  }

  due_all : (next waiting : List Job) → AllByRecursion Q (items_of next) → AllByRecursion Q (items_of waiting) → AllByRecursion Q (due_jobs next waiting)
  due_all [] waiting due waits = All-entry Q (items_of waiting) waits
  due_all (job ∷ next) waiting due waits = due

  left_all : (next waiting : List Job) → AllByRecursion Q (items_of waiting) → AllByRecursion Q (left_jobs next waiting)
  left_all [] waiting waits = All-left_by_entry Q (items_of waiting) waits
  left_all (job ∷ next) waiting waits = waits

  drop_all : (k : ℕ) (rs : List (ℕ × Entry)) → AllByRecursion Q (jobs_reserved rs) → AllByRecursion Q (jobs_reserved (drop k rs))
  drop_all zero [] a = a
  drop_all zero (r ∷ rs) a = a
  drop_all (suc k) [] a = a
  drop_all (suc k) (r ∷ rs) a = drop_all k rs (all_back Q (items_of r.1.jobs.items) (jobs_reserved rs) a)

  drop_more : (k : ℕ) (rs more : List (ℕ × Entry)) → AllByRecursion Q (jobs_reserved (drop k rs)) → AllByRecursion Q (jobs_reserved more)
      → AllByRecursion Q (jobs_reserved (drop k (rs ++ more)))
  drop_more zero [] more a b = b
  drop_more zero (r ∷ rs) more a b =
      subst (AllByRecursion Q) (sym (reserved-append (r ∷ rs) more)) (All-append Q (jobs_reserved (r ∷ rs)) (jobs_reserved more) a b)
  drop_more (suc k) [] more a b = drop_all (suc k) more b
  drop_more (suc k) (r ∷ rs) more a b = drop_more k rs more a b

  shared_all : (at : ℕ) (e : Entry) (nodes : ℕ) → AllByRecursion Q (items_of e.jobs.items) → AllByRecursion Q (jobs_reserved (reservation at (shares_of e nodes)))
  shared_all at e zero a = tt
  shared_all at e (suc nodes) a = All-append Q (items_of e.jobs.items) [] a tt

  pub none_jobs : (n : NodeState) → HasNoJobs n → AllJobs Q n
  none_jobs n none =
      let s = n.seat.standing in
      let passed = length (own_entries s.node (applied_of s.history)) in
      record {
        done = subst (λ (h : List LogEvent). AllByRecursion Q (record_of h)) (sym none.0) tt;
        reserved = subst (λ (rs : List (ℕ × Entry)). AllByRecursion Q (jobs_reserved (drop passed rs))) (sym none.1) (drop_all passed [] tt);
        due = subst (λ (js : List Job). AllByRecursion Q (items_of js)) (sym none.2) tt;
        waits = subst (λ (js : List Job). AllByRecursion Q (items_of js)) (sym none.3) tt;
      }

  -- what a try to reserve comes to
  reserved_all : (at : ℕ) (e : Entry) (n m : NodeState) → HasReserved at e n m → AllJobs Q n → AllJobs Q m
  reserved_all at e n m h a =
      let s = n.seat.standing in
      let is = h.reserved.standing in
      let items = subst (AllByRecursion Q) (sym h.jobs) (due_all n.next n.replica.waiting a.due a.waits) in
      record {
        done = subst (λ (x : Standing). AllByRecursion Q (record_of x.history)) (sym is) a.done;
        reserved = subst (λ (x : Standing). AllByRecursion Q (jobs_reserved (unpassed x))) (sym is)
            (drop_more (length (own_entries s.node (applied_of s.history))) s.reservations (reservation at (shares_of e s.nodes)) a.reserved (shared_all at e s.nodes items));
        due = subst (λ (js : List Job). AllByRecursion Q (items_of js)) (sym h.next) tt;
        waits = subst (AllByRecursion Q) (sym h.left.waiting) (left_all n.next n.replica.waiting a.waits);
      }

  waiting_all : (n m : NodeState) → GoesOnWaiting n m → AllJobs Q n → AllJobs Q m
  waiting_all n m h a = record {
    done = subst (λ (x : Standing). AllByRecursion Q (record_of x.history)) (sym h.met.standing) a.done;
    reserved = subst (λ (x : Standing). AllByRecursion Q (jobs_reserved (unpassed x))) (sym h.met.standing) a.reserved;
    due = subst (AllByRecursion Q) (sym h.next) (due_all n.next n.replica.waiting a.due a.waits);
    waits = subst (AllByRecursion Q) (sym h.left.waiting) (left_all n.next n.replica.waiting a.waits);
  }

  none_all : (n m : NodeState) → HasNoneDue n m → AllJobs Q n → AllJobs Q m
  none_all n m h a = record {
    done = subst (λ (x : NodeState). AllByRecursion Q (record_of x.seat.standing.history)) (sym h.same) a.done;
    reserved = subst (λ (x : NodeState). AllByRecursion Q (jobs_reserved (unpassed x.seat.standing))) (sym h.same) a.reserved;
    due = subst (λ (x : NodeState). AllByRecursion Q (items_of x.next)) (sym h.same) a.due;
    waits = subst (AllByRecursion Q) (sym h.left.waiting) (left_all n.next n.replica.waiting a.waits);
  }

  still_all : (n m : NodeState) → m ≡ n → AllJobs Q n → AllJobs Q m
  still_all n m same a = subst (AllJobs Q) (sym same) a

  pub tried_all : (places : ℕ) (r : Result Round Memory) (n m : NodeState) → ComesTo places r n m → AllJobs Q n → AllJobs Q m
  tried_all places (Ok rounds.Done) n m (inl (at, entry, h)) a = reserved_all at entry n m h a
  tried_all places (Ok rounds.Done) n m (inr h) a = none_all n m h a
  tried_all places (Ok rounds.Full) n m h a = waiting_all n m h.0 a
  tried_all places (Ok rounds.Again) n m h a = waiting_all n m h.0 a
  tried_all places (Ok rounds.NotYet) n m h a = absurd h
  tried_all places (Ok rounds.Down) n m h a = still_all n m h a
  tried_all places (Err memory) n m (inl same) a = still_all n m same a
  tried_all places (Err memory) n m (inr h) a = waiting_all n m h a

  -- ---- entries are passed, and reads run
  -- it goes on to hold of an update at a later moment, and speaks of the node's connections alone
  abbrev pub SpeaksOf : ℕ → Type 0
  SpeaksOf node = ((job : Item) (moment : ℕ) → is_update job.deed ≡ true → job.moment ≤ moment → Q job → Q (record job { moment = moment }))
      × ((job : Item) → (job.connection.node ≡ node → ⊥) → Q job)

  moved_all : (node : ℕ) → SpeaksOf node → (moment : ℕ) (jobs : Jobs) → IsTrue (are_updates jobs) → AllByRecursion (λ (job : Item). job.moment ≤ moment) jobs
      → AllByRecursion Q jobs → AllByRecursion Q (map {A = Item} (λ (job : Item). record job { moment = moment }) jobs)
  moved_all node speaks moment [] updates within a = tt
  moved_all node speaks moment (job ∷ jobs) updates within a =
      let parts = and_parts (is_update job.deed) (are_updates jobs) updates in
      (speaks.0 job moment parts.0 within.0 a.0, moved_all node speaks moment jobs parts.1 within.1 a.1)

  foreign_all : (node other : ℕ) → SpeaksOf node → (other ≡ node → ⊥) → (jobs : Jobs) → IsTrue (are_of other jobs) → AllByRecursion Q jobs
  foreign_all node other speaks apart [] own = tt
  foreign_all node other speaks apart (job ∷ jobs) own =
      let parts = and_parts (job.connection.node == other) (are_of other jobs) own in
      let there = eqb-true job.connection.node other parts.0 in
      (speaks.1 job (λ e. apart (sym there ∙ e)), foreign_all node other speaks apart jobs parts.1)

  applied_all : (node : ℕ) → SpeaksOf node → (es : List Entry) → AllByRecursion Q (jobs_of_own node es) → AllByRecursion Q (record_of (map Applied es))
  applied_all node speaks [] a = tt
  applied_all node speaks (e ∷ es) a =
      let items = items_of e.jobs.items in
      let later = jobs_of_own node es in
      elim (eqb_tells e.node node) [
        | inl same ↦
            let all = subst (λ (b : Bool). AllByRecursion Q (cond b (items ++ later) later)) same.0 a in
            All-append Q _ (record_of (map Applied es)) (moved_all node speaks _ items e.updates (entry_above items) (all_front Q items later all)) (applied_all node speaks es (all_back Q items later all))
        | inr other ↦
            let all = subst (λ (b : Bool). AllByRecursion Q (cond b (items ++ later) later)) other.0 a in
            All-append Q _ (record_of (map Applied es)) (moved_all node speaks _ items e.updates (entry_above items) (foreign_all node e.node speaks other.1 items e.own)) (applied_all node speaks es all)
      ]

  ran_all : (ran : List Job) → AllByRecursion Q (items_of ran) → AllByRecursion Q (record_of (map Ran ran))
  ran_all [] a = tt
  ran_all (job ∷ ran) a = (a.0, ran_all ran a.1)

  either_all : (new old : List Job) → (new ≡ []) ⊎ (new ≡ old) → AllByRecursion Q (items_of old) → AllByRecursion Q (items_of new)
  either_all new old is a = elim is [
    | inl none ↦ subst (λ (js : List Job). AllByRecursion Q (items_of js)) (sym none) tt
    | inr same ↦ subst (λ (js : List Job). AllByRecursion Q (items_of js)) (sym same) a
  ]

  left_down : (es : List Entry) (ran : List Job) (tail : ℕ) (n m : NodeState) → GoesOnBy es ran tail n m → m.replica.down ≡ true
      → ((m.replica.waiting ≡ []) ⊎ (m.replica.waiting ≡ n.replica.waiting)) × ((m.next ≡ []) ⊎ (m.next ≡ n.next))
  left_down es ran tail n m by down = elim (cases_Bool n.replica.down) [
    | inl was ↦ (inr (ap (λ (r : ReplicaState). r.waiting) (by.still was)), by.dropped was)
    | inr up ↦ let fell = by.fell up down in (inl fell.1, inl fell.2)
  ]

  pub looked_all : (looked : Result Round Memory) (behind : Bool) (es : List Entry) (ran : List Job) (tail : ℕ) (n m : NodeState) → SpeaksOf n.book.node
      → HasLooked looked behind es ran tail n m → AllJobs Q n → AllJobs Q m
  looked_all looked behind es ran tail n m speaks h a =
      let before = n.seat.standing.history in
      let more = map Applied es ++ map Ran ran in
      let is : record_of m.seat.standing.history ≡ record_of before ++ (record_of (map Applied es) ++ record_of (map Ran ran)) =
      ap (λ (s : Standing). record_of s.history) h.by.standing ∙ record-append before more
      ∙ ap (λ (js : Sequence). record_of before ++ js) (record-append (map Applied es) (map Ran ran)) in
      let all = subst (AllByRecursion Q) h.by.own a.reserved in
      let applied = applied_all n.book.node speaks es (all_front Q (jobs_of_own n.book.node es) (jobs_reserved (unpassed m.seat.standing)) all) in
      let later = all_back Q (jobs_of_own n.book.node es) (jobs_reserved (unpassed m.seat.standing)) all in
      let whole : AllByRecursion Q (items_of ran) → AllByRecursion Q (record_of m.seat.standing.history) =
      λ read. subst (AllByRecursion Q) (sym is) (All-append Q (record_of before) _ a.done (All-append Q (record_of (map Applied es)) _ applied (ran_all ran read))) in
      elim (is_done looked) [
        | inl done ↦
            let r = h.read done in
            record {
              done = whole (subst (AllByRecursion Q) (sym r.ran_is) (All-reads Q (items_of n.replica.waiting) a.waits));
              reserved = later;
              due = subst (λ (js : List Job). AllByRecursion Q (items_of js)) (sym r.next.1) tt;
              waits = subst (AllByRecursion Q) (sym r.left) (All-left_by_reads Q (items_of n.replica.waiting) a.waits);
            }
        | inr undone ↦
            let none : AllByRecursion Q (items_of ran) = subst (λ (js : List Job). AllByRecursion Q (items_of js)) (sym (h.none undone)) tt in
            elim (cases_Bool m.replica.down) [
              | inl down ↦
                  let left = left_down es ran tail n m h.by down in
                  record {
                    done = whole none;
                    reserved = later;
                    due = either_all m.next n.next left.1 a.due;
                    waits = either_all m.replica.waiting n.replica.waiting left.0 a.waits;
                  }
              | inr up ↦
                  let left = h.waiting undone up in
                  record {
                    done = whole none;
                    reserved = later;
                    due = either_all m.next n.next (inr left.1) a.due;
                    waits = either_all m.replica.waiting n.replica.waiting (inr left.0) a.waits;
                  }
            ]
      ]

  -- entries are passed, and no read is run
  pub passed_all : (es : List Entry) (n m : NodeState) → SpeaksOf n.book.node → HasPassed es n.seat.standing m.seat.standing
      → jobs_reserved (unpassed n.seat.standing) ≡ jobs_of_own n.book.node es ++ jobs_reserved (unpassed m.seat.standing)
      → (m.next ≡ []) ⊎ (m.next ≡ n.next) → (m.replica.waiting ≡ []) ⊎ (m.replica.waiting ≡ n.replica.waiting) → AllJobs Q n → AllJobs Q m
  passed_all es n m speaks passed own next waiting a =
      let before = n.seat.standing.history in
      let is : record_of m.seat.standing.history ≡ record_of before ++ record_of (map Applied es) =
      ap (λ (s : Standing). record_of s.history) passed.standing ∙ record-append before (map Applied es) in
      let all = subst (AllByRecursion Q) own a.reserved in
      let applied = applied_all n.book.node speaks es (all_front Q (jobs_of_own n.book.node es) (jobs_reserved (unpassed m.seat.standing)) all) in
      record {
        done = subst (AllByRecursion Q) (sym is) (All-append Q (record_of before) (record_of (map Applied es)) a.done applied);
        reserved = all_back Q (jobs_of_own n.book.node es) (jobs_reserved (unpassed m.seat.standing)) all;
        due = either_all m.next n.next next a.due;
        waits = either_all m.replica.waiting n.replica.waiting waiting a.waits;
      }

-- ---- jobs of batches
pub jobs_weaker : (Q R : Item → Type 0) → ((job : Item) → Q job → R job) → (n : NodeState) → AllJobs Q n → AllJobs R n
jobs_weaker Q R f n a = record {
  done = All-weaker Q R f (record_of n.seat.standing.history) a.done;
  reserved = All-weaker Q R f (jobs_reserved (unpassed n.seat.standing)) a.reserved;
  due = All-weaker Q R f (items_of n.next) a.due;
  waits = All-weaker Q R f (items_of n.replica.waiting) a.waits;
}

-- of which batch an update is stays so at a later moment, and it is said of the node's connections alone
pub speaks_of : (n : NodeState) (desks : List CombinerPast) → SpeaksOf (IsOwnOfBatch n desks) n.book.node
speaks_of n desks = (
  λ job moment update later of own.
      let b = of own in
      let from : b.has.item.moment ≤ job.moment = b.has.moment in
      record {
        worker = b.worker;
        own = record { node = b.own.node; served = b.own.served };
        batch = b.batch;
        lifted = b.lifted;
        has = record {
          item = b.has.item;
          there = b.has.there;
          connection = b.has.connection;
          number = b.has.number;
          deed = b.has.deed;
          moment = omega (arith, from, later);
          read = λ is. absurd (cc (update, is));
        };
      },
  λ job apart own. absurd (apart own),
)

-- what was lifted before stays so
pub of_lifted : (n m : NodeState) (v w : List CombinerPast) → ((worker : ℕ) (job : Item) → IsOfWorker n worker job → IsOfWorker m worker job) → n.book.node ≡ m.book.node
    → ((worker : ℕ) (batch : Batch) → IsLifted v worker batch → IsLifted w worker batch) → (job : Item) → IsOwnOfBatch n v job → IsOwnOfBatch m w job
of_lifted n m v w moves node lifted job of own =
    let b = of (own ∙ sym node) in
    record {
      worker = b.worker;
      own = moves b.worker job b.own;
      batch = b.batch;
      lifted = lifted b.worker b.batch b.lifted;
      has = b.has;
    }

-- answers behind others
answered_more : (xs : List Answer) (x : Answer) (k : ℕ) → (k ≡ length xs → IsNoRefusal x.outcome) → HandsNoneBack (slice_get xs k) → HandsNoneBack (slice_get (xs ++ x ∷ []) k)
answered_more [] x zero last h = last refl
answered_more [] x (suc k) last h = tt
answered_more (y ∷ xs) x zero last h = h
answered_more (y ∷ xs) x (suc k) last h = answered_more xs x k (λ e. last (ap suc e)) h

none_yet : (xs : List Answer) (k : ℕ) → k ≡ length xs → HandsNoneBack (slice_get xs k)
none_yet [] k e = tt
none_yet (x ∷ xs) zero e = absurd (omega (arith, e))
none_yet (x ∷ xs) (suc k) e = none_yet xs k (omega (arith, e))

-- a worker's desk changes: what lay on it is there as before, and no answer hands it back
desk_changed : (desks : List CombinerPast) (worker : ℕ) (desk : CombinerPast) (more : List Batch) → worker < length desks → desk.lifted ≡ (get_or desks worker no_desk).lifted ++ more
    → ((k : ℕ) → k < length (get_or desks worker no_desk).lifted → HandsNoneBack (slice_get (get_or desks worker no_desk).answered k) → HandsNoneBack (slice_get desk.answered k))
    → (w : ℕ) (b : Batch) → IsLifted desks w b → IsLifted (set desks worker desk) w b
desk_changed desks worker desk more near longer kept w b is =
    let old = get_or desks worker no_desk in
    elim (eqb_tells w worker) [
      | inl same ↦
          let there : get_or (set desks worker desk) w no_desk ≡ desk =
          ap (λ (k : ℕ). get_or (set desks worker desk) k no_desk) same.1 ∙ get_or-set_same desks worker desk no_desk near in
          let was : get_or desks w no_desk ≡ old = ap (λ (k : ℕ). get_or desks k no_desk) same.1 in
          let whole : old.lifted ≡ is.before ++ b ∷ is.after = sym (ap (λ (d : CombinerPast). d.lifted) was) ∙ is.lifted in
          let long : length old.lifted ≡ length is.before + length (b ∷ is.after) = ap length whole ∙ length-append is.before (b ∷ is.after) in
          let below : length is.before < length old.lifted = omega (arith, long) in
          record {
            before = is.before;
            after = is.after ++ more;
            lifted = ap (λ (d : CombinerPast). d.lifted) there ∙ longer ∙ ap (λ (bs : List Batch). bs ++ more) whole ∙ append_assoc is.before (b ∷ is.after) more;
            kept = subst (λ (d : CombinerPast). HandsNoneBack (slice_get d.answered (length is.before))) (sym there)
                (kept (length is.before) below (subst (λ (d : CombinerPast). HandsNoneBack (slice_get d.answered (length is.before))) was is.kept));
          }
      | inr other ↦
          let same : get_or (set desks worker desk) w no_desk ≡ get_or desks w no_desk = get_or-set_other desks worker w desk no_desk other.1 in
          record {
            before = is.before;
            after = is.after;
            lifted = ap (λ (d : CombinerPast). d.lifted) same ∙ is.lifted;
            kept = subst (λ (d : CombinerPast). HandsNoneBack (slice_get d.answered (length is.before))) (sym same) is.kept;
          }
    ]

-- so where one is lifted, or answered, or both
pub lifted_more : (seat : CombinerView) (worker : ℕ) (batch : Batch) → worker < length seat.desks → (w : ℕ) (b : Batch) → IsLifted seat.desks w b
    → IsLifted (with_lifted worker batch seat).desks w b
lifted_more seat worker batch near =
    let old = desk_of seat worker in
    desk_changed seat.desks worker record { lifted = old.lifted ++ batch ∷ []; answered = old.answered; grip = old.grip } (batch ∷ []) near refl (λ k below h. h)

pub answered_lifted : (seat : CombinerView) (worker : ℕ) (answer : Answer) → worker < length seat.desks → IsNoRefusal answer.outcome → (w : ℕ) (b : Batch)
    → IsLifted seat.desks w b → IsLifted (with_answered worker answer seat).desks w b
answered_lifted seat worker answer near told =
    let old = desk_of seat worker in
    desk_changed seat.desks worker record { lifted = old.lifted; answered = old.answered ++ answer ∷ []; grip = old.grip } [] near (sym (append-nil old.lifted))
    (λ k below h. answered_more old.answered answer k (λ _. told) h)

pub back_lifted : (seat : CombinerView) (worker : ℕ) (batch : Batch) (answer : Answer) → worker < length seat.desks
    → length (desk_of seat worker).lifted ≡ length (desk_of seat worker).answered → (w : ℕ) (b : Batch) → IsLifted seat.desks w b
    → IsLifted (set seat.desks worker record {
      lifted = (desk_of seat worker).lifted ++ batch ∷ [];
      answered = (desk_of seat worker).answered ++ answer ∷ [];
      grip = (desk_of seat worker).grip;
    }) w b
back_lifted seat worker batch answer near even =
    let old = desk_of seat worker in
    desk_changed seat.desks worker record { lifted = old.lifted ++ batch ∷ []; answered = old.answered ++ answer ∷ []; grip = old.grip } (batch ∷ []) near refl
    (λ k below h. answered_more old.answered answer k (λ e. absurd (omega (arith, below, even, e))) h)

lifted_last : (seat : CombinerView) (worker : ℕ) (batch : Batch) → worker < length seat.desks
    → length (desk_of seat worker).lifted ≡ length (desk_of seat worker).answered → IsLifted (with_lifted worker batch seat).desks worker batch
lifted_last seat worker batch near even =
    let old = desk_of seat worker in
    let desk : CombinerPast = record { lifted = old.lifted ++ batch ∷ []; answered = old.answered; grip = old.grip } in
    let there : get_or (set seat.desks worker desk) worker no_desk ≡ desk = get_or-set_same seat.desks worker desk no_desk near in
    record {
      before = old.lifted;
      after = [];
      lifted = ap (λ (d : CombinerPast). d.lifted) there;
      kept = subst (λ (d : CombinerPast). HandsNoneBack (slice_get d.answered (length old.lifted))) (sym there) (none_yet old.answered (length old.lifted) even);
    }

-- the jobs of a batch that is taken in
batch_from : (n : NodeState) (desks : List CombinerPast) (worker : ℕ) (batch : Batch) (front jobs : Jobs) → IsLifted desks worker batch → items_of batch.jobs.items ≡ front ++ jobs
    → AllByRecursion (IsOfWorker n worker) jobs → AllByRecursion (IsOwnOfBatch n desks) jobs
batch_from n desks worker batch front [] lifted is all = tt
batch_from n desks worker batch front (job ∷ jobs) lifted is all = (
  λ _. record {
    worker = worker;
    own = all.0;
    batch = batch;
    lifted = lifted;
    has = record {
      item = job;
      there = subst (λ (js : Jobs). Contains js job) (sym is) (in_middle job front jobs);
      connection = refl;
      number = refl;
      deed = refl;
      moment = omega arith;
      read = λ is. refl;
    };
  },
  batch_from n desks worker batch (front ++ job ∷ []) jobs lifted (is ∙ sym (append_assoc front (job ∷ []) jobs)) all.1,
)

pub taken_jobs : (n : NodeState) (seat : CombinerView) (batch : Batch) → batch.worker < length seat.desks
    → length (desk_of seat batch.worker).lifted ≡ length (desk_of seat batch.worker).answered
    → AllByRecursion (IsOfWorker (taken_node batch n) batch.worker) (items_of batch.jobs.items) → AllJobs (IsOwnOfBatch n seat.desks) n
    → AllJobs (IsOwnOfBatch (taken_node batch n) (with_lifted batch.worker batch seat).desks) (taken_node batch n)
taken_jobs n seat batch near even all a =
    let m = taken_node batch n in
    let desks = (with_lifted batch.worker batch seat).desks in
    let Q : Item → Type 0 = IsOwnOfBatch m desks in
    let b = jobs_weaker (IsOwnOfBatch n seat.desks) Q (of_lifted n m seat.desks desks (λ worker job own. record { node = own.node; served = own.served }) refl (lifted_more seat batch.worker batch near)) n a in
    record {
      done = b.done;
      reserved = b.reserved;
      due = b.due;
      waits = subst (AllByRecursion Q) (sym (map-append item_of n.replica.waiting batch.jobs.items))
          (All-append Q (items_of n.replica.waiting) (items_of batch.jobs.items) b.waits
          (batch_from m desks batch.worker batch [] (items_of batch.jobs.items) (lifted_last seat batch.worker batch near even) refl all));
    }
