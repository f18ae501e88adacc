-- What is kept of a node: the next entry, and each step of it.
use Rattle.std.proofs.Common.{◌≡◌, ℕ, zero, suc, ◌<◌, inl, inr, Bool, true, false, cond, List, [], ◌∷◌, ◌++◌, length, refl, ap, sym, ◌∙◌, subst, arith, length-set, slice_set, take, drop, ◌+◌, ◌≤◌, append_assoc}
use Rattle.std.specs.Prelude.{◌≢◌, slice_index_or, Option, Some, None, IfOk, IfSome, IfNone, OnErr, Result, Ok, Err}
use Rattle.std.specs.FinMap as finmap
use Rattle.std.specs.List.{AllByRecursion, range_with_len}
use Rattle.std.proofs.lemmas.Bool.{cases_Bool}
use Rattle.std.proofs.lemmas.List.{append-nil, length-map, map-append}
use Rattle.nr_model.specs.Bytes.{Bytes, IsBeginningOf}
use Rattle.nr_model.specs.Items.{Connection}
use Rattle.nr_model.specs.Sequential.{emitted_for}
use Rattle.nr_model.specs.Entries.{Jobs, entry_jobs, left_by_entry, read_jobs, left_by_reads}
use Rattle.nr_model.specs.Servers.{emitted_all}
use Rattle.nr_model.specs.Nodes.Steps.{texts_for}
use Rattle.nr_model.proofs.Emitted.{silent}
use Rattle.nr_model.proofs.NodesExecutedLists.{lt_or_le}
use Rattle.nr_entry.specs.Jobs.{connection_of, item_of, items_of}
use Rattle.nr_entry.specs.Shares.{shares_of}
use Rattle.nr_entry.specs.declared.batch.Batch.{Batch}
use Rattle.nr_entry.specs.declared.batch.Outcome.{Outcome}
use Rattle.nr_entry.specs.declared.batch.Outcome.TheVariants as outcomes
use Rattle.nr_entry.specs.declared.entry.Entry.{Entry}
use Rattle.nr_entry.specs.declared.job.Job.{Job}
use Rattle.nr_log_end.specs.declared.standing.Standing.{Standing}
use Rattle.nr_log_end.specs.Standings.{IsAllFilled, LooksOn, StandsInLog, opened_with, record_of, applied_of, passed_of, own_entries}
use Rattle.nr_oplog.specs.declared.view.LogView.{LogView}
use Rattle.nr_job_numbers.specs.declared.account.Account.{Account}
use Rattle.nr_job_numbers.specs.Account.{fresh_account}
use Rattle.nr_job_numbers.specs.Stored.{Held, numbers_in, CountsTo, taken_all}
use Rattle.nr_job_numbers.specs.Book.{Book, HasTaken, refusal_of, with_batch}
use Rattle.nr_job_numbers.proofs.Batches.{all_of_due}
use Rattle.nr_replica.specs.Members.{Member, fresh_member, closed_member, handed_member, worker_of, jobs_of_worker}
use Rattle.nr_replica.specs.declared.outbox.Piece.{Piece}
use Rattle.nr_replica.specs.Replicas.{ReplicaState, HasRead, owed_from}
use Rattle.nr_node.specs.declared.next.Next.{Next}
use Rattle.nr_node.specs.declared.next.Next.TheVariants as forms
use Rattle.nr_node.specs.Level.{NodeState, IsLevel, IsInOrder, connection_at, queue_at, emitted_to, unpassed, jobs_reserved, all_jobs}
use Rattle.nr_node.specs.Batches.{IsOpened, IsPiece}
use Rattle.nr_node.specs.Next.{jobs_shared, jobs_next, IsNextOf, HasLeft}
use Rattle.nr_node.specs.Owing.{unexecuted, count_owed, awaited, answer_by, answered_node, IsOwing, IsServedBy, HasAccounts, HasAllExecuted}
use Rattle.nr_node.specs.OwnEntries.{AreAhead}
use Rattle.nr_node.specs.Kept.{IsKept}
use Rattle.nr_node.proofs.Advances.{ahead_on, goes_tail}
use Rattle.nr_node.specs.Advanced.{HasNoted, GoesOn}
use Rattle.nr_node.specs.Reserved.{due_jobs, left_jobs, LeavesWaiting, AreTaken, AreNone, AreDue, HasMet, IsReserved}
use Rattle.nr_node.specs.Steps.{nobody, refusing_node}
use Rattle.nr_node.proofs.Lists.{applied_opened, unpassed_opened, numbers-append, no_numbers, none_unpassed, jobs_reserved_more}
use Rattle.nr_node.proofs.Levels.{same_level, opened_level, closed_level, handed_level, noted_level}
use Rattle.nr_node.proofs.Orders.{none_recorded, reserved_order, due_order, members_order, noted_opened_order, owed_order}
use Rattle.nr_node.proofs.Closing.{closed_accounts}
use Rattle.nr_node.proofs.Queues.{piece_behind}
use Rattle.nr_node.proofs.Served.{opened_order, batch_order, noted_order, forgotten, length_read, unpassed_noted}
use Rattle.nr_node.proofs.Owed.{workers_owing, workers_accounts, due_owing, read_owing, received_workers, set_workers, pushed_owing, pushed_accounts, all_served, batch_owing, answered_owing, none_numbered, still_awaited, as_many}

pub due_of_some : (next waiting : List Job) → 0 < length next → due_jobs next waiting ≡ items_of next
due_of_some [] waiting h = absurd (omega arith)
due_of_some (job ∷ next) waiting h = refl

pub left_of_some : (next waiting : List Job) → 0 < length next → left_jobs next waiting ≡ items_of waiting
left_of_some [] waiting h = absurd (omega arith)
left_of_some (job ∷ next) waiting h = refl

pub shared_jobs : (e : Entry) (nodes : ℕ) → 0 < nodes → jobs_shared (shares_of e nodes) ≡ e.jobs.items
shared_jobs e zero h = absurd (omega arith)
shared_jobs e (suc nodes) h = refl

-- an entry has jobs, so where one is taken or lost there were some that were due
some_items : (jobs : List Job) → 0 < length jobs → items_of jobs ≢ []
some_items [] some none = absurd (omega arith)
some_items (job ∷ jobs) some none = absurd (cc none)

some_due : (e : Entry) (due : Jobs) → items_of e.jobs.items ≡ due → due ≢ []
some_due e due is none = some_items e.jobs.items e.some (is ∙ none)

-- an entry that found no place before is taken
pub kept_taken : (e : Entry) (next after : Option Next) (r : ReplicaState) → after ≡ None → jobs_next next ≡ e.jobs.items → AreTaken e.jobs.items next r after r
kept_taken e next after r gone is =
    let due : items_of e.jobs.items ≡ due_jobs (jobs_next next) r.waiting = sym (ap (λ (js : List Job). due_jobs js r.waiting) is ∙ due_of_some e.jobs.items r.waiting e.some) in record {
      due = due;
      some = some_due e (due_jobs (jobs_next next) r.waiting) due;
      none = gone;
      left = record { waiting = sym (ap (λ (js : List Job). left_jobs js r.waiting) is ∙ left_of_some e.jobs.items r.waiting e.some); replica = refl };
    }

-- the updates that lead are taken
pub led_taken : (e : Entry) (next after : Option Next) (old new : ReplicaState) → after ≡ None → next ≡ None → items_of e.jobs.items ≡ entry_jobs (items_of old.waiting)
    → items_of new.waiting ≡ left_by_entry (items_of old.waiting) → new ≡ record old { waiting = new.waiting } → AreTaken e.jobs.items next old after new
led_taken e next after old new gone is due left rest =
    let there : items_of e.jobs.items ≡ due_jobs (jobs_next next) old.waiting = due ∙ sym (ap (λ (n : Option Next). due_jobs (jobs_next n) old.waiting) is) in record {
      due = there;
      some = some_due e (due_jobs (jobs_next next) old.waiting) there;
      none = gone;
      left = record { waiting = left ∙ sym (ap (λ (n : Option Next). left_jobs (jobs_next n) old.waiting) is); replica = rest };
    }

pub none_led : (next after : Option Next) (old new : ReplicaState) → after ≡ None → next ≡ None → entry_jobs (items_of old.waiting) ≡ [] → items_of new.waiting ≡ left_by_entry (items_of old.waiting)
    → new ≡ record old { waiting = new.waiting } → AreNone next old after new
none_led next after old new gone is due left rest = (
  gone,
  ap (λ (n : Option Next). due_jobs (jobs_next n) old.waiting) is ∙ due,
  record { waiting = left ∙ sym (ap (λ (n : Option Next). left_jobs (jobs_next n) old.waiting) is); replica = rest },
)

-- one of which there was no memory for shares goes on waiting
pub left_due : (e : Entry) (next emptied after : Option Next) (old new : ReplicaState) → AreTaken e.jobs.items next old emptied new → HasLeft e after → AreDue next old after new
left_due e next emptied after old new taken has = inr (
  ap (λ (n : Option Next). items_of (jobs_next n)) has.1 ∙ ap (λ (x : Entry). items_of x.jobs.items) has.2 ∙ taken.due,
  taken.left,
  taken.some,
)

-- it is an entry of the node
pub left_next : (e : Entry) (after : Option Next) (node nodes : ℕ) → HasLeft e after → e.node ≡ node → IsNextOf node nodes after
left_next e after node nodes has own = subst (IsNextOf node nodes) (sym has.1) (ap (λ (x : Entry). x.node) has.2 ∙ own)

pub ok_none : {S E : Type 0} (P Q : Type 0) (r : Result (Option S) E) → IfOk r (λ o. IfNone o P) → (P → Q) → IfOk r (λ o. IfNone o Q)
ok_none P Q (Ok (Some x)) h f = tt
ok_none P Q (Ok None) h f = f h
ok_none P Q (Err e) h f = tt

pub ok_some : {S E : Type 0} (P Q : S → Type 0) (r : Result (Option S) E) → IfOk r (λ o. IfSome o P) → ((x : S) → P x → Q x) → IfOk r (λ o. IfSome o Q)
ok_some P Q (Ok (Some x)) h f = f x h
ok_some P Q (Ok None) h f = tt
ok_some P Q (Err e) h f = tt

-- what holds of a node whose waiting jobs changed, and nothing else
pub waits_level : (s t : Standing) (old new : ReplicaState) (jobs : Jobs) → t.node ≡ s.node → t.history ≡ s.history → LeavesWaiting jobs old new → IsLevel s old → IsLevel t new
waits_level s t old new jobs node history left l =
    let r = left.replica in
    same_level s t old new node history (ap (λ (x : ReplicaState). x.node) r) (ap (λ (x : ReplicaState). x.members) r) (ap (λ (x : ReplicaState). x.down) r)
    (ap (λ (x : ReplicaState). x.server) r) (ap (λ (x : ReplicaState). x.applied) r) l

same_met : (s : Standing) → HasMet s s
same_met s = record { seen = omega arith; standing = refl }

pub still_met : (v w : LogView) → w ≡ v → HasMet v.standing w.standing
still_met v w same = subst (λ (x : LogView). HasMet v.standing x.standing) (sym same) (same_met v.standing)

nothing : (s : Standing) (r : ReplicaState) (book : Book) (next after : Option Next) (nodes : ℕ) → after ≡ next → IsKept s r book next nodes → IsKept s r book after nodes
nothing s r book next after nodes is k = subst (λ (n : Option Next). IsKept s r book n nodes) (sym is) k

-- what is owed where jobs go on waiting, or are reserved
waits_owing : (old new : ReplicaState) (next : List Job) (before jobs : Jobs)
    → jobs ≡ before ++ (due_jobs next old.waiting ++ left_jobs next old.waiting) → LeavesWaiting (left_jobs next old.waiting) old new
    → IsOwing old.members old.owed (before ++ (items_of next ++ items_of old.waiting)) → IsOwing new.members new.owed jobs
waits_owing old new next before jobs is left o =
    subst (λ (r : ReplicaState). IsOwing r.members r.owed jobs) (sym left.replica)
    (subst (IsOwing old.members old.owed) (sym is) (due_owing old.members old.owed before next old.waiting o))

waits_accounts : (node : ℕ) (old new : ReplicaState) (held : Held) (left : Jobs) → LeavesWaiting left old new → HasAccounts node old.members held → HasAccounts node new.members held
waits_accounts node old new held left waits has = subst (λ (ms : List Member). HasAccounts node ms held) (sym (ap (λ (x : ReplicaState). x.members) waits.replica)) has

-- the jobs of an entry that was reserved, and what waits behind them
reserved_jobs : (s t : Standing) (at : ℕ) (e : Entry) (next waiting left : List Job) → 0 < s.nodes → IsReserved at (shares_of e s.nodes) s t
    → length (own_entries s.node (applied_of s.history)) ≤ length s.reservations → items_of e.jobs.items ≡ due_jobs next waiting → items_of left ≡ left_jobs next waiting
    → unexecuted t [] left ≡ jobs_reserved (unpassed s) ++ (due_jobs next waiting ++ left_jobs next waiting)
reserved_jobs s t at e next waiting left some reserved passed due is =
    let before = jobs_reserved (unpassed s) in
    let items = items_of e.jobs.items in
    ap (λ (js : Jobs). js ++ items_of left) (ap (λ (x : Standing). jobs_reserved (unpassed x)) reserved.standing ∙ jobs_reserved_more s at e some passed)
    ∙ append_assoc before items (items_of left) ∙ (λ i. before ++ (due i ++ is i))

no_items : (jobs : List Job) → items_of jobs ≡ [] → jobs ≡ []
no_items [] none = refl
no_items (job ∷ jobs) none = absurd (cc none)

-- the entry goes on waiting
pub due_kept : (s t : Standing) (old new : ReplicaState) (book : Book) (next after : Option Next) (nodes : ℕ) → HasMet s t
    → items_of (jobs_next after) ≡ due_jobs (jobs_next next) old.waiting → LeavesWaiting (left_jobs (jobs_next next) old.waiting) old new → IsNextOf t.node nodes after
    → IsKept s old book next nodes → IsKept t new book after nodes
due_kept s t old new book next after nodes met due left is k = record {
  level = waits_level s t old new (left_jobs (jobs_next next) old.waiting) (ap (λ (x : Standing). x.node) met.standing) (ap (λ (x : Standing). x.history) met.standing) left k.level;
  order = due_order s t old new book (jobs_next next) (jobs_next after) met due left k.order;
  next_is = is;
  owed = k.owed ∙ sym (ap (λ (x : ReplicaState). length x.owed) left.replica);
  owing = λ up. waits_owing old new (jobs_next next) (jobs_reserved (unpassed s)) (unexecuted t (jobs_next after) new.waiting)
      (λ i. jobs_reserved (unpassed (met.standing i)) ++ (due i ++ left.waiting i)) left (k.owing (sym (ap (λ (x : ReplicaState). x.down) left.replica) ∙ up));
  accounts = waits_accounts book.node old new book.held _ left k.accounts;
  fallen = λ down.
      let f = k.fallen (sym (ap (λ (x : ReplicaState). x.down) left.replica) ∙ down) in (
        no_items new.waiting (left.waiting ∙ (λ i. left_jobs (f.1 i) (f.0 i))),
        no_items (jobs_next after) (due ∙ (λ i. due_jobs (f.1 i) (f.0 i))),
        subst AreAhead (sym met.standing) f.2,
        ap (λ (x : ReplicaState). x.refused) left.replica ∙ f.3,
      );
}

pub memory_kept : (s : Standing) (old new : ReplicaState) (book : Book) (next after : Option Next) (nodes : ℕ) → AreDue next old after new → IsNextOf s.node nodes after
    → IsKept s old book next nodes → IsKept s new book after nodes
memory_kept s old new book next after nodes due is k = elim due [
  | inl same ↦ subst (λ (r : ReplicaState). IsKept s r book after nodes) (sym same.1) (nothing s old book next after nodes same.0 k)
  | inr d ↦ due_kept s s old new book next after nodes (same_met s) d.0 d.1 is k
]

pub none_kept : (s : Standing) (old new : ReplicaState) (book : Book) (next after : Option Next) (nodes : ℕ) → AreNone next old after new
    → IsKept s old book next nodes → IsKept s new book after nodes
none_kept s old new book next after nodes none k =
    subst (λ (n : Option Next). IsKept s new book n nodes) (sym none.0) (due_kept s s old new book next None nodes (same_met s) (sym none.1) none.2 tt k)

pub reserved_kept : (s t : Standing) (at : ℕ) (e : Entry) (old new : ReplicaState) (book : Book) (next after : Option Next) (nodes : ℕ) → 0 < s.nodes
    → IsReserved at (shares_of e s.nodes) s t → AreTaken e.jobs.items next old after new → old.down ≡ false → IsKept s old book next nodes → IsKept t new book after nodes
reserved_kept s t at e old new book next after nodes some reserved taken up k =
    subst (λ (n : Option Next). IsKept t new book n nodes) (sym taken.none) record {
      level = waits_level s t old new (left_jobs (jobs_next next) old.waiting) (ap (λ (x : Standing). x.node) reserved.standing)
          (ap (λ (x : Standing). x.history) reserved.standing) taken.left k.level;
      order = reserved_order s t at e old new book (jobs_next next) some reserved taken.due taken.left k.order;
      next_is = tt;
      owed = k.owed ∙ sym (ap (λ (x : ReplicaState). length x.owed) taken.left.replica);
      owing = λ is_up. waits_owing old new (jobs_next next) (jobs_reserved (unpassed s)) (unexecuted t [] new.waiting)
          (reserved_jobs s t at e (jobs_next next) old.waiting new.waiting some reserved k.order.passed taken.due taken.left.waiting) taken.left (k.owing up);
      accounts = waits_accounts book.node old new book.held _ taken.left k.accounts;
      fallen = λ down. absurd (cc (up, sym (ap (λ (x : ReplicaState). x.down) taken.left.replica) ∙ down));
    }

-- shares that came back go on waiting
pub back_kept : (s t : Standing) (e : Entry) (old new : ReplicaState) (book : Book) (next between : Option Next) (shares back : List (Option Entry)) (nodes : ℕ) → 0 < nodes
    → HasMet s t → AreTaken e.jobs.items next old between new → shares ≡ shares_of e nodes → back ≡ shares → e.node ≡ s.node
    → IsKept s old book next nodes → IsKept t new book (Some (forms.Shared back)) nodes
back_kept s t e old new book next between shares back nodes some met taken are is own k =
    let jobs : jobs_shared back ≡ e.jobs.items = ap jobs_shared (is ∙ are) ∙ shared_jobs e nodes some in
    due_kept s t old new book next (Some (forms.Shared back)) nodes met (ap items_of jobs ∙ taken.due) taken.left
    (e, is ∙ are, own ∙ sym (ap (λ (x : Standing). x.node) met.standing)) k

opened_ahead : (s : Standing) (worker seen : ℕ) → AreAhead s → AreAhead (opened_with worker seen s)
opened_ahead s worker seen ahead =
    subst (λ (es : List Entry). AllByRecursion (λ (r : ℕ × Entry). length es ≤ r.0) (unpassed (opened_with worker seen s))) (sym (applied_opened s worker))
    (subst (AllByRecursion (λ (r : ℕ × Entry). passed_of s ≤ r.0)) (sym (unpassed_opened s worker seen)) ahead)

-- a node that is down and changed otherwise
still_fallen : (s : Standing) (old new : ReplicaState) (next : Option Next) → new.down ≡ old.down → new.waiting ≡ old.waiting → new.refused ≡ old.refused
    → (old.down ≡ true → (old.waiting ≡ []) × (jobs_next next ≡ []) × AreAhead s × (old.refused ≡ false))
    → new.down ≡ true → (new.waiting ≡ []) × (jobs_next next ≡ []) × AreAhead s × (new.refused ≡ false)
still_fallen s old new next same waiting refused fallen down =
    let f = fallen (sym same ∙ down) in
    (waiting ∙ f.0, f.1, f.2, refused ∙ f.3)

-- a connection more, which is noted
pub opened_kept : (s t : Standing) (old new : ReplicaState) (book : Book) (next : Option Next) (nodes worker limit : ℕ)
    → new ≡ record old { members = old.members ++ fresh_member (connection_at old.node (length old.members)) worker limit ∷ [] }
    → t ≡ opened_with worker t.seen s → s.seen ≤ t.seen → IsKept s old book next nodes
    → IsKept t new (record book { held = finmap.insert book.held (length old.members) (fresh_account worker) }) next nodes
opened_kept s t old new book next nodes worker limit is noted later k =
    let c = connection_at s.node (length old.members) in
    let m = fresh_member (connection_at old.node (length old.members)) worker limit in
    let after = record book { held = finmap.insert book.held (length old.members) (fresh_account worker) } in
    let parts = none_recorded c (record_of s.history) (jobs_reserved (unpassed s)) (items_of (jobs_next next) ++ items_of old.waiting)
    (k.order.unopened (length old.members) (omega arith)) in
    let u = opened_with worker t.seen s in
    subst (λ (x : Standing). IsKept x new after next nodes) (sym noted) record {
      level = opened_level s old new worker limit t.seen is (silent c (record_of s.history) (no_numbers c (record_of s.history) parts)) k.level;
      order = noted_opened_order s worker t.seen new after (jobs_next next) later (opened_order s old new book (jobs_next next) worker m is k.order);
      next_is = k.next_is;
      owed = k.owed ∙ sym (ap (λ (x : ReplicaState). length x.owed) is);
      owing = λ up. subst (λ (r : ReplicaState). IsOwing r.members r.owed (unexecuted u (jobs_next next) r.waiting)) (sym is)
          (subst (λ (rs : List (ℕ × Entry)). IsOwing (old.members ++ m ∷ []) old.owed (jobs_reserved rs ++ (items_of (jobs_next next) ++ items_of old.waiting)))
          (sym (unpassed_opened s worker t.seen))
          (pushed_owing old.members m old.owed (unexecuted s (jobs_next next) old.waiting) (k.owing (sym (ap (λ (x : ReplicaState). x.down) is) ∙ up))));
      accounts = subst (λ (ms : List Member). HasAccounts book.node ms (finmap.insert book.held (length old.members) (fresh_account worker)))
          (sym (ap (λ (x : ReplicaState). x.members) is)) (pushed_accounts book.node worker old.members m book.held refl k.accounts);
      fallen = λ down.
          let f = k.fallen (sym (ap (λ (x : ReplicaState). x.down) is) ∙ down) in
          (ap (λ (x : ReplicaState). x.waiting) is ∙ f.0, f.1, opened_ahead s worker t.seen f.2, ap (λ (x : ReplicaState). x.refused) is ∙ f.3);
    }

-- a connection changed, and is of its worker
set_owing : (s : Standing) (old new : ReplicaState) (next : List Job) (i : ℕ) (m : Member) → i < length old.members → new ≡ record old { members = slice_set old.members i m }
    → m.worker ≡ (slice_index_or old.members i nobody).worker
    → (old.down ≡ false → IsOwing old.members old.owed (unexecuted s next old.waiting)) → new.down ≡ false → IsOwing new.members new.owed (unexecuted s next new.waiting)
set_owing s old new next i m there is same owing up =
    subst (λ (r : ReplicaState). IsOwing r.members r.owed (unexecuted s next r.waiting)) (sym is)
    (workers_owing old.members (slice_set old.members i m) old.owed (unexecuted s next old.waiting) (length-set old.members i m) (set_workers old.members i m there same)
    (owing (sym (ap (λ (x : ReplicaState). x.down) is) ∙ up)))

set_accounts : (node : ℕ) (old new : ReplicaState) (held : Held) (i : ℕ) (m : Member) → i < length old.members → new ≡ record old { members = slice_set old.members i m }
    → m.worker ≡ (slice_index_or old.members i nobody).worker → HasAccounts node old.members held → HasAccounts node new.members held
set_accounts node old new held i m there is same has =
    subst (λ (ms : List Member). HasAccounts node ms held) (sym (ap (λ (x : ReplicaState). x.members) is))
    (workers_accounts node old.members (slice_set old.members i m) held (length-set old.members i m) (set_workers old.members i m there same) has)

-- one was closed, or some of what waits for one was handed out
pub closed_kept : (s : Standing) (old new : ReplicaState) (book : Book) (next : Option Next) (nodes i : ℕ) → i < length old.members
    → new ≡ record old { members = slice_set old.members i (closed_member (slice_index_or old.members i nobody)) } → IsKept s old book next nodes → IsKept s new book next nodes
closed_kept s old new book next nodes i there is k = record {
  level = closed_level s old new i there is k.level;
  order = members_order s old new book (jobs_next next) _ is (length-set old.members i (closed_member (slice_index_or old.members i nobody))) k.order;
  next_is = k.next_is;
  owed = k.owed ∙ sym (ap (λ (x : ReplicaState). length x.owed) is);
  owing = set_owing s old new (jobs_next next) i _ there is refl k.owing;
  accounts = set_accounts book.node old new book.held i _ there is refl k.accounts;
  fallen = still_fallen s old new next (ap (λ (x : ReplicaState). x.down) is) (ap (λ (x : ReplicaState). x.waiting) is)
      (ap (λ (x : ReplicaState). x.refused) is) k.fallen;
}

pub handed_kept : (s t : Standing) (old new : ReplicaState) (book : Book) (next : Option Next) (nodes i most : ℕ) → t ≡ s → i < length old.members
    → new ≡ record old { members = slice_set old.members i (handed_member most (slice_index_or old.members i nobody)) } → IsKept s old book next nodes → IsKept t new book next nodes
handed_kept s t old new book next nodes i most same there is k = subst (λ (x : Standing). IsKept x new book next nodes) (sym same) record {
  level = handed_level s old new i most there is k.level;
  order = members_order s old new book (jobs_next next) _ is (length-set old.members i (handed_member most (slice_index_or old.members i nobody))) k.order;
  next_is = k.next_is;
  owed = k.owed ∙ sym (ap (λ (x : ReplicaState). length x.owed) is);
  owing = set_owing s old new (jobs_next next) i _ there is refl k.owing;
  accounts = set_accounts book.node old new book.held i _ there is refl k.accounts;
  fallen = still_fallen s old new next (ap (λ (x : ReplicaState). x.down) is) (ap (λ (x : ReplicaState). x.waiting) is)
      (ap (λ (x : ReplicaState). x.refused) is) k.fallen;
}

-- its next entry is refused
refusing_up : (s : Standing) (old new : ReplicaState) (book : Book) (next : Option Next) (nodes : ℕ) → old.down ≡ false
    → new ≡ record old { refused = true } → IsKept s old book next nodes → IsKept s new book next nodes
refusing_up s old new book next nodes up is k = subst (λ (r : ReplicaState). IsKept s r book next nodes) (sym is) record {
  level = record { node = k.level.node; named = k.level.named; opened = k.level.opened; server = k.level.server; applied = k.level.applied; behind = k.level.behind; whole = k.level.whole };
  order = record {
    book_is = k.order.book_is;
    own = k.order.own;
    numbered = k.order.numbered;
    taken = k.order.taken;
    unopened = k.order.unopened;
    closed = k.order.closed;
    reads = k.order.reads;
    entries = k.order.entries;
    passed = k.order.passed;
    met = k.order.met;
  };
  next_is = k.next_is;
  owed = k.owed;
  owing = k.owing;
  accounts = k.accounts;
  fallen = λ down. absurd (cc (up, down));
}

pub refusing_kept : (s : Standing) (old new : ReplicaState) (book : Book) (next : Option Next) (nodes : ℕ) → new ≡ cond old.down old (record old { refused = true })
    → IsKept s old book next nodes → IsKept s new book next nodes
refusing_kept s old new book next nodes is k = elim (cases_Bool old.down) [
  | inl down ↦ subst (λ (r : ReplicaState). IsKept s r book next nodes) (sym (is ∙ ap (λ (b : Bool). cond b old (record old { refused = true })) down)) k
  | inr up ↦ refusing_up s old new book next nodes up (is ∙ ap (λ (b : Bool). cond b old (record old { refused = true })) up) k
]

refusing_by : (down : Bool) (n : NodeState)
    → record n { replica = cond down n.replica (record n.replica { refused = true }) } ≡ cond down n (record n { replica = record n.replica { refused = true } })
refusing_by true n = refl
refusing_by false n = refl

pub refusing_is : (n : NodeState) (r : ReplicaState) → r ≡ cond n.replica.down n.replica (record n.replica { refused = true }) → record n { replica = r } ≡ refusing_node n
refusing_is n r is = ap (λ (x : ReplicaState). record n { replica = x }) is ∙ refusing_by n.replica.down n

-- its jobs are owed
lifted_owing : (s : Standing) (old : ReplicaState) (next jobs : List Job) (worker : ℕ) → worker < length old.owed → slice_index_or old.owed worker None ≡ None
    → AllByRecursion (IsServedBy worker old.members) (items_of jobs) → IsOwing old.members old.owed (unexecuted s next old.waiting)
    → IsOwing old.members (slice_set old.owed worker (Some (length jobs))) (unexecuted s next (old.waiting ++ jobs))
lifted_owing s old next jobs worker within idle served o =
    let before = jobs_reserved (unpassed s) in
    let items = items_of jobs in
    let behind : unexecuted s next old.waiting ++ items ≡ unexecuted s next (old.waiting ++ jobs) =
    append_assoc before (items_of next ++ items_of old.waiting) items
    ∙ ap (λ (js : Jobs). before ++ js) (append_assoc (items_of next) (items_of old.waiting) items
    ∙ ap (λ (js : Jobs). items_of next ++ js) (sym (map-append item_of old.waiting jobs))) in
    let count : length items ≡ length jobs = length-map jobs item_of in
    subst (λ (k : ℕ). IsOwing old.members (slice_set old.owed worker (Some k)) (unexecuted s next (old.waiting ++ jobs))) count
    (subst (IsOwing old.members (slice_set old.owed worker (Some (length items)))) behind
    (batch_owing old.members old.owed (unexecuted s next old.waiting) items worker within idle served o))

pub batch_served : (s : Standing) (old : ReplicaState) (book : Book) (next : List Job) (batch : Batch) → refusal_of book batch ≡ None → IsInOrder s old book next
    → HasAccounts book.node old.members book.held
    → AllByRecursion (IsServedBy batch.worker old.members) (items_of batch.jobs.items) × HasAccounts book.node old.members (taken_all book.held (items_of batch.jobs.items))
batch_served s old book next batch due o has =
    all_served book.node batch.worker old.members book.held (items_of batch.jobs.items)
    (all_of_due book batch.node batch.worker batch.number (items_of batch.jobs.items) due) has

-- a batch was taken
pub batch_kept : (s : Standing) (old new : ReplicaState) (book : Book) (next : Option Next) (nodes : ℕ) (batch : Batch) → refusal_of book batch ≡ None
    → batch.worker < length book.last → slice_index_or old.owed batch.worker None ≡ None → old.down ≡ false
    → new ≡ record old { waiting = old.waiting ++ batch.jobs.items; owed = slice_set old.owed batch.worker (Some (length batch.jobs.items)) }
    → ((jobs : Jobs) → HasTaken book jobs → HasTaken (with_batch batch book) (jobs ++ items_of batch.jobs.items))
    → IsKept s old book next nodes → IsKept s new (with_batch batch book) next nodes
batch_kept s old new book next nodes batch due within idle was is counts k = record {
  level = same_level s s old new refl refl (ap (λ (x : ReplicaState). x.node) is) (ap (λ (x : ReplicaState). x.members) is) (ap (λ (x : ReplicaState). x.down) is)
      (ap (λ (x : ReplicaState). x.server) is) (ap (λ (x : ReplicaState). x.applied) is) k.level;
  order = batch_order s old new book (jobs_next next) batch due (ap (λ (x : ReplicaState). x.members) is) (ap (λ (x : ReplicaState). x.waiting) is) counts k.order;
  next_is = k.next_is;
  owed = length-set book.last batch.worker (Some batch.number) ∙ k.owed ∙ sym (ap (λ (x : ReplicaState). length x.owed) is
      ∙ length-set old.owed batch.worker (Some (length batch.jobs.items)));
  owing = λ up. subst (λ (r : ReplicaState). IsOwing r.members r.owed (unexecuted s (jobs_next next) r.waiting)) (sym is)
      (lifted_owing s old (jobs_next next) batch.jobs.items batch.worker (subst (λ (n : ℕ). batch.worker < n) k.owed within) idle
      (batch_served s old book (jobs_next next) batch due k.order k.accounts).0 (k.owing (sym (ap (λ (x : ReplicaState). x.down) is) ∙ up)));
  accounts = subst (λ (ms : List Member). HasAccounts book.node ms (taken_all book.held (items_of batch.jobs.items))) (sym (ap (λ (x : ReplicaState). x.members) is))
      (batch_served s old book (jobs_next next) batch due k.order k.accounts).1;
  fallen = λ down. absurd (cc (was, sym (ap (λ (x : ReplicaState). x.down) is) ∙ down));
}

-- where a batch is answered none of its jobs is owed, unless the replica is down
pub none_owed_by : (owed : Option ℕ) (down : Bool) (outcome : Outcome) → answer_by owed down ≡ Some outcome → down ≡ false → count_owed owed ≡ 0
none_owed_by None down outcome e up = refl
none_owed_by (Some count) true outcome e up = absurd (cc up)
none_owed_by (Some zero) false outcome e up = refl
none_owed_by (Some (suc count)) false outcome e up = absurd (cc e)

pub executed_up : (owed : Option ℕ) (down : Bool) → answer_by owed down ≡ Some outcomes.Executed → down ≡ false
executed_up None down e = absurd (cc e)
executed_up (Some count) true e = absurd (cc e)
executed_up (Some count) false e = refl

-- the batch that was taken last from a worker is answered
pub answered_kept : (s : Standing) (old new : ReplicaState) (book : Book) (next : Option Next) (nodes worker : ℕ) → new ≡ record old { owed = slice_set old.owed worker None }
    → (old.down ≡ false → count_owed (slice_index_or old.owed worker None) ≡ 0) → IsKept s old book next nodes → IsKept s new book next nodes
answered_kept s old new book next nodes worker is none k = record {
  level = same_level s s old new refl refl (ap (λ (x : ReplicaState). x.node) is) (ap (λ (x : ReplicaState). x.members) is) (ap (λ (x : ReplicaState). x.down) is)
      (ap (λ (x : ReplicaState). x.server) is) (ap (λ (x : ReplicaState). x.applied) is) k.level;
  order = owed_order s old new book (jobs_next next) (slice_set old.owed worker None) is k.order;
  next_is = k.next_is;
  owed = k.owed ∙ sym (ap (λ (x : ReplicaState). length x.owed) is ∙ length-set old.owed worker None);
  owing = λ up.
      let was = sym (ap (λ (x : ReplicaState). x.down) is) ∙ up in
      subst (λ (r : ReplicaState). IsOwing r.members r.owed (unexecuted s (jobs_next next) r.waiting)) (sym is)
      (answered_owing old.members old.owed (unexecuted s (jobs_next next) old.waiting) worker (none was) (k.owing was));
  accounts = subst (λ (ms : List Member). HasAccounts book.node ms book.held) (sym (ap (λ (x : ReplicaState). x.members) is)) k.accounts;
  fallen = still_fallen s old new next (ap (λ (x : ReplicaState). x.down) is) (ap (λ (x : ReplicaState). x.waiting) is)
      (ap (λ (x : ReplicaState). x.refused) is) k.fallen;
}

-- none of the worker's jobs is left where it is owed none
no_jobs : {A : Type 0} (xs : List A) → length xs ≡ 0 → xs ≡ []
no_jobs [] none = refl
no_jobs (x ∷ xs) none = absurd (omega (arith, none))

-- each job that was taken from the worker's connections is in the record
pub all_executed : (n : NodeState) (next : Option Next) (nodes worker : ℕ) → n.replica.down ≡ false → count_owed (slice_index_or n.replica.owed worker None) ≡ 0
    → IsKept n.seat.standing n.replica n.book next nodes → n.next ≡ jobs_next next → HasAllExecuted worker n
all_executed n next nodes worker up none k is = record {
  none = ap (λ (js : List Job). jobs_of_worker worker n.replica.members (unexecuted n.seat.standing js n.replica.waiting)) is
      ∙ no_jobs (jobs_of_worker worker n.replica.members (unexecuted n.seat.standing (jobs_next next) n.replica.waiting)) (sym ((k.owing up).counts worker) ∙ none);
  executed = λ serial a at own. elim (lt_or_le serial (length n.replica.members)) [
    | inl below ↦
        let s = n.seat.standing in
        let r = n.replica in
        let rest = unexecuted s (jobs_next next) r.waiting in
        let d = connection_at n.book.node serial in
        let of_worker : worker_of r.members d ≡ worker = sym (k.accounts serial a at).1 ∙ own in
        let taken : numbers_in d (all_jobs s (jobs_next next) r.waiting) ≡ range_with_len 0 a.next =
        subst (λ (o : Option Account). CountsTo (λ (a : Account). a.next) o (numbers_in d (all_jobs s (jobs_next next) r.waiting))) at (k.order.taken serial) in
        let no_more : numbers_in d rest ≡ [] = none_numbered worker r.members d rest of_worker (sym ((k.owing up).counts worker) ∙ none) in
        let apart : all_jobs s (jobs_next next) r.waiting ≡ record_of s.history ++ rest =
        append_assoc (record_of s.history) (jobs_reserved (unpassed s)) (items_of (jobs_next next) ++ items_of r.waiting) in
        let front : numbers_in d (all_jobs s (jobs_next next) r.waiting) ≡ numbers_in d (record_of s.history) =
        ap (numbers_in d) apart ∙ numbers-append d (record_of s.history) rest ∙ ap (λ (ns : List ℕ). numbers_in d (record_of s.history) ++ ns) no_more
        ∙ append-nil (numbers_in d (record_of s.history)) in
        sym front ∙ taken
    | inr past ↦ absurd (cc (at, k.order.closed serial past))
  ];
}

-- and stays there once its batch is answered
pub executed_still : (n : NodeState) (worker : ℕ) (r : ReplicaState) → r ≡ record n.replica { owed = slice_set n.replica.owed worker None } → HasAllExecuted worker n
    → HasAllExecuted worker (record n { replica = r })
executed_still n worker r is all =
    let after : HasAllExecuted worker (answered_node worker n) = record { none = all.none; executed = all.executed } in
    subst (λ (x : ReplicaState). HasAllExecuted worker (record n { replica = x })) (sym is) after

-- entries were taken in
pub goes_kept : (es : List Entry) (s t : Standing) (old new : ReplicaState) (book later : Book) (next after : Option Next) (nodes : ℕ)
    → GoesOn es s t old new next after book later → IsKept s old book next nodes → IsKept t new later after nodes
goes_kept es s t old new book later next after nodes g k = record {
  level = g.level k.level;
  order = g.order k.order;
  next_is = elim g.after_is [
    | inl none ↦ subst (IsNextOf t.node nodes) (sym none) tt
    | inr same ↦ subst (IsNextOf t.node nodes) (sym same) (subst (λ (n : ℕ). IsNextOf n nodes next) (sym (ap (λ (x : Standing). x.node) g.passed.standing)) k.next_is)
  ];
  owed = ap length (g.closed k.order).last ∙ k.owed ∙ sym (as_many new.owed old.owed g.owed);
  owing = λ up. g.owing k.level up (k.owing (g.up up).0);
  accounts = closed_accounts (record_of t.history) new.members book later (g.closed k.order)
      (workers_accounts book.node old.members new.members book.held g.members g.workers k.accounts);
  fallen = λ down. elim (cases_Bool old.down) [
    | inl was ↦
        let f = k.fallen was in (
          ap (λ (r : ReplicaState). r.waiting) (g.still was) ∙ f.0,
          elim g.after_is [ inl none ↦ ap jobs_next none | inr same ↦ ap jobs_next same ∙ f.1 ],
          ahead_on es s t g.passed g.ahead f.2,
          ap (λ (r : ReplicaState). r.refused) (g.still was) ∙ f.3,
        )
    | inr up ↦ let fell = g.fell up down in (fell.1, ap jobs_next fell.2, g.ahead fell.0, fell.4)
  ];
}

pub read_awaited : (old new : ReplicaState) → HasRead old new → awaited new.owed ≡ awaited old.owed
read_awaited old new read = ap (λ (x : ReplicaState). awaited x.owed) read.state ∙ still_awaited 0 old.members (read_jobs (items_of old.waiting)) old.owed

-- reads that were run are owed no more
noted_owing : (s t : Standing) (ran : List Job) (old new : ReplicaState) → HasNoted ran s t → unpassed s ≡ [] → HasRead old new
    → IsOwing old.members old.owed (unexecuted s [] old.waiting) → IsOwing new.members new.owed (unexecuted t [] new.waiting)
noted_owing s t ran old new noted none read o =
    let waiting = items_of old.waiting in
    let es = emitted_all old.server (read_jobs waiting) in
    let here = subst (λ (rs : List (ℕ × Entry)). IsOwing old.members old.owed (jobs_reserved rs ++ waiting)) none o in
    let less = workers_owing old.members new.members (owed_from 0 old.members (read_jobs waiting) old.owed) (left_by_reads waiting) (length_read old new read)
    (received_workers (λ c. texts_for c es) old.members new.members read.delivered) (read_owing old.members old.owed waiting here) in
    let owed : owed_from 0 old.members (read_jobs waiting) old.owed ≡ new.owed = sym (ap (λ (x : ReplicaState). x.owed) read.state) in
    let jobs : left_by_reads waiting ≡ unexecuted t [] new.waiting =
    λ i. jobs_reserved (sym (unpassed_noted s t ran noted none) i) ++ sym read.left i in
    subst (IsOwing new.members new.owed) jobs (subst (λ (os : List (Option ℕ)). IsOwing new.members os (left_by_reads waiting)) owed less)

-- what holds of a node between two calls
abbrev pub IsWithin : Standing → ReplicaState → Book → Option Next → ℕ → Type 0
IsWithin s replica book next nodes = IsKept s replica book next nodes × (s.held ≡ None) × IsAllFilled s × (nodes ≡ s.nodes) × (0 < nodes)

pub goes_within : (es : List Entry) (s t : Standing) (old new : ReplicaState) (book later : Book) (next after : Option Next) (nodes : ℕ)
    → GoesOn es s t old new next after book later → t.held ≡ None → IsWithin s old book next nodes → IsWithin t new later after nodes
goes_within es s t old new book later next after nodes g idle w = (
  goes_kept es s t old new book later next after nodes g w.0,
  idle,
  λ node. ap (λ (x : Standing). slice_index_or x.unfilled node None) g.passed.standing ∙ w.2 node,
  w.3 ∙ sym (ap (λ (x : Standing). x.nodes) g.passed.standing),
  w.4,
)

-- it stands by: the tail was loaded
pub stood_within : (s t : Standing) (replica : ReplicaState) (book : Book) (next : Option Next) (nodes : ℕ) → LooksOn s t → IsWithin s replica book next nodes
    → IsWithin t replica book next nodes
stood_within s t replica book next nodes on w =
    goes_within [] s t replica replica book book next next nodes (goes_tail s t replica next book on) (ap (λ (x : Standing). x.held) on.1 ∙ w.1) w

-- the reads that led were run
pub noted_kept : (s t : Standing) (ran : List Job) (old new : ReplicaState) (book : Book) (next : Option Next) (nodes : ℕ) → HasNoted ran s t → unpassed s ≡ []
    → HasRead old new → items_of ran ≡ read_jobs (items_of old.waiting) → old.down ≡ false → next ≡ None → IsKept s old book next nodes → IsKept t new book next nodes
noted_kept s t ran old new book next nodes noted none read ran_is up is k =
    let here = subst (λ (n : Option Next). IsKept s old book n nodes) is k in
    subst (λ (n : Option Next). IsKept t new book n nodes) (sym is) record {
      level = noted_level s t ran old new noted read ran_is up here.level;
      order = noted_order s t ran old new book noted none read ran_is here.order;
      next_is = tt;
      owed = here.owed ∙ sym (as_many new.owed old.owed (read_awaited old new read));
      owing = λ _. noted_owing s t ran old new noted none read (here.owing up);
      accounts = workers_accounts book.node old.members new.members book.held (length_read old new read)
          (received_workers (λ c. texts_for c (emitted_all old.server (read_jobs (items_of old.waiting)))) old.members new.members read.delivered) here.accounts;
      fallen = λ down. absurd (cc (up, sym (ap (λ (x : ReplicaState). x.down) read.state) ∙ down));
    }

-- what holds of what is there
-- reads couldn't be run, and nothing changed
pub failed_within : (es : List Entry) (s : Standing) (t u : LogView) (old mid new : ReplicaState) (book later : Book) (next after : Option Next) (nodes : ℕ)
    → GoesOn es s t.standing old mid next after book later → t.standing.held ≡ None → u ≡ t → new ≡ mid → IsWithin s old book next nodes
    → IsWithin u.standing new later after nodes
failed_within es s t u old mid new book later next after nodes g idle end replica w =
    subst (λ (v : LogView). IsWithin v.standing new later after nodes) (sym end)
    (subst (λ (r : ReplicaState). IsWithin t.standing r later after nodes) (sym replica) (goes_within es s t.standing old mid book later next after nodes g idle w))

-- reads were run behind all that was reserved
pub noted_within : (es : List Entry) (s t u : Standing) (ran : List Job) (old mid new : ReplicaState) (book later : Book) (next after : Option Next) (nodes : ℕ)
    → GoesOn es s t old mid next after book later → t.held ≡ None → (t.seen ≤ passed_of t) × StandsInLog t → HasNoted ran t u → HasRead mid new
    → items_of ran ≡ read_jobs (items_of mid.waiting) → mid.down ≡ false → after ≡ None → IsWithin s old book next nodes → IsWithin u new later after nodes
noted_within es s t u ran old mid new book later next after nodes g idle all noted read ran_is up is w =
    let here = goes_within es s t old mid book later next after nodes g idle w in
    let none = none_unpassed t all.1 idle all.0 here.0.order.met in (
      noted_kept t u ran mid new later after nodes noted none read ran_is up is here.0,
      ap (λ (x : Standing). x.held) noted.standing ∙ idle,
      λ node. ap (λ (x : Standing). slice_index_or x.unfilled node None) noted.standing ∙ here.2 node,
      here.3 ∙ sym (ap (λ (x : Standing). x.nodes) noted.standing),
      here.4,
    )

-- an entry was reserved, or its shares came back
pub reserved_within : (s t : Standing) (at : ℕ) (e : Entry) (old new : ReplicaState) (book : Book) (next after : Option Next) (nodes : ℕ)
    → IsReserved at (shares_of e s.nodes) s t → AreTaken e.jobs.items next old after new → old.down ≡ false → IsAllFilled t → IsWithin s old book next nodes
    → IsWithin t new book after nodes
reserved_within s t at e old new book next after nodes reserved taken up filled w = (
  reserved_kept s t at e old new book next after nodes (subst (λ (n : ℕ). 0 < n) w.3 w.4) reserved taken up w.0,
  ap (λ (x : Standing). x.held) reserved.standing ∙ w.1,
  filled,
  w.3 ∙ sym (ap (λ (x : Standing). x.nodes) reserved.standing),
  w.4,
)

pub back_within : (s t : Standing) (e : Entry) (old new : ReplicaState) (book : Book) (next between : Option Next) (shares back : List (Option Entry)) (nodes : ℕ)
    → HasMet s t → AreTaken e.jobs.items next old between new → shares ≡ shares_of e nodes → back ≡ shares → e.node ≡ old.node → IsAllFilled t
    → IsWithin s old book next nodes → IsWithin t new book (Some (forms.Shared back)) nodes
back_within s t e old new book next between shares back nodes met taken are is own filled w = (
  back_kept s t e old new book next between shares back nodes w.4 met taken are is (own ∙ sym w.0.level.node) w.0,
  ap (λ (x : Standing). x.held) met.standing ∙ w.1,
  filled,
  w.3 ∙ sym (ap (λ (x : Standing). x.nodes) met.standing),
  w.4,
)

pub some_is : {A : Type 0} (P : A → Type 0) (o : Option A) (x : A) → o ≡ Some x → IfSome o P → P x
some_is P o x is h = subst (λ (a : Option _). IfSome a P) is h

pub none_is : {A : Type 0} (P : Type 0) (o : Option A) → o ≡ None → IfNone o P → P
none_is P o is h = subst (λ (a : Option _). IfNone a P) is h

-- what holds anyhow holds where there is an error
pub err_anyhow : {T E : Type 0} (P : Type 0) (r : Result T E) → P → OnErr r P
err_anyhow P (Ok x) p = tt
err_anyhow P (Err e) p = p

pub whole_taken : (e : Entry) (next after : Option Next) (old new : ReplicaState) → after ≡ None → new ≡ old → jobs_next next ≡ e.jobs.items → AreTaken e.jobs.items next old after new
whole_taken e next after old new gone same is = subst (AreTaken e.jobs.items next old after) (sym same) (kept_taken e next after old gone is)

pub forgotten_book : (b mid last : Book) (n m : ℕ) (a : Account) → mid ≡ record b { held = finmap.insert b.held n a } → last ≡ record mid { held = finmap.remove mid.held n }
    → n ≡ m → finmap.get b.held m ≡ None → last ≡ b
forgotten_book b mid last n m a put took same none =
    took ∙ ap (λ (x : Book). record x { held = finmap.remove x.held n }) put
    ∙ ap (λ (h : Held). record b { held = h }) (forgotten b.held n a (ap (finmap.get b.held) same ∙ none))

-- nothing waits: nothing is handed out
drop_none : {A : Type 0} (n : ℕ) → drop {A = A} n [] ≡ []
drop_none zero = refl
drop_none (suc n) = refl

take_none : {A : Type 0} (n : ℕ) → take {A = A} n [] ≡ []
take_none zero = refl
take_none (suc n) = refl

handed_none : (most : ℕ) (m : Member) → m.outbox.waiting ≡ [] → handed_member most m ≡ m
handed_none most m none =
    let waiting : drop most m.outbox.waiting ≡ m.outbox.waiting = ap (drop most) none ∙ drop_none most ∙ sym none in
    let no_more : length (take most m.outbox.waiting) ≡ 0 = ap length (ap (take most) none ∙ take_none most) in
    let handed : m.outbox.handed + length (take most m.outbox.waiting) ≡ m.outbox.handed = omega (arith, no_more) in
    λ i. record m { outbox = record m.outbox { waiting = waiting i; handed = handed i } }

set_same : (xs : List Member) (i : ℕ) (d : Member) → slice_set xs i (slice_index_or xs i d) ≡ xs
set_same [] i d = refl
set_same (x ∷ xs) zero d = refl
set_same (x ∷ xs) (suc i) d = ap (λ (ys : List Member). x ∷ ys) (set_same xs i d)

pub none_handed : (old new : ReplicaState) (i most : ℕ) → new ≡ record old { members = slice_set old.members i (handed_member most (slice_index_or old.members i nobody)) }
    → (slice_index_or old.members i nobody).outbox.waiting ≡ [] → new ≡ old
none_handed old new i most is none =
    is ∙ ap (λ (ms : List Member). record old { members = ms })
    (ap (slice_set old.members i) (handed_none most (slice_index_or old.members i nobody) none) ∙ set_same old.members i nobody)

-- a piece of what waits is of the record
pub piece_is : (n : NodeState) (c : Connection) (most : ℕ) (piece : Piece) (s : Standing) → IsLevel n.seat.standing n.replica → IsOpened n c → s ≡ n.seat.standing
    → 0 < length piece.bytes.items → connection_of piece.conn ≡ connection_at n.replica.node c.serial → piece.from ≡ (queue_at c.serial n.replica.members).handed
    → piece.bytes.items ≡ take most (queue_at c.serial n.replica.members).waiting → IsPiece n c most piece s
piece_is n c most piece s l opened is some conn from bytes =
    let q = queue_at c.serial n.replica.members in
    let own : connection_at n.seat.standing.node c.serial ≡ c = ap (λ (k : ℕ). connection_at k c.serial) (l.node ∙ sym opened.0) in
    let begins = piece_behind q (emitted_to n.seat.standing c.serial) most (l.behind c.serial opened.1) in
    let text : drop q.handed (emitted_to n.seat.standing c.serial) ≡ drop piece.from (emitted_for c (record_of s.history)) =
    λ i. drop (sym from i) (emitted_for (own i) (record_of (sym is i).history)) in
    record {
      opened = opened;
      connection = conn ∙ ap (λ (k : ℕ). connection_at k c.serial) (sym opened.0);
      from = from;
      bytes = bytes;
      some = some;
      record_is = is;
      node = opened.0 ∙ sym l.node ∙ ap (λ (x : Standing). x.node) (sym is);
      emitted = subst (λ (bs : Bytes). IsBeginningOf bs (drop piece.from (emitted_for c (record_of s.history)))) (sym bytes)
          (subst (IsBeginningOf (take most q.waiting)) text begins);
    }

pub led_on : (e : Entry) (next after : Option Next) (old mid new : ReplicaState) → new ≡ mid → AreTaken e.jobs.items next old after mid → AreTaken e.jobs.items next old after new
led_on e next after old mid new same taken = subst (AreTaken e.jobs.items next old after) (sym same) taken
