-- What a node owes its workers, where jobs are executed, go on waiting, or are taken.
use Rattle.std.proofs.Common.{◌≡◌, ℕ, zero, suc, ◌+◌, ◌-◌, ◌<◌, inl, inr, Bool, true, false, cond, List, [], ◌∷◌, ◌++◌, length, map, refl, ap, sym, ◌∙◌, subst, append_assoc, arith, eqb, slice_set}
use Rattle.std.specs.Prelude.{◌≢◌, ◌==◌, slice_index_or, Option, Some, None, is_some, filter, replicate}
use Rattle.std.specs.List.{AllByRecursion}
use Rattle.std.specs.FinMap as finmap
use Rattle.std.proofs.lemmas.Bool.{cases_Bool, and_parts, eq-eqb, eqb-true, eqb-false, ne_eqb}
use Rattle.std.proofs.lemmas.Bool.Decides.{eqb_tells}
use Rattle.std.proofs.lemmas.List.{length-append, length-map, get_or_append_left, get_or_at, get_or-set_same, get_or-set_other}
use Rattle.std.proofs.lemmas.List.Elements.{filter-append}
use Rattle.nr_model.specs.Items.{Connection, Item, same_connection}
use Rattle.nr_model.specs.Entries.{Jobs, read_jobs, left_by_reads}
use Rattle.nr_model.proofs.JobLists.{All-append, same_is}
use Rattle.nr_model.proofs.NodesExecutedLists.{entry_parts, reads_parts}
use Rattle.nr_model.proofs.NodesOwnLists.{All-weaker, All-entry, All-left_by_entry, All-left_by_reads, none_own}
use Rattle.nr_entry.specs.Jobs.{items_of}
use Rattle.nr_entry.specs.declared.job.Job.{Job}
use Rattle.nr_job_numbers.specs.declared.account.Account.{Account}
use Rattle.nr_job_numbers.specs.Account.{fresh_account, is_of, is_next, taken}
use Rattle.nr_job_numbers.specs.Stored.{Held, numbers_in, takes_by, takes_all, taken_all, takes_one, taken_one}
use Rattle.nr_job_numbers.proofs.Steps.{found, put_here}
use Rattle.nr_job_numbers.proofs.Strangers.{put_elsewhere, once_taken}
use Rattle.nr_model.specs.Bytes.{Bytes}
use Rattle.nr_replica.specs.Members.{Member, fresh_member, AreReceived, worker_of, jobs_of_worker}
use Rattle.nr_replica.specs.Replicas.{owing_less, owed_from}
use Rattle.nr_node.specs.Level.{connection_at}
use Rattle.nr_node.specs.Owing.{AreOpened, count_owed, awaited, IsOwing, IsServedBy, HasAccounts}
use Rattle.nr_node.specs.Reserved.{due_jobs, left_jobs}
use Rattle.nr_node.specs.Steps.{nobody}

-- how many jobs of a worker there are among these
abbrev pub many : ℕ → List Member → Jobs → ℕ
many w members jobs = length (jobs_of_worker w members jobs)

abbrev is_of_worker : ℕ → List Member → Item → Bool
is_of_worker w members job = worker_of members job.connection == w

pub many-append : (w : ℕ) (members : List Member) (xs ys : Jobs) → many w members (xs ++ ys) ≡ many w members xs + many w members ys
many-append w members xs ys = ap length (filter-append (is_of_worker w members) xs ys) ∙ length-append (jobs_of_worker w members xs) (jobs_of_worker w members ys)

-- all of two parts
pub all_front : {A : Type 0} (P : A → Type 0) (xs ys : List A) → AllByRecursion P (xs ++ ys) → AllByRecursion P xs
all_front P [] ys all = tt
all_front P (x ∷ xs) ys all = (all.0, all_front P xs ys all.1)

pub all_back : {A : Type 0} (P : A → Type 0) (xs ys : List A) → AllByRecursion P (xs ++ ys) → AllByRecursion P ys
all_back P [] ys all = all
all_back P (x ∷ xs) ys all = all_back P xs ys all.1

-- the connections are as many, and of the same workers
pub workers_owing : (members news : List Member) (owed : List (Option ℕ)) (jobs : Jobs) → length news ≡ length members
    → ((c : Connection) → worker_of news c ≡ worker_of members c) → IsOwing members owed jobs → IsOwing news owed jobs
workers_owing members news owed jobs long same o = record {
  opened = subst (λ (n : ℕ). AreOpened n jobs) (sym long) o.opened;
  counts = λ w. o.counts w ∙ (λ i. length (filter (λ (job : Item). sym (same job.connection) i == w) jobs));
}

pub workers_accounts : (node : ℕ) (members news : List Member) (held : Held) → length news ≡ length members
    → ((c : Connection) → worker_of news c ≡ worker_of members c) → HasAccounts node members held → HasAccounts node news held
workers_accounts node members news held long same has serial account at =
    let a = has serial account at in
    (omega (arith, long, a.0), a.1 ∙ sym (same (connection_at node serial)))

-- the same workers wait for an answer
pub still_awaited : (w : ℕ) (members : List Member) (jobs : Jobs) (owed : List (Option ℕ)) → awaited (owed_from w members jobs owed) ≡ awaited owed
still_awaited w members jobs [] = refl
still_awaited w members jobs (None ∷ owed) = ap (λ (bs : List Bool). false ∷ bs) (still_awaited (suc w) members jobs owed)
still_awaited w members jobs (Some count ∷ owed) = ap (λ (bs : List Bool). true ∷ bs) (still_awaited (suc w) members jobs owed)

pub still_awaited_if : (own : Bool) (members : List Member) (jobs : Jobs) (owed : List (Option ℕ)) → awaited (cond own (owed_from 0 members jobs owed) owed) ≡ awaited owed
still_awaited_if true members jobs owed = still_awaited 0 members jobs owed
still_awaited_if false members jobs owed = refl

pub as_many : (new old : List (Option ℕ)) → awaited new ≡ awaited old → length new ≡ length old
as_many new old same = sym (length-map new is_some) ∙ ap length same ∙ length-map old is_some

idle_as : (one other : Option ℕ) → is_some one ≡ is_some other → other ≡ None → one ≡ None
idle_as None other same idle = refl
idle_as (Some count) other same idle = absurd (cc (same, ap is_some idle))

-- one that waited for none waits for none
pub still_idle : (new old : List (Option ℕ)) (worker : ℕ) → awaited new ≡ awaited old → slice_index_or old worker None ≡ None → slice_index_or new worker None ≡ None
still_idle [] old worker same idle = refl
still_idle (one ∷ new) [] worker same idle = absurd (cc same)
still_idle (one ∷ new) (other ∷ old) zero same idle = idle_as one other (cc same) idle
still_idle (one ∷ new) (other ∷ old) (suc worker) same idle = still_idle new old worker (cc same) idle

-- nobody is owed anything
none_owed : (workers w : ℕ) → count_owed (slice_index_or (replicate workers None) w None) ≡ 0
none_owed zero w = refl
none_owed (suc workers) zero = refl
none_owed (suc workers) (suc w) = none_owed workers w

pub fresh_owing : (workers : ℕ) → IsOwing [] (replicate workers None) []
fresh_owing workers = record { opened = tt; counts = λ w. none_owed workers w }

-- the jobs that are due, and those that are left behind them
due_many : (w : ℕ) (members : List Member) (next waiting : List Job)
    → many w members (due_jobs next waiting) + many w members (left_jobs next waiting) ≡ many w members (items_of next) + many w members (items_of waiting)
due_many w members [] waiting =
    let parts = (entry_parts (items_of waiting)).counts (is_of_worker w members) in
    omega (arith, parts)
due_many w members (job ∷ next) waiting = refl

due_opened : (n : ℕ) (next waiting : List Job) → AreOpened n (items_of next) → AreOpened n (items_of waiting)
    → AreOpened n (due_jobs next waiting) × AreOpened n (left_jobs next waiting)
due_opened n [] waiting first last =
    let P = λ (job : Item). job.connection.serial < n in
    (All-entry P (items_of waiting) last, All-left_by_entry P (items_of waiting) last)
due_opened n (job ∷ next) waiting first last = (first, last)

-- what is due goes on, in front of what is left
pub due_owing : (members : List Member) (owed : List (Option ℕ)) (before : Jobs) (next waiting : List Job) → IsOwing members owed (before ++ (items_of next ++ items_of waiting))
    → IsOwing members owed (before ++ (due_jobs next waiting ++ left_jobs next waiting))
due_owing members owed before next waiting o =
    let P = λ (job : Item). job.connection.serial < length members in
    let due = due_jobs next waiting in
    let left = left_jobs next waiting in
    let behind = all_back P before (items_of next ++ items_of waiting) o.opened in
    let both = due_opened (length members) next waiting (all_front P (items_of next) (items_of waiting) behind) (all_back P (items_of next) (items_of waiting) behind) in
    record {
      opened = All-append P before (due ++ left) (all_front P before (items_of next ++ items_of waiting) o.opened) (All-append P due left both.0 both.1);
      counts = λ w.
          let had = o.counts w in
          let whole = many-append w members before (items_of next ++ items_of waiting) in
          let parts = many-append w members (items_of next) (items_of waiting) in
          let now = many-append w members before (due ++ left) in
          let now_parts = many-append w members due left in
          let same = due_many w members next waiting in
          omega (arith, had, whole, parts, now, now_parts, same);
    }

-- jobs are executed: they are owed no more
count_less : (n : ℕ) (owed : Option ℕ) → count_owed (owing_less n owed) ≡ count_owed owed - n
count_less n None = omega arith
count_less n (Some count) = refl

owed_at : (v w : ℕ) (members : List Member) (jobs : Jobs) (owed : List (Option ℕ))
    → slice_index_or (owed_from v members jobs owed) w None ≡ owing_less (many (v + w) members jobs) (slice_index_or owed w None)
owed_at v w members jobs [] = refl
owed_at v zero members jobs (one ∷ owed) =
    let same : v ≡ v + 0 = omega arith in
    ap (λ (k : ℕ). owing_less (many k members jobs) one) same
owed_at v (suc w) members jobs (one ∷ owed) =
    let same : suc v + w ≡ v + suc w = omega arith in
    owed_at (suc v) w members jobs owed ∙ ap (λ (k : ℕ). owing_less (many k members jobs) (slice_index_or owed w None)) same

pub less_owing : (members : List Member) (owed : List (Option ℕ)) (jobs gone left : Jobs)
    → ((w : ℕ) → many w members jobs ≡ many w members gone + many w members left) → AreOpened (length members) left
    → IsOwing members owed jobs → IsOwing members (owed_from 0 members gone owed) left
less_owing members owed jobs gone left apart opened o = record {
  opened = opened;
  counts = λ w.
      let first : 0 + w ≡ w = omega arith in
      let at = owed_at 0 w members gone owed ∙ ap (λ (k : ℕ). owing_less (many k members gone) (slice_index_or owed w None)) first in
      let less = ap count_owed at ∙ count_less (many w members gone) (slice_index_or owed w None) in
      let had = o.counts w in
      let parts = apart w in
      omega (arith, less, had, parts);
}

-- an entry is passed: those of an own one are the first that aren't executed
pub passed_owing : (own : Bool) (members : List Member) (owed : List (Option ℕ)) (items later rest : Jobs) → IsOwing members owed (cond own (items ++ later) later ++ rest)
    → IsOwing members (cond own (owed_from 0 members items owed) owed) (later ++ rest)
passed_owing true members owed items later rest o =
    let same = append_assoc items later rest in
    less_owing members owed ((items ++ later) ++ rest) items (later ++ rest) (λ w. ap (many w members) same ∙ many-append w members items (later ++ rest))
    (all_back (λ (job : Item). job.connection.serial < length members) items (later ++ rest) (subst (AreOpened (length members)) same o.opened)) o
passed_owing false members owed items later rest o = o

-- the reads that lead are run
pub read_owing : (members : List Member) (owed : List (Option ℕ)) (waiting : Jobs) → IsOwing members owed waiting
    → IsOwing members (owed_from 0 members (read_jobs waiting) owed) (left_by_reads waiting)
read_owing members owed waiting o =
    less_owing members owed waiting (read_jobs waiting) (left_by_reads waiting) (λ w. (reads_parts waiting).counts (is_of_worker w members))
    (All-left_by_reads (λ (job : Item). job.connection.serial < length members) waiting o.opened) o

-- what is received changes no worker
received_worker : (texts : Connection → List Bytes) (olds news : List Member) → AreReceived texts olds news → (serial : ℕ) (d : Member)
    → (slice_index_or news serial d).worker ≡ (slice_index_or olds serial d).worker
received_worker texts [] [] r serial d = refl
received_worker texts [] (new ∷ news) r serial d = absurd r
received_worker texts (old ∷ olds) [] r serial d = absurd r
received_worker texts (old ∷ olds) (new ∷ news) r zero d = ap (λ (m : Member). m.worker) r.0.1
received_worker texts (old ∷ olds) (new ∷ news) r (suc serial) d = received_worker texts olds news r.1 serial d

pub received_workers : (texts : Connection → List Bytes) (olds news : List Member) → AreReceived texts olds news → (c : Connection) → worker_of news c ≡ worker_of olds c
received_workers texts olds news r c = received_worker texts olds news r c.serial (fresh_member c 0 0)

-- one changed, and is of its worker
set_worker : (members : List Member) (i : ℕ) (m d e : Member) → m.worker ≡ (slice_index_or members i e).worker → i < length members → (serial : ℕ)
    → (slice_index_or (slice_set members i m) serial d).worker ≡ (slice_index_or members serial d).worker
set_worker [] i m d e same there serial = refl
set_worker (one ∷ members) zero m d e same there zero = same
set_worker (one ∷ members) zero m d e same there (suc serial) = refl
set_worker (one ∷ members) (suc i) m d e same there zero = refl
set_worker (one ∷ members) (suc i) m d e same there (suc serial) = set_worker members i m d e same (omega arith) serial

pub set_workers : (members : List Member) (i : ℕ) (m : Member) → i < length members → m.worker ≡ (slice_index_or members i nobody).worker
    → (c : Connection) → worker_of (slice_set members i m) c ≡ worker_of members c
set_workers members i m there same c = set_worker members i m (fresh_member c 0 0) nobody same there c.serial

-- a connection more, of which there is no job
pushed_worker : (members : List Member) (m : Member) (c : Connection) → c.serial < length members → worker_of (members ++ m ∷ []) c ≡ worker_of members c
pushed_worker members m c there = ap (λ (x : Member). x.worker) (get_or_append_left members (m ∷ []) (fresh_member c 0 0) c.serial there)

pushed_many : (w : ℕ) (members : List Member) (m : Member) (jobs : Jobs) → AreOpened (length members) jobs → many w (members ++ m ∷ []) jobs ≡ many w members jobs
pushed_many w members m [] opened = refl
pushed_many w members m (job ∷ jobs) opened =
    many-append w (members ++ m ∷ []) (job ∷ []) jobs
    ∙ (λ i. length (cond (pushed_worker members m job.connection opened.0 i == w) (job ∷ []) []) + pushed_many w members m jobs opened.1 i)
    ∙ sym (many-append w members (job ∷ []) jobs)

pub pushed_owing : (members : List Member) (m : Member) (owed : List (Option ℕ)) (jobs : Jobs) → IsOwing members owed jobs → IsOwing (members ++ m ∷ []) owed jobs
pushed_owing members m owed jobs o = record {
  opened = All-weaker (λ (job : Item). job.connection.serial < length members) (λ (job : Item). job.connection.serial < length (members ++ m ∷ []))
      (λ job below. omega (arith, below, length-append members (m ∷ []))) jobs o.opened;
  counts = λ w. o.counts w ∙ sym (pushed_many w members m jobs o.opened);
}

pub pushed_accounts : (node worker : ℕ) (members : List Member) (m : Member) (held : Held) → m.worker ≡ worker → HasAccounts node members held
    → HasAccounts node (members ++ m ∷ []) (finmap.insert held (length members) (fresh_account worker))
pushed_accounts node worker members m held same has serial account at =
    let n = length members in
    let more = finmap.insert held n (fresh_account worker) in
    let c = connection_at node serial in
    let long = length-append members (m ∷ []) in
    elim (eqb_tells serial n) [
      | inl e ↦
          let is : fresh_account worker ≡ account = cc (sym (ap (finmap.get more) e.1 ∙ put_here held n (fresh_account worker)) ∙ at) in (
            omega (arith, long, e.1),
            sym (ap (λ (x : Account). x.worker) is) ∙ sym same ∙ sym (ap (λ (x : Member). x.worker) (get_or_at members m [] (fresh_member c 0 0) serial (sym e.1))),
          )
      | inr e ↦
          let a = has serial account (sym (put_elsewhere held n serial (fresh_account worker) e.1) ∙ at) in
          (omega (arith, long, a.0), a.1 ∙ sym (pushed_worker members m c a.0))
    ]

-- a job that is taken is of a connection that was opened for the worker
taken_served : (node worker : ℕ) (members : List Member) (held : Held) (job : Item) → takes_one node worker held job ≡ true → HasAccounts node members held
    → IsServedBy worker members job
taken_served node worker members held job e has =
    let f = found node worker held job e in
    let serial = job.connection.serial in
    let own : job.connection.node ≡ node =
    eqb-true job.connection.node node (and_parts (eqb job.connection.node node) (takes_by worker job (finmap.get held serial)) e).0 in
    let a = has serial f.0 f.1 in
    let of_it : f.0.worker ≡ worker = eqb-true f.0.worker worker (and_parts (eqb f.0.worker worker) _ (and_parts (is_of worker f.0) (is_next job f.0) f.2).0).0 in
    (a.0, ap (λ (n : ℕ). worker_of members (connection_at n serial)) own ∙ sym a.1 ∙ of_it)

taken_accounts : (node worker : ℕ) (members : List Member) (held : Held) (job : Item) → takes_one node worker held job ≡ true → HasAccounts node members held
    → HasAccounts node members (taken_one held job)
taken_accounts node worker members held job e has q account at =
    let f = found node worker held job e in
    let serial = job.connection.serial in
    let once : finmap.get (taken_one held job) q ≡ finmap.get (finmap.insert held serial (taken job f.0)) q = ap (λ (h : Held). finmap.get h q) (once_taken held job f.0 f.1) in
    elim (eqb_tells q serial) [
      | inl is ↦
          let here : taken job f.0 ≡ account = cc (sym (once ∙ ap (finmap.get (finmap.insert held serial (taken job f.0))) is.1 ∙ put_here held serial (taken job f.0)) ∙ at) in
          let a = has q f.0 (ap (finmap.get held) is.1 ∙ f.1) in
          (a.0, sym (ap (λ (x : Account). x.worker) here) ∙ a.1)
      | inr apart ↦ has q account (sym (once ∙ put_elsewhere held serial q (taken job f.0) apart.1) ∙ at)
    ]

pub all_served : (node worker : ℕ) (members : List Member) (held : Held) (jobs : Jobs) → takes_all node worker held jobs ≡ true → HasAccounts node members held
    → AllByRecursion (IsServedBy worker members) jobs × HasAccounts node members (taken_all held jobs)
all_served node worker members held [] e has = (tt, has)
all_served node worker members held (job ∷ jobs) e has =
    let parts = and_parts (takes_one node worker held job) (takes_all node worker (taken_one held job) jobs) e in
    let rest = all_served node worker members (taken_one held job) jobs parts.1 (taken_accounts node worker members held job parts.0 has) in
    ((taken_served node worker members held job parts.0 has, rest.0), rest.1)

-- all of these are the worker's, and none is another's
own_many : (worker : ℕ) (members : List Member) (jobs : Jobs) → AllByRecursion (IsServedBy worker members) jobs → many worker members jobs ≡ length jobs
own_many worker members [] all = refl
own_many worker members (job ∷ jobs) all =
    let more = jobs_of_worker worker members jobs in
    let here : (worker_of members job.connection == worker) ≡ true = ap (λ (k : ℕ). k == worker) all.0.1 ∙ eq-eqb worker worker refl in
    ap (λ (b : Bool). length (cond b (job ∷ more) more)) here ∙ ap suc (own_many worker members jobs all.1)

other_many : (worker w : ℕ) (members : List Member) (jobs : Jobs) → worker ≢ w → AllByRecursion (IsServedBy worker members) jobs → many w members jobs ≡ 0
other_many worker w members [] apart all = refl
other_many worker w members (job ∷ jobs) apart all =
    let more = jobs_of_worker w members jobs in
    let other : (worker_of members job.connection == w) ≡ false = ap (λ (k : ℕ). k == w) all.0.1 ∙ ne_eqb worker w apart in
    ap (λ (b : Bool). length (cond b (job ∷ more) more)) other ∙ other_many worker w members jobs apart all.1

-- a worker that is owed nothing hands a batch over
pub batch_owing : (members : List Member) (owed : List (Option ℕ)) (jobs more : Jobs) (worker : ℕ) → worker < length owed → slice_index_or owed worker None ≡ None
    → AllByRecursion (IsServedBy worker members) more → IsOwing members owed jobs → IsOwing members (slice_set owed worker (Some (length more))) (jobs ++ more)
batch_owing members owed jobs more worker there idle all o = record {
  opened = All-append (λ (job : Item). job.connection.serial < length members) jobs more o.opened
      (All-weaker (IsServedBy worker members) (λ (job : Item). job.connection.serial < length members) (λ job s. s.0) more all);
  counts = λ w.
      let parts = many-append w members jobs more in
      let had = o.counts w in
      elim (eqb_tells w worker) [
        | inl e ↦
            let now = ap (λ (k : ℕ). count_owed (slice_index_or (slice_set owed worker (Some (length more))) k None)) e.1
            ∙ ap count_owed (get_or-set_same owed worker (Some (length more)) None there) in
            let none = ap (λ (k : ℕ). count_owed (slice_index_or owed k None)) e.1 ∙ ap count_owed idle in
            let own = ap (λ (k : ℕ). many k members more) e.1 ∙ own_many worker members more all in
            omega (arith, parts, had, now, none, own)
        | inr e ↦
            let now = ap count_owed (get_or-set_other owed worker w (Some (length more)) None e.1) in
            let none = other_many worker w members more (λ same. e.1 (sym same)) all in
            omega (arith, parts, had, now, none)
      ];
}

-- a batch of which nothing is owed is answered
set_none : (owed : List (Option ℕ)) (i : ℕ) → slice_index_or (slice_set owed i None) i None ≡ None
set_none [] i = refl
set_none (one ∷ owed) zero = refl
set_none (one ∷ owed) (suc i) = set_none owed i

pub answered_owing : (members : List Member) (owed : List (Option ℕ)) (jobs : Jobs) (worker : ℕ) → count_owed (slice_index_or owed worker None) ≡ 0 → IsOwing members owed jobs
    → IsOwing members (slice_set owed worker None) jobs
answered_owing members owed jobs worker none o = record {
  opened = o.opened;
  counts = λ w. elim (eqb_tells w worker) [
    | inl e ↦
        let now = ap (λ (k : ℕ). count_owed (slice_index_or (slice_set owed worker None) k None)) e.1 ∙ ap count_owed (set_none owed worker) in
        let before = ap (λ (k : ℕ). count_owed (slice_index_or owed k None)) e.1 ∙ none in
        let had = o.counts w in
        omega (arith, now, before, had)
    | inr e ↦ ap count_owed (get_or-set_other owed worker w None None e.1) ∙ o.counts w
  ];
}

-- no job of a worker's connection is left where none of the worker's is
none_of_worker : (worker : ℕ) (members : List Member) (c : Connection) (jobs : Jobs) → worker_of members c ≡ worker → many worker members jobs ≡ 0
    → AllByRecursion (λ (job : Item). same_connection job.connection c ≡ false) jobs
none_of_worker worker members c [] own none = tt
none_of_worker worker members c (job ∷ jobs) own none =
    let more = jobs_of_worker worker members jobs in
    let by = λ (b : Bool). length (cond b (job ∷ more) more) in
    elim (cases_Bool (worker_of members job.connection == worker)) [
      | inl e ↦
          let one : suc (length more) ≡ 0 = sym (ap by e) ∙ none in
          absurd (omega (arith, one))
      | inr e ↦ (
        elim (cases_Bool (same_connection job.connection c)) [
          | inl same ↦ absurd (eqb-false (worker_of members job.connection) worker e (ap (worker_of members) (same_is job.connection c same) ∙ own))
          | inr apart ↦ apart
        ],
        none_of_worker worker members c jobs own (sym (ap by e) ∙ none),
      )
    ]

pub none_numbered : (worker : ℕ) (members : List Member) (c : Connection) (jobs : Jobs) → worker_of members c ≡ worker → many worker members jobs ≡ 0 → numbers_in c jobs ≡ []
none_numbered worker members c jobs own none = ap (map (λ (job : Item). job.number)) (none_own c jobs (none_of_worker worker members c jobs own none))
