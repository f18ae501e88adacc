-- Reads are run, connections opened and batches taken: the jobs of a node's connections stay in their order.
use Rattle.std.proofs.Common.{◌≡◌, ℕ, ◌<◌, ◌≤◌, inl, inr, Bool, true, false, cond, not, List, [], ◌∷◌, ◌++◌, length, map, refl, ap, sym, ◌∙◌, subst, le_refl, arith, append_assoc, eqb}
use Rattle.std.specs.Prelude.{Option, None, drop, ◌&&◌, IsTrue}
use Rattle.std.specs.List.{AllByRecursion}
use Rattle.std.specs.Cmp.{nat_cmp_total, eq_by_cmp_equiv, unsigned_ties}
use Rattle.std.specs.FinMap as finmap
use Rattle.std.specs.FinMap.{nat_cmp-IsAntisymmetric}
use Rattle.std.proofs.lemmas.Bool.{and_parts, eqb-true, ne_eqb, not-true}
use Rattle.std.proofs.lemmas.Bool.Decides.{eqb_tells}
use Rattle.std.proofs.lemmas.List.{append-nil, length-append, map-append}
use Rattle.nr_model.specs.Items.{Connection, Item, same_connection, is_update}
use Rattle.nr_model.specs.Servers.{emitted_all}
use Rattle.nr_model.specs.Entries.{Jobs, read_jobs, left_by_reads}
use Rattle.nr_model.specs.Asked.{own_jobs}
use Rattle.nr_model.proofs.Choices.{look_reads}
use Rattle.nr_model.proofs.JobLists.{All-append}
use Rattle.nr_model.proofs.NodesOwnLists.{All-left_by_reads, All-reads}
use Rattle.nr_entry.specs.Entry.{are_of}
use Rattle.nr_entry.specs.Jobs.{item_of, items_of}
use Rattle.nr_entry.specs.declared.entry.Entry.{Entry}
use Rattle.nr_entry.specs.declared.job.Job.{Job}
use Rattle.nr_entry.specs.declared.batch.Batch.{Batch}
use Rattle.nr_log_end.specs.declared.standing.Standing.{Standing}
use Rattle.nr_log_end.specs.declared.standing.LogEvent.{LogEvent}
use Rattle.nr_log_end.specs.declared.standing.LogEvent.TheVariants.{Ran}
use Rattle.nr_log_end.specs.Standings.{applied_of, ran_of, ran_from, record_of, own_entries, noted_with, EachRises}
use Rattle.nr_job_numbers.specs.declared.account.Account.{Account}
use Rattle.nr_job_numbers.specs.Account.{fresh_account, taken}
use Rattle.nr_job_numbers.specs.Stored.{Held, numbers_in, CountsTo, takes_all, taken_all, takes_one, taken_one}
use Rattle.nr_job_numbers.specs.Book.{Book, HasTaken, refusal_of, with_batch}
use Rattle.nr_job_numbers.proofs.Steps.{found, put_here}
use Rattle.nr_job_numbers.proofs.Strangers.{put_elsewhere, once_taken}
use Rattle.nr_job_numbers.proofs.Batches.{all_of_due}
use Rattle.nr_replica.specs.Members.{Member}
use Rattle.nr_replica.specs.Replicas.{ReplicaState, HasRead}
use Rattle.nr_node.specs.Level.{connection_at, unpassed, jobs_reserved, logged, all_jobs, IsReadOf, IsInOrder}
use Rattle.nr_node.specs.Advanced.{HasNoted}
use Rattle.nr_node.specs.Next.{MayBeNoted}
use Rattle.nr_node.specs.Reserved.{AreOfNode}
use Rattle.nr_node.proofs.Lists.{record-append, ran-append, numbers-append, numbers_left_by_reads}
use Rattle.nr_node.proofs.Levels.{record_noted, applied_noted}
use Rattle.nr_node.proofs.Queues.{delivered_length}
use Rattle.nr_node.proofs.Orders.{same_order, all_counted, count_rises, first_counted, further}

pub length_read : (old new : ReplicaState) → HasRead old new → length new.members ≡ length old.members
length_read old new read = delivered_length (emitted_all old.server (read_jobs (items_of old.waiting))) old.members new.members read.delivered

-- reads that were run are reads of the node
ran_own : (node count : ℕ) (ran : List Job) → AllByRecursion (IsReadOf node) (items_of ran) → AllByRecursion (λ (r : Job × ℕ). IsReadOf node (item_of r.0)) (ran_from count (map Ran ran))
ran_own node count [] own = tt
ran_own node count (job ∷ ran) own = (own.0, ran_own node count ran own.1)

both_hold : (node : ℕ) (jobs : Jobs) → AreOfNode node jobs → AllByRecursion (λ (job : Item). not (is_update job.deed) ≡ true) jobs → AllByRecursion (IsReadOf node) jobs
both_hold node [] own reads = tt
both_hold node (job ∷ jobs) own reads = ((own.0, not-true (is_update job.deed) reads.0), both_hold node jobs own.1 reads.1)

-- what leads as a read is one
led_reads : (node : ℕ) (waiting : Jobs) → AreOfNode node waiting → AllByRecursion (IsReadOf node) (read_jobs waiting)
led_reads node waiting own = both_hold node (read_jobs waiting) (All-reads (λ (job : Item). job.connection.node ≡ node) waiting own) (look_reads waiting)

-- no entry is left to pass where none was
pub still_unpassed : (s t : Standing) (ran : List Job) → HasNoted ran s t → unpassed t ≡ unpassed s
still_unpassed s t ran noted =
    let node : t.node ≡ s.node = ap (λ (x : Standing). x.node) noted.standing in
    let applied : applied_of t.history ≡ applied_of s.history = ap (λ (x : Standing). applied_of x.history) noted.standing ∙ applied_noted s.history ran in
    let reservations : t.reservations ≡ s.reservations = ap (λ (x : Standing). x.reservations) noted.standing in
    (λ i. drop (length (own_entries (node i) (applied i))) (reservations i))

pub unpassed_noted : (s t : Standing) (ran : List Job) → HasNoted ran s t → unpassed s ≡ [] → unpassed t ≡ []
unpassed_noted s t ran noted none = still_unpassed s t ran noted ∙ none

-- what is logged behind reads that led, and what is left behind them
noted_apart : (s t : Standing) (ran : List Job) (old : ReplicaState) (c : Connection) → HasNoted ran s t → unpassed s ≡ []
    → items_of ran ≡ read_jobs (items_of old.waiting)
    → numbers_in c (logged t) ++ numbers_in c (left_by_reads (items_of old.waiting)) ≡ numbers_in c (all_jobs s [] old.waiting)
noted_apart s t ran old c noted none ran_is =
    let reads = read_jobs (items_of old.waiting) in
    let left = left_by_reads (items_of old.waiting) in
    let history : t.history ≡ s.history ++ map Ran ran = ap (λ (x : Standing). x.history) noted.standing in
    let none' : unpassed t ≡ [] = unpassed_noted s t ran noted none in
    let before : logged s ≡ record_of s.history = ap (λ (rs : List (ℕ × Entry)). record_of s.history ++ jobs_reserved rs) none ∙ append-nil (record_of s.history) in
    let after : logged t ≡ record_of s.history ++ reads =
    ap (λ (rs : List (ℕ × Entry)). record_of t.history ++ jobs_reserved rs) none' ∙ append-nil (record_of t.history)
    ∙ ap record_of history ∙ record-append s.history (map Ran ran) ∙ ap (λ (xs : Jobs). record_of s.history ++ xs) (record_noted ran ∙ ran_is) in
    ap (λ (ns : List ℕ). ns ++ numbers_in c left) (ap (numbers_in c) after ∙ numbers-append c (record_of s.history) reads)
    ∙ append_assoc (numbers_in c (record_of s.history)) (numbers_in c reads) (numbers_in c left)
    ∙ ap (λ (ns : List ℕ). numbers_in c (record_of s.history) ++ ns) (numbers_left_by_reads c (items_of old.waiting))
    ∙ sym (numbers-append c (logged s) (items_of old.waiting) ∙ ap (λ (js : Jobs). numbers_in c js ++ numbers_in c (items_of old.waiting)) before)

-- the numbers of the reads that lead go on behind what is logged
pub noted_rises : (s : Standing) (old : ReplicaState) (book : Book) → unpassed s ≡ [] → IsInOrder s old book []
    → MayBeNoted (read_jobs (items_of old.waiting)) s
noted_rises s old book none o = λ ran ran_is serial.
    let t = noted_with ran s.seen s in
    let noted : HasNoted ran s t = record { seen = le_refl s.seen; standing = refl } in
    let c = connection_at s.node serial in
    count_rises (numbers_in c (logged t))
    (first_counted c (logged t) (left_by_reads (items_of old.waiting)) (all_jobs s [] old.waiting) (noted_apart s t ran old c noted none ran_is)
    (all_counted s old book [] o serial))

-- the reads that led were run, behind all that was reserved
pub noted_order : (s t : Standing) (ran : List Job) (old new : ReplicaState) (book : Book) → HasNoted ran s t → unpassed s ≡ [] → HasRead old new
    → items_of ran ≡ read_jobs (items_of old.waiting) → IsInOrder s old book [] → IsInOrder t new book []
noted_order s t ran old new book noted none read ran_is o =
    let node : t.node ≡ s.node = ap (λ (x : Standing). x.node) noted.standing in
    let history : t.history ≡ s.history ++ map Ran ran = ap (λ (x : Standing). x.history) noted.standing in
    let applied : applied_of t.history ≡ applied_of s.history = ap applied_of history ∙ applied_noted s.history ran in
    let reservations : t.reservations ≡ s.reservations = ap (λ (x : Standing). x.reservations) noted.standing in
    let apart : (serial : ℕ) → let c = connection_at s.node serial in
    numbers_in c (logged t) ++ numbers_in c (items_of new.waiting) ≡ numbers_in c (all_jobs s [] old.waiting) =
    λ serial.
    let c = connection_at s.node serial in
    ap (λ (js : Jobs). numbers_in c (logged t) ++ numbers_in c js) read.left ∙ noted_apart s t ran old c noted none ran_is in
    same_order s t old new book [] [] node (length_read old new read)
    (λ serial. first_counted (connection_at s.node serial) (logged t) (items_of new.waiting) (all_jobs s [] old.waiting) (apart serial) (all_counted s old book [] o serial))
    (λ serial. numbers-append (connection_at s.node serial) (logged t) (items_of new.waiting) ∙ apart serial)
    (subst (AreOfNode s.node) (sym read.left) (All-left_by_reads (λ (job : Item). job.connection.node ≡ s.node) (items_of old.waiting) o.own))
    (subst (λ (h : List LogEvent). AllByRecursion (λ (x : Job × ℕ). IsReadOf s.node (item_of x.0)) (ran_of h)) (sym history)
    (ran-append (λ (job : Job). IsReadOf s.node (item_of job)) s.history (map Ran ran) o.reads
    (ran_own s.node 0 ran (subst (AllByRecursion (IsReadOf s.node)) (sym ran_is) (led_reads s.node (items_of old.waiting) o.own)))))
    (let passed : length (own_entries t.node (applied_of t.history)) ≡ length (own_entries s.node (applied_of s.history)) = λ i. length (own_entries (node i) (applied i)) in
    omega (arith, passed, o.passed, ap length reservations))
    (subst (λ (rs : List (ℕ × Entry)). AllByRecursion (λ (x : ℕ × Entry). x.0 < t.seen) rs) (sym reservations)
    (further s.seen t.seen s.reservations noted.seen o.met))
    (subst EachRises (sym applied) o.entries)
    o

-- a connection was opened
pub opened_order : (s : Standing) (old new : ReplicaState) (book : Book) (next : List Job) (worker : ℕ) (m : Member)
    → new ≡ record old { members = old.members ++ m ∷ [] } → IsInOrder s old book next
    → IsInOrder s new (record book { held = finmap.insert book.held (length old.members) (fresh_account worker) }) next
opened_order s old new book next worker m is o =
    let n = length old.members in
    let held = finmap.insert book.held n (fresh_account worker) in
    subst (λ (r : ReplicaState). IsInOrder s r (record book { held = held }) next) (sym is) record {
      book_is = o.book_is;
      own = o.own;
      numbered = o.numbered;
      taken = λ serial. elim (eqb_tells serial n) [
        | inl e ↦
            let c = connection_at book.node n in
            let none : numbers_in c (all_jobs s next old.waiting) ≡ [] =
            subst (λ (k : ℕ). numbers_in (connection_at k n) (all_jobs s next old.waiting) ≡ []) (sym o.book_is) (o.unopened n (omega arith)) in
            subst (λ (k : ℕ). CountsTo (λ (a : Account). a.next) (finmap.get held k) (numbers_in (connection_at book.node k) (all_jobs s next old.waiting))) (sym e.1)
            (subst (λ (a : Option Account). CountsTo (λ (a : Account). a.next) a (numbers_in c (all_jobs s next old.waiting))) (sym (put_here book.held n (fresh_account worker))) none)
        | inr e ↦ subst (λ (a : Option Account). CountsTo (λ (a : Account). a.next) a (numbers_in (connection_at book.node serial) (all_jobs s next old.waiting)))
            (sym (put_elsewhere book.held n serial (fresh_account worker) e.1)) (o.taken serial)
      ];
      unopened = λ serial past.
          let before : length old.members ≤ serial = omega (arith, length-append old.members (m ∷ [])) in
          o.unopened serial before;
      closed = λ serial past.
          let before : length old.members ≤ serial = omega (arith, length-append old.members (m ∷ [])) in
          let apart : serial ≡ n → ⊥ = λ e. omega (arith, e, length-append old.members (m ∷ [])) in
          put_elsewhere book.held n serial (fresh_account worker) apart ∙ o.closed serial before;
      reads = o.reads;
      entries = o.entries;
      passed = o.passed;
      met = o.met;
    }

-- what is found once one was taken out
pub removed_here : (m : Held) (k : ℕ) → finmap.get (finmap.remove m k) k ≡ None
removed_here m k =
    finmap.get-remove nat_cmp_total m k k ∙ ap (λ (b : Bool). cond b None (finmap.get m k)) ((eq_by_cmp_equiv nat_cmp_total).refl k)

pub removed_elsewhere : (m : Held) (k q : ℕ) → (q ≡ k → ⊥) → finmap.get (finmap.remove m k) q ≡ finmap.get m q
removed_elsewhere m k q apart =
    finmap.get-remove nat_cmp_total m k q ∙ ap (λ (b : Bool). cond b None (finmap.get m q)) (sym (unsigned_ties q k) ∙ ne_eqb q k apart)

-- the account of a connection that wasn't opened is forgotten
pub forgotten : (held : Held) (n : ℕ) (a : Account) → finmap.get held n ≡ None → finmap.remove (finmap.insert held n a) n ≡ held
forgotten held n a none = finmap.same_map nat_cmp_total nat_cmp-IsAntisymmetric _ _ (λ q. elim (eqb_tells q n) [
  | inl e ↦ subst (λ (k : ℕ). finmap.get (finmap.remove (finmap.insert held n a) n) k ≡ finmap.get held k) (sym e.1)
      (removed_here (finmap.insert held n a) n ∙ sym none)
  | inr e ↦ removed_elsewhere (finmap.insert held n a) n q e.1 ∙ put_elsewhere held n q a e.1
])

-- jobs that are taken are of the node, and of connections with accounts
all_own : (node worker : ℕ) (held : Held) (jobs : Jobs) → takes_all node worker held jobs ≡ true → AreOfNode node jobs
all_own node worker held [] e = tt
all_own node worker held (job ∷ jobs) e =
    let parts = and_parts (takes_one node worker held job) (takes_all node worker (taken_one held job) jobs) e in
    let one = and_parts (eqb job.connection.node node) _ parts.0 in
    (eqb-true job.connection.node node one.0, all_own node worker (taken_one held job) jobs parts.1)

pub all_are_of : (node worker : ℕ) (held : Held) (jobs : Jobs) → takes_all node worker held jobs ≡ true → IsTrue (are_of node jobs)
all_are_of node worker held [] e = refl
all_are_of node worker held (job ∷ jobs) e =
    let parts = and_parts (takes_one node worker held job) (takes_all node worker (taken_one held job) jobs) e in
    let one = and_parts (eqb job.connection.node node) _ parts.0 in
    (λ i. one.0 i && all_are_of node worker (taken_one held job) jobs parts.1 i)

and_false : (b : Bool) → (b && false) ≡ false
and_false true = refl
and_false false = refl

apart_by : (d : Connection) (node serial : ℕ) → (d.serial ≡ serial → ⊥) → same_connection d (connection_at node serial) ≡ false
apart_by d node serial apart = ap (λ (b : Bool). eqb d.node node && b) (ne_eqb d.serial serial apart) ∙ and_false (eqb d.node node)

-- a job that is taken is none of a connection without an account, which gets none
pub none_taken : (node worker serial : ℕ) (held : Held) (job : Item) → takes_one node worker held job ≡ true → finmap.get held serial ≡ None
    → (job.connection.serial ≡ serial → ⊥) × (finmap.get (taken_one held job) serial ≡ None)
none_taken node worker serial held job e none =
    let f = found node worker held job e in
    let apart : job.connection.serial ≡ serial → ⊥ = λ same. absurd (cc (sym (f.1) ∙ ap (finmap.get held) same ∙ none)) in (
      apart,
      ap (λ (h : Held). finmap.get h serial) (once_taken held job f.0 f.1) ∙ put_elsewhere held job.connection.serial serial (taken job f.0) (λ same. apart (sym same)) ∙ none,
    )

pub none_of_all : (node worker serial : ℕ) (held : Held) (jobs : Jobs) → takes_all node worker held jobs ≡ true → finmap.get held serial ≡ None
    → (numbers_in (connection_at node serial) jobs ≡ []) × (finmap.get (taken_all held jobs) serial ≡ None)
none_of_all node worker serial held [] e none = (refl, none)
none_of_all node worker serial held (job ∷ jobs) e none =
    let parts = and_parts (takes_one node worker held job) (takes_all node worker (taken_one held job) jobs) e in
    let one = none_taken node worker serial held job parts.0 none in
    let rest = none_of_all node worker serial (taken_one held job) jobs parts.1 one.1 in
    let other : same_connection job.connection (connection_at node serial) ≡ false = apart_by job.connection node serial one.0 in (
      ap (λ (b : Bool). map (λ (x : Item). x.number) (cond b (job ∷ own_jobs (connection_at node serial) jobs) (own_jobs (connection_at node serial) jobs))) other ∙ rest.0,
      rest.1,
    )

-- a batch was taken
pub batch_order : (s : Standing) (old new : ReplicaState) (book : Book) (next : List Job) (batch : Batch) → refusal_of book batch ≡ None
    → new.members ≡ old.members → new.waiting ≡ old.waiting ++ batch.jobs.items
    → ((jobs : Jobs) → HasTaken book jobs → HasTaken (with_batch batch book) (jobs ++ items_of batch.jobs.items))
    → IsInOrder s old book next → IsInOrder s new (with_batch batch book) next
batch_order s old new book next batch due members waiting counts o =
    let jobs = items_of batch.jobs.items in
    let takes = all_of_due book batch.node batch.worker batch.number jobs due in
    let behind : items_of new.waiting ≡ items_of old.waiting ++ jobs = ap items_of waiting ∙ map-append item_of old.waiting batch.jobs.items in
    let all : all_jobs s next new.waiting ≡ all_jobs s next old.waiting ++ jobs =
    ap (λ (js : Jobs). logged s ++ (items_of next ++ js)) behind ∙ ap (λ (js : Jobs). logged s ++ js) (sym (append_assoc (items_of next) (items_of old.waiting) jobs))
    ∙ sym (append_assoc (logged s) (items_of next ++ items_of old.waiting) jobs) in
    record {
      book_is = o.book_is;
      own = subst (AreOfNode s.node) (sym behind) (All-append (λ (job : Item). job.connection.node ≡ s.node) (items_of old.waiting) jobs o.own
          (subst (λ (n : ℕ). AreOfNode n jobs) o.book_is (all_own book.node batch.worker book.held jobs takes)));
      numbered = o.numbered;
      taken = subst (HasTaken (with_batch batch book)) (sym all) (counts (all_jobs s next old.waiting) o.taken);
      unopened = λ serial past.
          let before : length old.members ≤ serial = omega (arith, ap length members) in
          let c = connection_at s.node serial in
          let none = subst (λ (n : ℕ). numbers_in (connection_at n serial) jobs ≡ []) o.book_is
          (none_of_all book.node batch.worker serial book.held jobs takes (o.closed serial before)).0 in
          ap (numbers_in c) all ∙ numbers-append c (all_jobs s next old.waiting) jobs ∙ (λ i. o.unopened serial before i ++ none i);
      closed = λ serial past.
          let before : length old.members ≤ serial = omega (arith, ap length members) in
          (none_of_all book.node batch.worker serial book.held jobs takes (o.closed serial before)).1;
      reads = o.reads;
      entries = o.entries;
      passed = o.passed;
      met = o.met;
    }
