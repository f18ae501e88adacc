-- The jobs of a node's connections stay in their order, wherever they are.
use Rattle.std.proofs.Common.{Bool, ◌≡◌, ℕ, zero, suc, ◌<◌, ◌≤◌, ◌+◌, List, [], ◌∷◌, ◌++◌, length, refl, ap, sym, ◌∙◌, subst, arith, append_assoc}
use Rattle.std.specs.Prelude.{Option, Some, None, option_map}
use Rattle.std.specs.List.{AllByRecursion, range_with_len}
use Rattle.std.specs.FinMap as finmap
use Rattle.std.proofs.lemmas.List.{append-nil, length-append, length-map}
use Rattle.nr_model.specs.Items.{Connection, Item}
use Rattle.nr_model.specs.Entries.{Jobs}
use Rattle.nr_model.proofs.JobLists.{All-append}
use Rattle.nr_model.proofs.NodesOwnLists.{All-weaker, All-left_by_entry}
use Rattle.nr_entry.specs.Jobs.{item_of, items_of}
use Rattle.nr_entry.specs.Shares.{shares_of}
use Rattle.nr_entry.specs.declared.entry.Entry.{Entry}
use Rattle.nr_entry.specs.declared.job.Job.{Job}
use Rattle.nr_log_end.specs.Numbers.{IsRising, AreRising}
use Rattle.nr_log_end.proofs.Rising.{range_rises}
use Rattle.nr_log_end.specs.declared.standing.Standing.{Standing}
use Rattle.nr_log_end.specs.declared.standing.LogEvent.{LogEvent}
use Rattle.nr_log_end.specs.declared.standing.LogEvent.TheVariants.{Applied, Ran, Opened}
use Rattle.nr_log_end.specs.Standings.{applied_of, opened_of, ran_from, ran_of, record_of, own_entries, StandsInLog, fetched_with, opened_with, passed_on, reserved_as, EachRises}
use Rattle.nr_job_numbers.specs.declared.account.Account.{Account}
use Rattle.nr_job_numbers.specs.Stored.{numbers_in, CountsTo}
use Rattle.nr_job_numbers.specs.Book.{Book, HasGoneBack}
use Rattle.nr_job_numbers.proofs.GoingBack.{back_taken}
use Rattle.nr_replica.specs.Members.{Member}
use Rattle.nr_replica.specs.Replicas.{ReplicaState}
use Rattle.nr_node.specs.Level.{IsCount, IsReadOf, connection_at, workers_of, unpassed, jobs_reserved, logged, all_jobs, IsInOrder}
use Rattle.nr_node.specs.Sound.{IsSound}
use Rattle.nr_node.specs.Reserved.{AreOfNode, due_jobs, left_jobs, LeavesWaiting, HasMet, IsReserved}
use Rattle.nr_node.proofs.Lists.{entries_passed, record_opened, applied_opened, unpassed_opened, ran-append, numbers-append, numbers_left_by_entry, own_passed, logged_passed, logged_reserved, counts_front}

-- the numbers in lists behind one another
joined : (c : Connection) (xs ys zs : Jobs) → numbers_in c (xs ++ (ys ++ zs)) ≡ numbers_in c xs ++ (numbers_in c ys ++ numbers_in c zs)
joined c xs ys zs = numbers-append c xs (ys ++ zs) ∙ ap (λ (ns : List ℕ). numbers_in c xs ++ ns) (numbers-append c ys zs)

pub no_parts : (xs ys : List ℕ) → xs ++ ys ≡ [] → (xs ≡ []) × (ys ≡ [])
no_parts [] ys e = (refl, e)
no_parts (x ∷ xs) ys e = absurd (cc e)

length-range : (n count : ℕ) → length (range_with_len n count) ≡ count
length-range n zero = refl
length-range n (suc count) = ap suc (length-range (n + 1) count)

counted : (count : Account → ℕ) (account : Option Account) (numbers : List ℕ) → CountsTo count account numbers → IsCount numbers
counted count None numbers h = h
counted count (Some a) numbers h = h ∙ ap (range_with_len 0) (sym (ap length h ∙ length-range 0 (count a)))

-- all jobs of a node are counted
pub all_counted : (s : Standing) (old : ReplicaState) (book : Book) (next : List Job) → IsInOrder s old book next
    → (serial : ℕ) → IsCount (numbers_in (connection_at s.node serial) (all_jobs s next old.waiting))
all_counted s old book next o serial =
    subst (λ (n : ℕ). IsCount (numbers_in (connection_at n serial) (all_jobs s next old.waiting))) o.book_is
    (counted (λ (a : Account). a.next) (finmap.get book.held serial) _ (o.taken serial))

-- the first of these are counted
pub first_counted : (c : Connection) (front back : Jobs) (all : Jobs) → numbers_in c front ++ numbers_in c back ≡ numbers_in c all → IsCount (numbers_in c all) → IsCount (numbers_in c front)
first_counted c front back all is h =
    counts_front (numbers_in c front) (numbers_in c back) (is ∙ h ∙ ap (λ (ns : List ℕ). range_with_len 0 (length ns)) (sym is))

-- there are none in the record where there are none anywhere
pub none_recorded : (c : Connection) (xs ys zs : Jobs) → numbers_in c ((xs ++ ys) ++ zs) ≡ [] → numbers_in c xs ≡ []
none_recorded c xs ys zs e =
    (no_parts (numbers_in c xs) (numbers_in c ys) (sym (numbers-append c xs ys)
    ∙ (no_parts (numbers_in c (xs ++ ys)) (numbers_in c zs) (sym (numbers-append c (xs ++ ys) zs) ∙ e)).0)).0

-- what a node in order hands out is sound
pub is_sound : (s t : Standing) (old : ReplicaState) (book : Book) (next : List Job) → t ≡ s → s.held ≡ None → workers_of old.members ≡ opened_of s.history
    → IsInOrder s old book next → IsSound t
is_sound s t old book next same idle served o = subst IsSound (sym same) record {
  reads = o.reads;
  numbered = λ serial.
      let c = connection_at s.node serial in
      first_counted c (record_of s.history) (jobs_reserved (unpassed s)) (logged s) (sym (numbers-append c (record_of s.history) (jobs_reserved (unpassed s)))) (o.numbered serial);
  opened = λ serial past.
      let c = connection_at s.node serial in
      let count : length (opened_of s.history) ≡ length old.members = ap length (sym served) ∙ length-map old.members (λ (m : Member). m.worker) in
      none_recorded c (record_of s.history) (jobs_reserved (unpassed s)) (items_of next ++ items_of old.waiting) (o.unopened serial (omega (arith, past, count)));
  entries = o.entries;
  idle = idle;
}

-- nothing changed in the order of any connection's jobs
pub same_order : (s t : Standing) (old new : ReplicaState) (book : Book) (next after : List Job) → t.node ≡ s.node → length new.members ≡ length old.members
    → ((serial : ℕ) → IsCount (numbers_in (connection_at s.node serial) (logged t)))
    → ((serial : ℕ) → numbers_in (connection_at s.node serial) (all_jobs t after new.waiting) ≡ numbers_in (connection_at s.node serial) (all_jobs s next old.waiting))
    → AreOfNode s.node (items_of new.waiting) → AllByRecursion (λ (r : Job × ℕ). IsReadOf s.node (item_of r.0)) (ran_of t.history)
    → length (own_entries t.node (applied_of t.history)) ≤ length t.reservations → AllByRecursion (λ (r : ℕ × Entry). r.0 < t.seen) t.reservations
    → EachRises (applied_of t.history) → IsInOrder s old book next → IsInOrder t new book after
same_order s t old new book next after node long numbered all own reads passed met entries o = record {
  book_is = o.book_is ∙ sym node;
  own = subst (λ (n : ℕ). AreOfNode n (items_of new.waiting)) (sym node) own;
  numbered = λ serial. subst (λ (n : ℕ). IsCount (numbers_in (connection_at n serial) (logged t))) (sym node) (numbered serial);
  taken = λ serial.
      let n = all serial in
      let here = subst (λ (n : ℕ). numbers_in (connection_at n serial) (all_jobs t after new.waiting) ≡ numbers_in (connection_at n serial) (all_jobs s next old.waiting)) (sym o.book_is) n in
      subst (CountsTo (λ (a : Account). a.next) (finmap.get book.held serial)) (sym here) (o.taken serial);
  unopened = λ serial past.
      let before : length old.members ≤ serial = omega (arith, long) in
      subst (λ (n : ℕ). numbers_in (connection_at n serial) (all_jobs t after new.waiting) ≡ []) (sym node) (all serial ∙ o.unopened serial before);
  closed = λ serial past.
      let before : length old.members ≤ serial = omega (arith, long) in
      o.closed serial before;
  reads = subst (λ (n : ℕ). AllByRecursion (λ (r : Job × ℕ). IsReadOf n (item_of r.0)) (ran_of t.history)) (sym node) reads;
  entries = entries;
  passed = passed;
  met = met;
}

none_back : (f : Account → Account) (o : Option Account) → o ≡ None → option_map f o ≡ None
none_back f o none = ap (option_map f) none

-- what the node had still to reserve is dropped, and the accounts have gone back by it
pub dropped_order : (s t : Standing) (old new : ReplicaState) (book back : Book) (next : List Job) → t.node ≡ s.node → length new.members ≡ length old.members
    → ((serial : ℕ) → numbers_in (connection_at s.node serial) (logged t) ≡ numbers_in (connection_at s.node serial) (logged s))
    → new.waiting ≡ [] → HasGoneBack (items_of next ++ items_of old.waiting) book back → AllByRecursion (λ (r : Job × ℕ). IsReadOf s.node (item_of r.0)) (ran_of t.history)
    → length (own_entries t.node (applied_of t.history)) ≤ length t.reservations → AllByRecursion (λ (r : ℕ × Entry). r.0 < t.seen) t.reservations
    → EachRises (applied_of t.history) → IsInOrder s old book next → IsInOrder t new back []
dropped_order s t old new book back next node long same waits goes reads passed met entries o =
    let own : AreOfNode s.node (items_of new.waiting) = subst (λ (js : List Job). AreOfNode s.node (items_of js)) (sym waits) tt in
    let book_is : back.node ≡ s.node = goes.node ∙ o.book_is in
    let all : (serial : ℕ) → numbers_in (connection_at s.node serial) (all_jobs t [] new.waiting) ≡ numbers_in (connection_at s.node serial) (logged s) =
    λ serial.
    let c = connection_at s.node serial in
    ap (λ (js : List Job). numbers_in c (logged t ++ items_of js)) waits ∙ ap (numbers_in c) (append-nil (logged t)) ∙ same serial in
    record {
      book_is = book_is ∙ sym node;
      own = subst (λ (n : ℕ). AreOfNode n (items_of new.waiting)) (sym node) own;
      numbered = λ serial. subst (λ (n : ℕ). IsCount (numbers_in (connection_at n serial) (logged t))) (sym node) (subst IsCount (sym (same serial)) (o.numbered serial));
      taken = λ serial.
          let here = subst (λ (n : ℕ). numbers_in (connection_at n serial) (all_jobs t [] new.waiting) ≡ numbers_in (connection_at n serial) (logged s)) (sym book_is) (all serial) in
          subst (CountsTo (λ (a : Account). a.next) (finmap.get back.held serial)) (sym here)
          (back_taken book back (logged s) (items_of next ++ items_of old.waiting) o.taken goes serial);
      unopened = λ serial past.
          let before : length old.members ≤ serial = omega (arith, long) in
          let c = connection_at s.node serial in
          let parts = no_parts (numbers_in c (logged s)) _ (sym (joined c (logged s) (items_of next) (items_of old.waiting)) ∙ o.unopened serial before) in
          subst (λ (n : ℕ). numbers_in (connection_at n serial) (all_jobs t [] new.waiting) ≡ []) (sym node) (all serial ∙ parts.0);
      closed = λ serial past.
          let before : length old.members ≤ serial = omega (arith, long) in
          goes.accounts serial ∙ none_back _ (finmap.get book.held serial) (o.closed serial before);
      reads = subst (λ (n : ℕ). AllByRecursion (λ (r : Job × ℕ). IsReadOf n (item_of r.0)) (ran_of t.history)) (sym node) reads;
      entries = entries;
      passed = passed;
      met = met;
    }

-- an entry was passed, and left what waits as it was
pub passed_order : (s t : Standing) (e : Entry) (old new : ReplicaState) (book : Book) (next : List Job) → t ≡ passed_on (fetched_with e s) → StandsInLog (fetched_with e s)
    → length new.members ≡ length old.members → new.waiting ≡ old.waiting → IsInOrder s old book next → IsInOrder t new book next
passed_order s t e old new book next is stands long waits o =
    let p = passed_on (fetched_with e s) in
    let own = λ (r : Job × ℕ). IsReadOf s.node (item_of r.0) in
    let same : (serial : ℕ) → numbers_in (connection_at s.node serial) (logged p) ≡ numbers_in (connection_at s.node serial) (logged s) =
    λ serial. logged_passed s e (connection_at s.node serial) stands refl in
    subst (λ (x : Standing). IsInOrder x new book next) (sym is)
    (same_order s p old new book next next refl long (λ serial. subst IsCount (sym (same serial)) (o.numbered serial))
    (λ serial.
    let c = connection_at s.node serial in
    joined c (logged p) (items_of next) (items_of new.waiting)
    ∙ (λ i. same serial i ++ (numbers_in c (items_of next) ++ numbers_in c (items_of (waits i))))
    ∙ sym (joined c (logged s) (items_of next) (items_of old.waiting)))
    (subst (λ (js : List Job). AreOfNode s.node (items_of js)) (sym waits) o.own)
    (ran-append (λ (job : Job). IsReadOf s.node (item_of job)) s.history (Applied e ∷ []) o.reads tt)
    (own_passed s e stands) o.met (entries_passed s e stands) o)

-- an entry was passed by a node that fell over it
pub passed_fallen : (s t : Standing) (e : Entry) (old new : ReplicaState) (book back : Book) (next : List Job) → t ≡ passed_on (fetched_with e s)
    → StandsInLog (fetched_with e s) → length new.members ≡ length old.members → new.waiting ≡ [] → HasGoneBack (items_of next ++ items_of old.waiting) book back
    → IsInOrder s old book next → IsInOrder t new back []
passed_fallen s t e old new book back next is stands long waits goes o =
    let p = passed_on (fetched_with e s) in
    subst (λ (x : Standing). IsInOrder x new back []) (sym is)
    (dropped_order s p old new book back next refl long (λ serial. logged_passed s e (connection_at s.node serial) stands refl) waits goes
    (ran-append (λ (job : Job). IsReadOf s.node (item_of job)) s.history (Applied e ∷ []) o.reads tt)
    (own_passed s e stands) o.met (entries_passed s e stands) o)

-- what is due, and what is left behind it
due_and_left : (c : Connection) (next waiting : List Job)
    → numbers_in c (due_jobs next waiting) ++ numbers_in c (left_jobs next waiting) ≡ numbers_in c (items_of next) ++ numbers_in c (items_of waiting)
due_and_left c [] waiting = numbers_left_by_entry c (items_of waiting)
due_and_left c (job ∷ next) waiting = refl

left_own : (node : ℕ) (next waiting : List Job) → AreOfNode node (items_of waiting) → AreOfNode node (left_jobs next waiting)
left_own node [] waiting own = All-left_by_entry (λ (job : Item). job.connection.node ≡ node) (items_of waiting) own
left_own node (job ∷ next) waiting own = own

pub further : (n m : ℕ) (rs : List (ℕ × Entry)) → n ≤ m → AllByRecursion (λ (r : ℕ × Entry). r.0 < n) rs → AllByRecursion (λ (r : ℕ × Entry). r.0 < m) rs
further n m rs h all = All-weaker (λ (r : ℕ × Entry). r.0 < n) (λ (r : ℕ × Entry). r.0 < m) (λ r b. omega arith) rs all

-- shares of an entry are one reservation
one_reservation : (at nodes : ℕ) (e : Entry) → 0 < nodes → Rattle.nr_log_end.specs.Standings.reservation at (shares_of e nodes) ≡ (at, e) ∷ []
one_reservation at zero e h = absurd (omega arith)
one_reservation at (suc nodes) e h = refl

-- numbers that count up rise
pub count_rises : (numbers : List ℕ) → IsCount numbers → IsRising numbers
count_rises numbers h = subst IsRising (sym h) (range_rises 0 (length numbers))

-- the numbers of the entry that is due go on behind what is logged
pub due_rises : (s : Standing) (e : Entry) (old : ReplicaState) (book : Book) (next : List Job) → items_of e.jobs.items ≡ due_jobs next old.waiting
    → IsInOrder s old book next → AreRising s.node (logged s ++ items_of e.jobs.items)
due_rises s e old book next due o = λ serial.
    let c = connection_at s.node serial in
    let items = items_of e.jobs.items in
    let left = left_jobs next old.waiting in
    let apart : numbers_in c (logged s ++ items) ++ numbers_in c left ≡ numbers_in c (all_jobs s next old.waiting) =
    ap (λ (ns : List ℕ). ns ++ numbers_in c left) (numbers-append c (logged s) items)
    ∙ append_assoc (numbers_in c (logged s)) (numbers_in c items) (numbers_in c left)
    ∙ ap (λ (ns : List ℕ). numbers_in c (logged s) ++ ns) (ap (λ (js : Jobs). numbers_in c js ++ numbers_in c left) due ∙ due_and_left c next old.waiting)
    ∙ sym (joined c (logged s) (items_of next) (items_of old.waiting)) in
    count_rises (numbers_in c (logged s ++ items))
    (first_counted c (logged s ++ items) left (all_jobs s next old.waiting) apart (all_counted s old book next o serial))

-- the entry that was due stands in the log
pub reserved_order : (s t : Standing) (at : ℕ) (e : Entry) (old new : ReplicaState) (book : Book) (next : List Job) → 0 < s.nodes → IsReserved at (shares_of e s.nodes) s t
    → items_of e.jobs.items ≡ due_jobs next old.waiting → LeavesWaiting (left_jobs next old.waiting) old new
    → IsInOrder s old book next → IsInOrder t new book []
reserved_order s t at e old new book next some reserved due left o =
    let r = reserved_as at (shares_of e s.nodes) s in
    let more : logged t ≡ logged s ++ items_of e.jobs.items = ap logged reserved.standing ∙ logged_reserved s at e some o.passed in
    let apart : (serial : ℕ) → let c = connection_at s.node serial in
    numbers_in c (logged t) ++ numbers_in c (items_of new.waiting) ≡ numbers_in c (all_jobs s next old.waiting) =
    λ serial.
    let c = connection_at s.node serial in
    (λ i. (ap (numbers_in c) more ∙ numbers-append c (logged s) (items_of e.jobs.items)) i ++ numbers_in c (left.waiting i))
    ∙ append_assoc (numbers_in c (logged s)) (numbers_in c (items_of e.jobs.items)) (numbers_in c (left_jobs next old.waiting))
    ∙ ap (λ (ns : List ℕ). numbers_in c (logged s) ++ ns)
    (ap (λ (js : Jobs). numbers_in c js ++ numbers_in c (left_jobs next old.waiting)) due ∙ due_and_left c next old.waiting)
    ∙ sym (joined c (logged s) (items_of next) (items_of old.waiting)) in
    let seen : t.seen ≡ at + 1 = ap (λ (x : Standing). x.seen) reserved.standing in
    let reservations : t.reservations ≡ s.reservations ++ (at, e) ∷ [] =
    ap (λ (x : Standing). x.reservations) reserved.standing ∙ ap (λ (rs : List (ℕ × Entry)). s.reservations ++ rs) (one_reservation at s.nodes e some) in
    let node : t.node ≡ s.node = ap (λ (x : Standing). x.node) reserved.standing in
    let history : t.history ≡ s.history = ap (λ (x : Standing). x.history) reserved.standing in
    let here : at < t.seen = omega (arith, seen) in
    let on : s.seen ≤ t.seen = omega (arith, seen, reserved.seen) in
    same_order s t old new book next [] node (ap (λ (x : ReplicaState). length x.members) left.replica)
    (λ serial. first_counted (connection_at s.node serial) (logged t) (items_of new.waiting) (all_jobs s next old.waiting) (apart serial) (all_counted s old book next o serial))
    (λ serial. numbers-append (connection_at s.node serial) (logged t) (items_of new.waiting) ∙ apart serial)
    (subst (AreOfNode s.node) (sym left.waiting) (left_own s.node next old.waiting o.own))
    (subst (λ (h : List LogEvent). AllByRecursion (λ (x : Job × ℕ). IsReadOf s.node (item_of x.0)) (ran_of h)) (sym history) o.reads)
    (let long = length-append s.reservations ((at, e) ∷ []) in
    let passed : length (own_entries t.node (applied_of t.history)) ≡ length (own_entries s.node (applied_of s.history)) = λ i. length (own_entries (node i) (applied_of (history i))) in
    omega (arith, passed, o.passed, ap length reservations, long))
    (subst (λ (rs : List (ℕ × Entry)). AllByRecursion (λ (x : ℕ × Entry). x.0 < t.seen) rs) (sym reservations)
    (All-append (λ (x : ℕ × Entry). x.0 < t.seen) s.reservations ((at, e) ∷ []) (further s.seen t.seen s.reservations on o.met) (here, tt)))
    (subst (λ (h : List LogEvent). EachRises (applied_of h)) (sym history) o.entries)
    o

-- a tail was met
met_logged : (s t : Standing) → HasMet s t → logged t ≡ logged s
met_logged s t met = ap logged met.standing

-- the entry that is due goes on waiting
pub due_order : (s t : Standing) (old new : ReplicaState) (book : Book) (next after : List Job) → HasMet s t → items_of after ≡ due_jobs next old.waiting
    → LeavesWaiting (left_jobs next old.waiting) old new → IsInOrder s old book next → IsInOrder t new book after
due_order s t old new book next after met due left o =
    let same = met_logged s t met in
    let history : t.history ≡ s.history = ap (λ (x : Standing). x.history) met.standing in
    same_order s t old new book next after (ap (λ (x : Standing). x.node) met.standing) (ap (λ (x : ReplicaState). length x.members) left.replica)
    (λ serial. subst (λ (js : Jobs). IsCount (numbers_in (connection_at s.node serial) js)) (sym same) (o.numbered serial))
    (λ serial.
    let c = connection_at s.node serial in
    joined c (logged t) (items_of after) (items_of new.waiting)
    ∙ (λ i. numbers_in c (same i) ++ (numbers_in c (due i) ++ numbers_in c (left.waiting i)))
    ∙ ap (λ (ns : List ℕ). numbers_in c (logged s) ++ ns) (due_and_left c next old.waiting)
    ∙ sym (joined c (logged s) (items_of next) (items_of old.waiting)))
    (subst (AreOfNode s.node) (sym left.waiting) (left_own s.node next old.waiting o.own))
    (subst (λ (h : List LogEvent). AllByRecursion (λ (x : Job × ℕ). IsReadOf s.node (item_of x.0)) (ran_of h)) (sym history) o.reads)
    (let passed : length (own_entries t.node (applied_of t.history)) ≡ length (own_entries s.node (applied_of s.history)) = λ i. length (own_entries (met.standing i).node (applied_of (met.standing i).history)) in
    let same_length = ap (λ (x : Standing). length x.reservations) met.standing in
    omega (arith, passed, o.passed, same_length))
    (subst (λ (rs : List (ℕ × Entry)). AllByRecursion (λ (x : ℕ × Entry). x.0 < t.seen) rs) (sym (ap (λ (x : Standing). x.reservations) met.standing))
    (further s.seen t.seen s.reservations met.seen o.met))
    (subst (λ (h : List LogEvent). EachRises (applied_of h)) (sym (ap (λ (x : Standing). x.history) met.standing)) o.entries)
    o

-- nothing happened at the log but that a tail was met
pub met_order : (s t : Standing) (old : ReplicaState) (book : Book) (next : List Job) → HasMet s t → IsInOrder s old book next → IsInOrder t old book next
met_order s t old book next met o =
    let same = met_logged s t met in
    same_order s t old old book next next (ap (λ (x : Standing). x.node) met.standing) refl
    (λ serial. subst (λ (js : Jobs). IsCount (numbers_in (connection_at s.node serial) js)) (sym same) (o.numbered serial))
    (λ serial. ap (λ (js : Jobs). numbers_in (connection_at s.node serial) (js ++ (items_of next ++ items_of old.waiting))) same)
    o.own
    (subst (λ (h : List LogEvent). AllByRecursion (λ (x : Job × ℕ). IsReadOf s.node (item_of x.0)) (ran_of h)) (sym (ap (λ (x : Standing). x.history) met.standing)) o.reads)
    (let passed : length (own_entries t.node (applied_of t.history)) ≡ length (own_entries s.node (applied_of s.history)) = λ i. length (own_entries (met.standing i).node (applied_of (met.standing i).history)) in
    let same_length = ap (λ (x : Standing). length x.reservations) met.standing in
    omega (arith, passed, o.passed, same_length))
    (subst (λ (rs : List (ℕ × Entry)). AllByRecursion (λ (x : ℕ × Entry). x.0 < t.seen) rs) (sym (ap (λ (x : Standing). x.reservations) met.standing))
    (further s.seen t.seen s.reservations met.seen o.met))
    (subst (λ (h : List LogEvent). EachRises (applied_of h)) (sym (ap (λ (x : Standing). x.history) met.standing)) o.entries)
    o

-- nothing changed but whether the server is lent
pub lent_order : (s : Standing) (r : ReplicaState) (lent : Bool) (book : Book) (next : List Job) → IsInOrder s r book next → IsInOrder s (record r { lent = lent }) book next
lent_order s r lent book next o = record {
  book_is = o.book_is;
  own = o.own;
  numbered = o.numbered;
  taken = o.taken;
  unopened = o.unopened;
  closed = o.closed;
  reads = o.reads;
  entries = o.entries;
  passed = o.passed;
  met = o.met;
}

-- it was noted at the end of the log that a connection was opened
ran_opened : (n : ℕ) (turns : List LogEvent) (worker : ℕ) → ran_from n (turns ++ Opened worker ∷ []) ≡ ran_from n turns
ran_opened n [] worker = refl
ran_opened n (Applied entry ∷ turns) worker = ran_opened (suc n) turns worker
ran_opened n (Ran job ∷ turns) worker = ap (λ (rs : List (Job × ℕ)). (job, n) ∷ rs) (ran_opened n turns worker)
ran_opened n (Opened other ∷ turns) worker = ran_opened n turns worker

pub noted_opened_order : (s : Standing) (worker seen : ℕ) (old : ReplicaState) (book : Book) (next : List Job) → s.seen ≤ seen → IsInOrder s old book next
    → IsInOrder (opened_with worker seen s) old book next
noted_opened_order s worker seen old book next later o =
    let same : logged (opened_with worker seen s) ≡ logged s = λ i. record_opened s worker i ++ jobs_reserved (unpassed_opened s worker seen i) in
    same_order s (opened_with worker seen s) old old book next next refl refl
    (λ serial. subst (λ (js : Jobs). IsCount (numbers_in (connection_at s.node serial) js)) (sym same) (o.numbered serial))
    (λ serial. ap (λ (js : Jobs). numbers_in (connection_at s.node serial) (js ++ (items_of next ++ items_of old.waiting))) same)
    o.own
    (subst (λ (rs : List (Job × ℕ)). AllByRecursion (λ (x : Job × ℕ). IsReadOf s.node (item_of x.0)) rs) (sym (ran_opened 0 s.history worker)) o.reads)
    (subst (λ (es : List Entry). length (own_entries s.node es) ≤ length s.reservations) (sym (applied_opened s worker)) o.passed)
    (further s.seen seen s.reservations later o.met)
    (subst EachRises (sym (applied_opened s worker)) o.entries)
    o

-- connections changed, and are as many
pub members_order : (s : Standing) (old new : ReplicaState) (book : Book) (next : List Job) (members : List Member) → new ≡ record old { members = members }
    → length members ≡ length old.members → IsInOrder s old book next → IsInOrder s new book next
members_order s old new book next members is long o = subst (λ (r : ReplicaState). IsInOrder s r book next) (sym is) record {
  book_is = o.book_is;
  own = o.own;
  numbered = o.numbered;
  taken = o.taken;
  unopened = λ serial past.
      let before : length old.members ≤ serial = omega (arith, long) in
      o.unopened serial before;
  closed = λ serial past.
      let before : length old.members ≤ serial = omega (arith, long) in
      o.closed serial before;
  reads = o.reads;
  entries = o.entries;
  passed = o.passed;
  met = o.met;
}

-- what is owed changed
pub owed_order : (s : Standing) (old new : ReplicaState) (book : Book) (next : List Job) (owed : List (Option ℕ)) → new ≡ record old { owed = owed }
    → IsInOrder s old book next → IsInOrder s new book next
owed_order s old new book next owed is o = subst (λ (r : ReplicaState). IsInOrder s r book next) (sym is) record {
  book_is = o.book_is;
  own = o.own;
  numbered = o.numbered;
  taken = o.taken;
  unopened = o.unopened;
  closed = o.closed;
  reads = o.reads;
  entries = o.entries;
  passed = o.passed;
  met = o.met;
}
