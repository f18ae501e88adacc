-- The account of a connection goes once its end is in the record.
use Rattle.std.proofs.Common.{◌≡◌, ℕ, zero, suc, ◌<◌, ◌+◌, ◌-◌, inl, inr, Bool, true, false, cond, List, [], ◌∷◌, ◌++◌, length, map, refl, ap, sym, ◌∙◌, subst, arith, append_assoc, eqb, ltb}
use Rattle.std.specs.Prelude.{◌⊎◌, ◌&&◌, Option, Some, None, IfSome, option_map}
use Rattle.std.specs.List.{AllByRecursion, range_with_len}
use Rattle.std.specs.FinMap as finmap
use Rattle.std.proofs.lemmas.Bool.{cases_Bool, and_parts, and_from, eq-eqb, eqb-true, ltb-true}
use Rattle.std.proofs.lemmas.Bool.Decides.{eqb_tells}
use Rattle.std.proofs.lemmas.List.{append-nil, length-append}
use Rattle.std.proofs.lemmas.List.FromFn.{length-range_with_len}
use Rattle.nr_model.specs.Bytes.{IsBeginningOf}
use Rattle.nr_model.specs.Items.{Connection, Item, Sequence, same_connection, is_end}
use Rattle.nr_model.specs.Entries.{Jobs, entry_items}
use Rattle.nr_model.specs.Asked.{own_jobs, first_number}
use Rattle.nr_model.proofs.NodesPartsEmitted.{begins_itself, begins_on}
use Rattle.nr_entry.specs.Jobs.{items_of}
use Rattle.nr_entry.specs.declared.job.Job.{Job}
use Rattle.nr_log_end.specs.declared.standing.Standing.{Standing}
use Rattle.nr_log_end.specs.Standings.{record_of}
use Rattle.nr_job_numbers.specs.declared.account.Account.{Account}
use Rattle.nr_job_numbers.specs.Account.{ends_with, back_to, back_by}
use Rattle.nr_job_numbers.specs.Stored.{Held, numbers_in, CountsTo, ends_by, closed_one}
use Rattle.nr_job_numbers.specs.Book.{Book, without_ended, HasGoneBack}
use Rattle.nr_job_numbers.proofs.Counts.{closed_counts}
use Rattle.nr_replica.specs.Members.{Member, worker_of}
use Rattle.nr_replica.specs.Replicas.{ReplicaState}
use Rattle.nr_node.specs.Level.{IsCount, IsInOrder, connection_at, unpassed, jobs_reserved, logged, all_jobs}
use Rattle.nr_node.specs.Owing.{HasAccounts, unexecuted}
use Rattle.nr_node.specs.Advanced.{IsClosedAt, HasClosed}
use Rattle.nr_node.proofs.Lists.{numbers-append, numbers_entry, counts_front}
use Rattle.nr_node.proofs.Orders.{first_counted}
use Rattle.nr_node.proofs.Owed.{all_back}
use Rattle.nr_node.proofs.Served.{removed_here, removed_elsewhere}

-- the numbers 0, 1, 2 and so on are below their count
below_range : (n count : ℕ) → AllByRecursion (λ x. x < n + count) (range_with_len n count)
below_range n zero = tt
below_range n (suc count) =
    (omega arith, subst (λ (m : ℕ). AllByRecursion (λ x. x < m) (range_with_len (n + 1) count)) (omega arith) (below_range (n + 1) count))

below_length : (numbers : List ℕ) → IsCount numbers → AllByRecursion (λ x. x < length numbers) numbers
below_length numbers is =
    let count = length numbers in
    subst (λ (ns : List ℕ). AllByRecursion (λ x. x < count) ns) (sym is)
    (subst (λ (m : ℕ). AllByRecursion (λ x. x < m) (range_with_len 0 count)) (omega arith) (below_range 0 count))

-- a job, where it is of the node, is among those of its connection in a record
abbrev pub IsIn : ℕ → Sequence → Item → Type 0
IsIn node done job = job.connection.node ≡ node → job.number < length (numbers_in job.connection done)

split_head : (P : ℕ → Type 0) (b : Bool) (job : Item) (rest : Jobs) → AllByRecursion P (map (λ (j : Item). j.number) (cond b (job ∷ rest) rest))
    → (b ≡ true → P job.number) × AllByRecursion P (map (λ (j : Item). j.number) rest)
split_head P true job rest all = (λ _. all.0, all.1)
split_head P false job rest all = (λ e. absurd (cc e), all)

all_in : (node : ℕ) (done : Sequence) (jobs : Jobs)
    → ((serial : ℕ) → AllByRecursion (λ x. x < length (numbers_in (connection_at node serial) done)) (numbers_in (connection_at node serial) jobs))
    → AllByRecursion (IsIn node done) jobs
all_in node done [] all = tt
all_in node done (job ∷ jobs) all = (
  λ own.
      let serial = job.connection.serial in
      let c = connection_at node serial in
      let same : c ≡ job.connection = λ i. record { node = sym own i; serial = serial } in
      let here : same_connection job.connection c ≡ true =
      and_from (eqb job.connection.node node) (eqb serial serial) (eq-eqb job.connection.node node own) (eq-eqb serial serial refl) in
      let head = (split_head (λ x. x < length (numbers_in c done)) (same_connection job.connection c) job (own_jobs c jobs) (all serial)).0 here in
      subst (λ (d : Connection). job.number < length (numbers_in d done)) same head,
  all_in node done jobs (λ serial.
      let c = connection_at node serial in
      (split_head (λ x. x < length (numbers_in c done)) (same_connection job.connection c) job (own_jobs c jobs) (all serial)).1),
)

-- those of an entry that was passed last are in the record
pub entry_in : (t : Standing) (front : Sequence) (jobs : Jobs) → record_of t.history ≡ front ++ entry_items jobs
    → ((serial : ℕ) → IsCount (numbers_in (connection_at t.node serial) (record_of t.history))) → AllByRecursion (IsIn t.node (record_of t.history)) jobs
entry_in t front jobs is counted = all_in t.node (record_of t.history) jobs (λ serial.
    let c = connection_at t.node serial in
    let done = record_of t.history in
    let all = below_length (numbers_in c done) (counted serial) in
    let apart : numbers_in c done ≡ numbers_in c front ++ numbers_in c jobs =
    ap (numbers_in c) is ∙ numbers-append c front (entry_items jobs) ∙ ap (λ (ns : List ℕ). numbers_in c front ++ ns) (numbers_entry c jobs) in
    all_back (λ x. x < length (numbers_in c done)) (numbers_in c front) (numbers_in c jobs)
    (subst (λ (ns : List ℕ). AllByRecursion (λ x. x < length (numbers_in c done)) ns) apart all))

pub counted_record : (t : Standing) (new : ReplicaState) (book : Book) (next : List Job) → IsInOrder t new book next
    → (serial : ℕ) → IsCount (numbers_in (connection_at t.node serial) (record_of t.history))
counted_record t new book next o serial =
    let c = connection_at t.node serial in
    first_counted c (record_of t.history) (jobs_reserved (unpassed t)) (logged t) (sym (numbers-append c (record_of t.history) (jobs_reserved (unpassed t)))) (o.numbered serial)

-- nothing was closed
pub still_closed : (done : Sequence) (book : Book) → HasClosed done book book
still_closed done book = record { node = refl; last = refl; accounts = λ serial. inl refl }

begins_numbers : (c : Connection) (done more : Sequence) → IsBeginningOf done more → IsBeginningOf (numbers_in c done) (numbers_in c more)
begins_numbers c done more b = (numbers_in c b.0, sym (numbers-append c done b.0) ∙ ap (numbers_in c) b.1)

if_later : (c : Connection) (done more : Sequence) (o : Option Account) → IsBeginningOf done more
    → IfSome o (λ (account : Account). (account.is_ended ≡ true) × IsBeginningOf (range_with_len 0 account.next) (numbers_in c done))
    → IfSome o (λ (account : Account). (account.is_ended ≡ true) × IsBeginningOf (range_with_len 0 account.next) (numbers_in c more))
if_later c done more None grows h = tt
if_later c done more (Some account) grows h =
    (h.0, begins_on (range_with_len 0 account.next) (numbers_in c done) (numbers_in c more) h.1 (begins_numbers c done more grows))

-- none that is gone is there again
none_still : (c : Connection) (done : Sequence) (old new : Option Account) → old ≡ None → IsClosedAt done c old new → new ≡ None
none_still c done old new none (inl same) = same ∙ none
none_still c done old new none (inr (inl gone)) = gone.0
none_still c done old new none (inr (inr back)) = back.1 ∙ ap (option_map (back_to back.0)) none

-- one that went back isn't gone, since its end wasn't taken, and may go back again
back_then : (c : Connection) (done : Sequence) (number : ℕ) (old new : Option Account) → IsClosedAt done c (option_map (back_to number) old) new → IsClosedAt done c old new
back_then c done number None new h = h
back_then c done number (Some a) new (inl same) = inr (inr (number, same))
back_then c done number (Some a) new (inr (inl gone)) = absurd (cc gone.1.0)
back_then c done number (Some a) new (inr (inr again)) = inr (inr (again.0, again.1))

-- some were, and then others
closed_at_then : (c : Connection) (done more : Sequence) (x y z : Option Account) → IsBeginningOf done more → IsClosedAt done c x y → IsClosedAt more c y z
    → IsClosedAt more c x z
closed_at_then c done more x y z grows (inl before) last = subst (λ (o : Option Account). IsClosedAt more c o z) before last
closed_at_then c done more x y z grows (inr (inl gone)) last = inr (inl (none_still c more y z gone.0 last, if_later c done more x grows gone.1))
closed_at_then c done more x y z grows (inr (inr back)) last = back_then c more back.0 x z (subst (λ (o : Option Account). IsClosedAt more c o z) back.1 last)

pub closed_then : (done more : Sequence) (a b c : Book) → IsBeginningOf done more → HasClosed done a b → HasClosed more b c → HasClosed more a c
closed_then done more a b c grows first last = record {
  node = last.node ∙ first.node;
  last = last.last ∙ first.last;
  accounts = λ serial. closed_at_then (connection_at a.node serial) done more (finmap.get a.held serial) (finmap.get b.held serial) (finmap.get c.held serial) grows
      (first.accounts serial)
      (subst (λ (n : ℕ). IsClosedAt more (connection_at n serial) (finmap.get b.held serial) (finmap.get c.held serial)) first.node (last.accounts serial));
}

-- accounts went back
back_at : (done : Sequence) (c : Connection) (number : Option ℕ) (old new : Option Account) → new ≡ option_map (back_by number) old → IsClosedAt done c old new
back_at done c None None new is = inl is
back_at done c None (Some a) new is = inl is
back_at done c (Some number) old new is = inr (inr (number, is))

pub back_closed : (done : Sequence) (dropped : Jobs) (book back : Book) → HasGoneBack dropped book back → HasClosed done book back
back_closed done dropped book back goes = record {
  node = goes.node;
  last = goes.last;
  accounts = λ serial.
      let c = connection_at book.node serial in
      back_at done c (first_number (own_jobs c dropped)) (finmap.get book.held serial) (finmap.get back.held serial) (goes.accounts serial);
}

-- accounts that are left are of the workers that they were of
back_worker : (number : ℕ) (o : Option Account) (account : Account) → option_map (back_to number) o ≡ Some account
    → (a : Account) × (o ≡ Some a) × (account.worker ≡ a.worker)
back_worker number None account is = absurd (cc is)
back_worker number (Some a) account is =
    let same : back_to number a ≡ account = cc is in
    (a, refl, ap (λ (x : Account). x.worker) (sym same))

pub closed_accounts : (done : Sequence) (members : List Member) (old new : Book) → HasClosed done old new → HasAccounts old.node members old.held
    → HasAccounts new.node members new.held
closed_accounts done members old new h has serial account at =
    subst (λ (n : ℕ). (serial < length members) × (account.worker ≡ worker_of members (connection_at n serial))) (sym h.node) (elim (h.accounts serial) [
      | inl same ↦ has serial account (sym same ∙ at)
      | inr changed ↦ elim changed [
        | inl gone ↦ absurd (cc (sym gone.0 ∙ at))
        | inr back ↦
            let was = back_worker back.0 (finmap.get old.held serial) account (sym back.1 ∙ at) in
            let a = has serial was.0 was.1 in
            (a.0, was.2 ∙ a.1)
      ]
    ])

-- what is found once a job was executed
closed_at : (node : ℕ) (held : Held) (job : Item) (q : ℕ) → (finmap.get (closed_one node held job) q ≡ finmap.get held q)
    ⊎ ((finmap.get (closed_one node held job) q ≡ None) × (q ≡ job.connection.serial) × (job.connection.node ≡ node)
    × (ends_by job (finmap.get held job.connection.serial) ≡ true))
closed_at node held job q =
    let s = job.connection.serial in
    let at = λ (b : Bool). finmap.get (cond b (finmap.remove held s) held) q in
    elim (cases_Bool (eqb job.connection.node node && ends_by job (finmap.get held s))) [
      | inl e ↦
          let parts = and_parts (eqb job.connection.node node) (ends_by job (finmap.get held s)) e in
          elim (eqb_tells q s) [
            | inl here ↦ inr (ap at e ∙ ap (finmap.get (finmap.remove held s)) here.1 ∙ removed_here held s, here.1, eqb-true job.connection.node node parts.0, parts.1)
            | inr apart ↦ inl (ap at e ∙ removed_elsewhere held s q apart.1)
          ]
      | inr e ↦ inl (ap at e)
    ]

none_stays : (node : ℕ) (held : Held) (job : Item) (q : ℕ) → finmap.get held q ≡ None → finmap.get (closed_one node held job) q ≡ None
none_stays node held job q none = elim (closed_at node held job q) [ inl same ↦ same ∙ none | inr gone ↦ gone.0 ]

one_order : (t : Standing) (new : ReplicaState) (book : Book) (next : List Job) (job : Item) → IsInOrder t new book next
    → IsInOrder t new (without_ended (job ∷ []) book) next
one_order t new book next job o = record {
  book_is = o.book_is;
  own = o.own;
  numbered = o.numbered;
  taken = closed_counts book.node book.held (all_jobs t next new.waiting) job o.taken;
  unopened = o.unopened;
  closed = λ serial past. none_stays book.node book.held job serial (o.closed serial past);
  reads = o.reads;
  entries = o.entries;
  passed = o.passed;
  met = o.met;
}

last_number : (job : Item) (a : Account) → ends_with job a ≡ true → (a.is_ended ≡ true) × (job.number + 1 ≡ a.next)
last_number job a e =
    let both = and_parts ((a.is_ended && is_end job.deed) && ltb job.number a.next) (eqb (a.next - job.number) 1) e in
    let front = and_parts (a.is_ended && is_end job.deed) (ltb job.number a.next) both.0 in
    let less = ltb-true job.number a.next front.1 in
    let one = eqb-true (a.next - job.number) 1 both.1 in
    ((and_parts a.is_ended (is_end job.deed) front.0).0, omega (arith, less, one))

-- numbers with the last of all are all
done_whole : (numbers more : List ℕ) (next number : ℕ) → numbers ++ more ≡ range_with_len 0 next → number < length numbers → number + 1 ≡ next
    → numbers ≡ range_with_len 0 next
done_whole numbers more next number is below last =
    let all : length (numbers ++ more) ≡ next = ap length is ∙ length-range_with_len 0 next in
    let parts = length-append numbers more in
    let front : numbers ≡ range_with_len 0 (length numbers) = counts_front numbers more (is ∙ ap (range_with_len 0) (sym all)) in
    let same : length numbers ≡ next = omega (arith, all, parts, below, last) in
    front ∙ ap (range_with_len 0) same

if_some : (o : Option Account) (P : Account → Type 0) → ((a : Account) → o ≡ Some a → P a) → IfSome o P
if_some None P h = tt
if_some (Some a) P h = h a refl

one_closed : (t : Standing) (new : ReplicaState) (book : Book) (next : List Job) (job : Item) → IsIn t.node (record_of t.history) job
    → IsInOrder t new book next → HasClosed (record_of t.history) book (without_ended (job ∷ []) book)
one_closed t new book next job there o = record {
  node = refl;
  last = refl;
  accounts = λ serial.
      let done = record_of t.history in
      let c = connection_at book.node serial in
      elim (closed_at book.node book.held job serial) [
        | inl same ↦ inl same
        | inr gone ↦ inr (inl (
          gone.0,
          if_some (finmap.get book.held serial) (λ a. (a.is_ended ≡ true) × IsBeginningOf (range_with_len 0 a.next) (numbers_in c done)) (λ a at.
              let here : finmap.get book.held job.connection.serial ≡ Some a = ap (finmap.get book.held) (sym gone.1) ∙ at in
              let last = last_number job a (sym (ap (ends_by job) here) ∙ gone.3) in
              let rest = unexecuted t next new.waiting in
              let taken : numbers_in c (all_jobs t next new.waiting) ≡ range_with_len 0 a.next =
              subst (λ (o : Option Account). CountsTo (λ (x : Account). x.next) o (numbers_in c (all_jobs t next new.waiting))) at (o.taken serial) in
              let apart : all_jobs t next new.waiting ≡ done ++ rest = append_assoc done (jobs_reserved (unpassed t)) (items_of next ++ items_of new.waiting) in
              let same : job.connection ≡ c = λ i. record { node = gone.2 i; serial = sym gone.1 i } in
              let inside : job.number < length (numbers_in c done) = subst (λ (d : Connection). job.number < length (numbers_in d done)) same (there (gone.2 ∙ o.book_is)) in
              let whole = done_whole (numbers_in c done) (numbers_in c rest) a.next job.number (sym (numbers-append c done rest) ∙ sym (ap (numbers_in c) apart) ∙ taken) inside last.1 in
              (last.0, ([], append-nil (range_with_len 0 a.next) ∙ sym whole))),
        ))
      ];
}

-- all of an entry's were executed
pub all_closed : (t : Standing) (new : ReplicaState) (next : List Job) (jobs : Jobs) (book later : Book)
    → AllByRecursion (IsIn t.node (record_of t.history)) jobs → later ≡ without_ended jobs book → IsInOrder t new book next
    → IsInOrder t new later next × HasClosed (record_of t.history) book later
all_closed t new next [] book later all is o = (
  subst (λ (b : Book). IsInOrder t new b next) (sym is) o,
  subst (HasClosed (record_of t.history) book) (sym is) (still_closed (record_of t.history) book),
)
all_closed t new next (job ∷ jobs) book later all is o =
    let done = record_of t.history in
    let mid = without_ended (job ∷ []) book in
    let rest = all_closed t new next jobs mid later all.1 is (one_order t new book next job o) in
    (rest.0, closed_then done done book mid later (begins_itself done) (one_closed t new book next job all.0 o) rest.1)
