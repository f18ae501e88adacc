-- The numbers of the jobs that a node has logged, below the next one.
use Rattle.std.proofs.Common.{◌≡◌, ℕ, zero, suc, ◌+◌, ◌<◌, ◌≤◌, Bool, true, false, cond, List, [], ◌∷◌, ◌++◌, length, map, drop, Option, refl, ap, sym, ◌∙◌, subst, append_assoc, arith}
use Rattle.std.specs.Prelude.{◌&&◌, ◌==◌}
use Rattle.std.specs.List.{AllByRecursion}
use Rattle.std.proofs.lemmas.List.{append-nil, drop-append-le, length-append}
use Rattle.nr_entry.specs.Jobs.{item_of, items_of}
use Rattle.nr_entry.specs.Shares.{shares_of}
use Rattle.nr_entry.specs.declared.entry.Entry.{Entry}
use Rattle.nr_entry.specs.declared.job.Job.{Job}
use Rattle.nr_log_end.specs.Numbers.{IsRising, AreRising, numbers_of, connection_at}
use Rattle.nr_log_end.specs.declared.standing.Standing.{Standing}
use Rattle.nr_log_end.specs.declared.standing.LogEvent.TheVariants.{Applied}
use Rattle.nr_log_end.specs.Standings.{applied_of, record_of, passed_of, own_from, own_entries, unpassed, jobs_reserved, jobs_in, logged, StandsInLog, reservation, reserved_as, fetched_with, passed_on}
use Rattle.nr_log_end.proofs.Rising.{rising_front}
use Rattle.nr_log_end.proofs.Numbered.{applied-append, numbers-append, numbers_behind, numbers_own, numbers_passed, behind_known, unpassed_behind}
use Rattle.nr_log_tests.specs.Ready.{IsJobOf, IsOfNode, IsBefore}

-- one more behind numbers that rise
above_all : (k n m : ℕ) (xs : List ℕ) → n < m → AllByRecursion (λ (x : ℕ). k < x) (xs ++ n ∷ []) → AllByRecursion (λ (x : ℕ). k < x) (xs ++ n ∷ m ∷ [])
above_all k n m [] h all = let low : k < n = all.0 in (low, (omega (arith, h, low), tt))
above_all k n m (x ∷ xs) h all = (all.0, above_all k n m xs h all.1)

one_more : (n m : ℕ) (xs : List ℕ) → n < m → IsRising (xs ++ n ∷ []) → IsRising (xs ++ n ∷ m ∷ [])
one_more n m [] h r = ((h, tt), (tt, tt))
one_more n m (x ∷ xs) h r = (above_all x n m xs h r.0, one_more n m xs h r.1)

-- a greater one in the place of the last
above_last : (k n m : ℕ) (xs : List ℕ) → n ≤ m → AllByRecursion (λ (x : ℕ). k < x) (xs ++ n ∷ []) → AllByRecursion (λ (x : ℕ). k < x) (xs ++ m ∷ [])
above_last k n m [] h all = let low : k < n = all.0 in (omega (arith, h, low), tt)
above_last k n m (x ∷ xs) h all = (all.0, above_last k n m xs h all.1)

greater_last : (n m : ℕ) (xs : List ℕ) → n ≤ m → IsRising (xs ++ n ∷ []) → IsRising (xs ++ m ∷ [])
greater_last n m [] h r = (tt, tt)
greater_last n m (x ∷ xs) h r = (above_last x n m xs h r.0, greater_last n m xs h r.1)

-- a greater next number
pub before_greater : (n m : ℕ) (s : Standing) → n ≤ m → IsBefore n s → IsBefore m s
before_greater n m s h b = (b.0, λ serial. greater_last n m (numbers_of (connection_at s.node serial) (logged s)) h (b.1 serial))

-- of a connection the entry's job has the one number, or none
number_or_none : {A : Type 0} (number : A → ℕ) (own : Bool) (x : A) → map number (cond own (x ∷ []) []) ≡ cond own (number x ∷ []) []
number_or_none number true x = refl
number_or_none number false x = refl

owned : (n m k : ℕ) (own : Bool) (xs : List ℕ) → n < m → k ≡ n → IsRising (xs ++ n ∷ [])
    → IsRising (xs ++ cond own (k ∷ []) []) × IsRising ((xs ++ cond own (k ∷ []) []) ++ m ∷ [])
owned n m k true xs h is r =
    let here : xs ++ n ∷ [] ≡ xs ++ k ∷ [] = ap (λ (x : ℕ). xs ++ x ∷ []) (sym is) in (
      subst IsRising here r,
      subst IsRising (sym (append_assoc xs (n ∷ []) (m ∷ [])) ∙ ap (λ (ns : List ℕ). ns ++ m ∷ []) here) (one_more n m xs h r),
    )
owned n m k false xs h is r = (
  subst IsRising (sym (append-nil xs)) (rising_front xs (n ∷ []) r),
  subst (λ (ns : List ℕ). IsRising (ns ++ m ∷ [])) (sym (append-nil xs)) (greater_last n m xs (omega (arith, h)) r),
)

both_rise : (n serial : ℕ) (s : Standing) (jobs : List Job) → IsJobOf n jobs → IsRising (numbers_of (connection_at s.node serial) (logged s) ++ n ∷ [])
    → IsRising (numbers_of (connection_at s.node serial) (logged s ++ items_of jobs))
    × IsRising (numbers_of (connection_at s.node serial) (logged s ++ items_of jobs) ++ (n + 1) ∷ [])
both_rise n serial s jobs one r =
    let c = connection_at s.node serial in
    let job = one.0 in
    let own = (job.conn.node == s.node) && (job.conn.serial == serial) in
    let xs = numbers_of c (logged s) in
    let all : numbers_of c (logged s ++ items_of jobs) ≡ xs ++ cond own (job.number ∷ []) [] =
    ap (λ (js : List Job). numbers_of c (logged s ++ items_of js)) one.1
    ∙ numbers-append c (logged s) (item_of job ∷ [])
    ∙ ap (λ (ns : List ℕ). xs ++ ns) (number_or_none _ own (item_of job)) in
    let two = owned n (n + 1) job.number own xs (omega arith) one.2 r in
    (subst IsRising (sym all) two.0, subst (λ (ns : List ℕ). IsRising (ns ++ (n + 1) ∷ [])) (sym all) two.1)

-- an entry of the next number may be reserved
pub next_rises : (n : ℕ) (s : Standing) (entry : Entry) → IsJobOf n entry.jobs.items → IsBefore n s → AreRising s.node (logged s ++ items_of entry.jobs.items)
next_rises n s entry one b = λ serial. (both_rise n serial s entry.jobs.items one (b.1 serial)).0

-- it was reserved
reserved-append : (rs more : List (ℕ × Entry)) → jobs_reserved (rs ++ more) ≡ jobs_reserved rs ++ jobs_reserved more
reserved-append [] more = refl
reserved-append (r ∷ rs) more =
    let items = items_of r.1.jobs.items in
    ap (λ js. items ++ js) (reserved-append rs more) ∙ sym (append_assoc items (jobs_reserved rs) (jobs_reserved more))

one_reserved : (at nodes : ℕ) (entry : Entry) → 0 < nodes → reservation at (shares_of entry nodes) ≡ (at, entry) ∷ []
one_reserved at zero entry some = absurd (omega (arith, some))
one_reserved at (suc nodes) entry some = refl

logged_reserved : (s : Standing) (at : ℕ) (shares : List (Option Entry)) (entry : Entry) → reservation at shares ≡ (at, entry) ∷ []
    → length (own_entries s.node (applied_of s.history)) ≤ length s.reservations
    → logged (reserved_as at shares s) ≡ logged s ++ items_of entry.jobs.items
logged_reserved s at shares entry one passed =
    let done = record_of s.history in
    let count = length (own_entries s.node (applied_of s.history)) in
    let items = items_of entry.jobs.items in
    let left : drop count (s.reservations ++ reservation at shares) ≡ unpassed s ++ (at, entry) ∷ [] =
    ap (λ (rs : List (ℕ × Entry)). drop count (s.reservations ++ rs)) one ∙ drop-append-le count s.reservations ((at, entry) ∷ []) passed in
    let jobs : jobs_reserved (unpassed (reserved_as at shares s)) ≡ jobs_reserved (unpassed s) ++ items =
    ap jobs_reserved left ∙ reserved-append (unpassed s) ((at, entry) ∷ []) ∙ ap (λ js. jobs_reserved (unpassed s) ++ js) (append-nil items) in
    ap (λ js. done ++ js) jobs ∙ sym (append_assoc done (jobs_reserved (unpassed s)) items)

pub before_reserved : (node nodes n at : ℕ) (s : Standing) (shares : List (Option Entry)) → 0 < nodes → IsOfNode node nodes n shares → IsBefore n s
    → IsBefore (n + 1) (reserved_as at shares s)
before_reserved node nodes n at s shares some q b =
    let entry = q.0 in
    let one : reservation at shares ≡ (at, entry) ∷ [] = ap (reservation at) q.1 ∙ one_reserved at nodes entry some in
    let same = logged_reserved s at shares entry one b.0 in
    let long = length-append s.reservations (reservation at shares) in
    let low = b.0 in (
      omega (arith, long, low),
      λ serial.
          let c = connection_at s.node serial in
          subst (λ js. IsRising (numbers_of c js ++ (n + 1) ∷ [])) (sym same) (both_rise n serial s entry.jobs.items q.3 (b.1 serial)).1,
    )

-- an entry is passed
known_more : (s : Standing) (e : Entry) → applied_of (passed_on (fetched_with e s)).history ≡ applied_of s.history ++ e ∷ []
known_more s e = applied-append s.history (Applied e ∷ [])

own_passed : (s : Standing) (e : Entry) → StandsInLog (fetched_with e s)
    → length (own_entries s.node (applied_of (passed_on (fetched_with e s)).history)) ≤ length s.reservations
own_passed s e stands =
    let known = applied_of (passed_on (fetched_with e s)).history in
    let rest = stands.1.0 in
    let begins : known ++ rest ≡ stands.0 = ap (λ (es : List Entry). es ++ rest) (known_more s e) ∙ stands.1.1 in
    let all = ap length (stands.3 ∙ behind_known s.node known rest stands.0 begins) in
    let both = length-append (own_entries s.node known) (own_from s.node (length known) rest) in
    omega (arith, all, both)

-- of the node's connections what it has still to pass has the numbers that the log has behind what it passed
numbers_left : (serial : ℕ) (s : Standing) (rest log : List Entry) → applied_of s.history ++ rest ≡ log → s.reservations ≡ own_entries s.node log
    → numbers_of (connection_at s.node serial) (jobs_reserved (unpassed s)) ≡ numbers_of (connection_at s.node serial) (jobs_in rest)
numbers_left serial s rest log begins are =
    let c = connection_at s.node serial in
    ap (λ (rs : List (ℕ × Entry)). numbers_of c (jobs_reserved rs)) (unpassed_behind s.node (applied_of s.history) rest log s.reservations begins are)
    ∙ numbers_own c s.node (passed_of s) rest refl

logged_passed : (serial : ℕ) (s : Standing) (e : Entry) → StandsInLog (fetched_with e s)
    → numbers_of (connection_at s.node serial) (logged (passed_on (fetched_with e s))) ≡ numbers_of (connection_at s.node serial) (logged s)
logged_passed serial s e stands =
    let c = connection_at s.node serial in
    let t = passed_on (fetched_with e s) in
    let known = applied_of s.history in
    let rest = stands.1.0 in
    let before = numbers_left serial s (e ∷ rest) stands.0 (sym (append_assoc known (e ∷ []) rest) ∙ stands.1.1) stands.3 in
    let after = numbers_left serial t rest stands.0 (ap (λ (es : List Entry). es ++ rest) (known_more s e) ∙ stands.1.1) stands.3 in
    numbers_behind c (record_of t.history) (jobs_reserved (unpassed t)) (jobs_in rest) after
    ∙ numbers_passed c s.history e rest
    ∙ numbers_behind c (record_of s.history) (jobs_in (e ∷ rest)) (jobs_reserved (unpassed s)) (sym before)

pub before_passed : (n : ℕ) (s : Standing) (e : Entry) → StandsInLog (fetched_with e s) → IsBefore n s → IsBefore n (passed_on (fetched_with e s))
before_passed n s e stands b = (
  own_passed s e stands,
  λ serial. subst (λ (ns : List ℕ). IsRising (ns ++ n ∷ [])) (sym (logged_passed serial s e stands)) (b.1 serial),
)
