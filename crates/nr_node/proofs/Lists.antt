-- The record of a node, its entries in the log, and the numbers of a connection's jobs, where one more is done, passed or reserved.
use Rattle.std.proofs.Common.{◌≡◌, ℕ, zero, suc, ◌+◌, ◌<◌, ◌≤◌, Bool, true, false, cond, List, [], ◌∷◌, ◌++◌, length, map, drop, Option, None, refl, ap, sym, ◌∙◌, subst, append_assoc, arith}
use Rattle.std.specs.Prelude.{◌==◌, option_to_list}
use Rattle.std.specs.List.{AllByRecursion, range_with_len}
use Rattle.std.proofs.lemmas.List.{append-nil, drop-append-le, length-append, map-append}
use Rattle.nr_model.specs.Items.{Connection, Item}
use Rattle.nr_model.specs.Entries.{Jobs, entry_items, entry_jobs, left_by_entry, read_jobs, left_by_reads}
use Rattle.nr_model.specs.Asked.{own_jobs}
use Rattle.nr_model.proofs.Choices.{entry_apart, reads_apart}
use Rattle.nr_model.proofs.NodesOwnLists.{All-drop}
use Rattle.nr_entry.specs.Jobs.{item_of, items_of}
use Rattle.nr_entry.specs.Shares.{shares_of}
use Rattle.nr_entry.specs.declared.entry.Entry.{Entry}
use Rattle.nr_entry.specs.declared.job.Job.{Job}
use Rattle.nr_log_end.specs.declared.standing.Standing.{Standing}
use Rattle.nr_log_end.specs.declared.standing.LogEvent.{LogEvent}
use Rattle.nr_log_end.specs.declared.standing.LogEvent.TheVariants.{Applied, Ran, Opened}
use Rattle.nr_log_end.specs.Standings.{applied_of, opened_of, ran_from, ran_of, record_of, passed_of, own_from, own_entries, StandsInLog, reservation, reserved_as, opened_with, fetched_with, passed_on, noted_with, EachRises}
pub use Rattle.nr_log_end.proofs.Numbered.{record-append, applied-append, own-append, numbers-append, numbers_entry, numbers_other}
use Rattle.nr_log_end.proofs.Numbered.{behind_known, each_rises_front, numbers_front, unpassed_behind}
use Rattle.nr_job_numbers.specs.Stored.{numbers_in}
use Rattle.nr_node.specs.OwnEntries.{AreAhead}
use Rattle.nr_node.specs.Level.{unpassed, jobs_reserved, logged}

-- which connections were opened, in one history behind another
pub opened-append : (turns more : List LogEvent) → opened_of (turns ++ more) ≡ opened_of turns ++ opened_of more
opened-append [] more = refl
opened-append (Applied entry ∷ turns) more = opened-append turns more
opened-append (Ran job ∷ turns) more = opened-append turns more
opened-append (Opened worker ∷ turns) more = ap (λ (workers : List ℕ). worker ∷ workers) (opened-append turns more)

-- a connection that was opened adds nothing to the record, and no entry
pub record_opened : (s : Standing) (worker : ℕ) → record_of (s.history ++ Opened worker ∷ []) ≡ record_of s.history
record_opened s worker = record-append s.history (Opened worker ∷ []) ∙ append-nil (record_of s.history)

pub applied_opened : (s : Standing) (worker : ℕ) → applied_of (s.history ++ Opened worker ∷ []) ≡ applied_of s.history
applied_opened s worker = applied-append s.history (Opened worker ∷ []) ∙ append-nil (applied_of s.history)

pub unpassed_opened : (s : Standing) (worker seen : ℕ) → unpassed (opened_with worker seen s) ≡ unpassed s
unpassed_opened s worker seen = ap (λ (es : List Entry). drop (length (own_entries s.node es)) s.reservations) (applied_opened s worker)

-- none is opened by what is applied or run
pub opened_still : (turns more : List LogEvent) → opened_of more ≡ [] → opened_of (turns ++ more) ≡ opened_of turns
opened_still turns more none = opened-append turns more ∙ ap (λ (workers : List ℕ). opened_of turns ++ workers) none ∙ append-nil (opened_of turns)

pub none_opened : (jobs : List Job) → opened_of (map Ran jobs) ≡ []
none_opened [] = refl
none_opened (job ∷ jobs) = none_opened jobs

-- what holds of the jobs that were run
ran_anyhow : (P : Job → Type 0) (m n : ℕ) (turns : List LogEvent) → AllByRecursion (λ (r : Job × ℕ). P r.0) (ran_from m turns)
    → AllByRecursion (λ (r : Job × ℕ). P r.0) (ran_from n turns)
ran_anyhow P m n [] all = tt
ran_anyhow P m n (Applied entry ∷ turns) all = ran_anyhow P (suc m) (suc n) turns all
ran_anyhow P m n (Ran job ∷ turns) all = (all.0, ran_anyhow P m n turns all.1)
ran_anyhow P m n (Opened worker ∷ turns) all = ran_anyhow P m n turns all

ran_behind : (P : Job → Type 0) (n : ℕ) (turns more : List LogEvent) → AllByRecursion (λ (r : Job × ℕ). P r.0) (ran_from n turns)
    → AllByRecursion (λ (r : Job × ℕ). P r.0) (ran_of more) → AllByRecursion (λ (r : Job × ℕ). P r.0) (ran_from n (turns ++ more))
ran_behind P n [] more all both = ran_anyhow P 0 n more both
ran_behind P n (Applied entry ∷ turns) more all both = ran_behind P (suc n) turns more all both
ran_behind P n (Ran job ∷ turns) more all both = (all.0, ran_behind P n turns more all.1 both)
ran_behind P n (Opened worker ∷ turns) more all both = ran_behind P n turns more all both

pub ran-append : (P : Job → Type 0) (turns more : List LogEvent) → AllByRecursion (λ (r : Job × ℕ). P r.0) (ran_of turns)
    → AllByRecursion (λ (r : Job × ℕ). P r.0) (ran_of more) → AllByRecursion (λ (r : Job × ℕ). P r.0) (ran_of (turns ++ more))
ran-append P turns more all both = ran_behind P 0 turns more all both

-- the numbers of a connection's jobs
abbrev number : Item → ℕ
number job = job.number

-- the jobs that are taken, and those that are left
pub numbers_left_by_entry : (c : Connection) (waiting : Jobs) → numbers_in c (entry_jobs waiting) ++ numbers_in c (left_by_entry waiting) ≡ numbers_in c waiting
numbers_left_by_entry c waiting =
    sym (map-append number (own_jobs c (entry_jobs waiting)) (own_jobs c (left_by_entry waiting))) ∙ ap (map number) (sym (entry_apart c waiting))

pub numbers_left_by_reads : (c : Connection) (waiting : Jobs) → numbers_in c (read_jobs waiting) ++ numbers_in c (left_by_reads waiting) ≡ numbers_in c waiting
numbers_left_by_reads c waiting =
    sym (map-append number (own_jobs c (read_jobs waiting)) (own_jobs c (left_by_reads waiting))) ∙ ap (map number) (sym (reads_apart c waiting))

-- no more of the node's entries are known than it reserved
fewer_known : (node : ℕ) (known rest log : List Entry) (reservations : List (ℕ × Entry)) → known ++ rest ≡ log → reservations ≡ own_entries node log
    → length (own_entries node known) ≤ length reservations
fewer_known node known rest log reservations e are =
    let all = ap length (are ∙ behind_known node known rest log e) in
    let both = length-append (own_entries node known) (own_from node (length known) rest) in
    omega (arith, all, both)

-- one more is known
known_more : (s : Standing) (e : Entry) → applied_of (passed_on (fetched_with e s)).history ≡ applied_of s.history ++ e ∷ []
known_more s e = applied-append s.history (Applied e ∷ [])

pub still_in_log : (s : Standing) (e : Entry) → StandsInLog (fetched_with e s) → StandsInLog (passed_on (fetched_with e s))
still_in_log s e stands = (
  stands.0,
  (stands.1.0, ap (λ (known : List Entry). known ++ stands.1.0) (append-nil (applied_of (passed_on (fetched_with e s)).history) ∙ known_more s e) ∙ stands.1.1),
  stands.2,
  stands.3,
  stands.4,
)

-- the numbers of each connection's jobs rise along what is known then
pub entries_passed : (s : Standing) (e : Entry) → StandsInLog (fetched_with e s) → EachRises (applied_of (passed_on (fetched_with e s)).history)
entries_passed s e stands = subst EachRises (sym (known_more s e)) (each_rises_front (applied_of s.history ++ e ∷ []) stands.0 stands.1 stands.4)

pub own_passed : (s : Standing) (e : Entry) → StandsInLog (fetched_with e s)
    → length (own_entries s.node (applied_of (passed_on (fetched_with e s)).history)) ≤ length s.reservations
own_passed s e stands =
    fewer_known s.node (applied_of (passed_on (fetched_with e s)).history) stands.1.0 stands.0 s.reservations
    (ap (λ (known : List Entry). known ++ stands.1.0) (known_more s e) ∙ stands.1.1) stands.3

-- the entries that the node has still to pass before one more is passed, and behind it
before_passed : (s : Standing) (e : Entry) (stands : StandsInLog (fetched_with e s)) → unpassed s ≡ own_from s.node (passed_of s) (e ∷ stands.1.0)
before_passed s e stands =
    let known = applied_of s.history in
    unpassed_behind s.node known (e ∷ stands.1.0) stands.0 s.reservations (sym (append_assoc known (e ∷ []) stands.1.0) ∙ stands.1.1) stands.3

after_passed : (s : Standing) (e : Entry) (stands : StandsInLog (fetched_with e s))
    → unpassed (passed_on (fetched_with e s)) ≡ own_from s.node (suc (passed_of s)) stands.1.0
after_passed s e stands =
    let known = applied_of s.history in
    let rest = stands.1.0 in
    let long : length (known ++ e ∷ []) ≡ suc (length known) = length-append known (e ∷ []) ∙ omega arith in
    unpassed_behind s.node (applied_of (passed_on (fetched_with e s)).history) rest stands.0 s.reservations (ap (λ (es : List Entry). es ++ rest) (known_more s e) ∙ stands.1.1) stands.3
    ∙ ap (λ (k : ℕ). own_from s.node k rest) (ap length (known_more s e) ∙ long)

-- the jobs of one more that was reserved
reserved_by : (own : Bool) (n : ℕ) (e : Entry) (more : List (ℕ × Entry))
    → jobs_reserved (cond own ((n, e) ∷ more) more) ≡ cond own (items_of e.jobs.items ++ jobs_reserved more) (jobs_reserved more)
reserved_by true n e more = refl
reserved_by false n e more = refl

-- an entry of the node is the first of those that it has still to pass, and another node's is none of them
pub reserved_passed : (s : Standing) (e : Entry) → StandsInLog (fetched_with e s)
    → jobs_reserved (unpassed s) ≡ cond (e.node == s.node) (items_of e.jobs.items ++ jobs_reserved (unpassed (passed_on (fetched_with e s)))) (jobs_reserved (unpassed (passed_on (fetched_with e s))))
reserved_passed s e stands =
    let later = own_from s.node (suc (passed_of s)) stands.1.0 in
    ap jobs_reserved (before_passed s e stands) ∙ reserved_by (e.node == s.node) (passed_of s) e later
    ∙ ap (λ (rs : List (ℕ × Entry)). cond (e.node == s.node) (items_of e.jobs.items ++ jobs_reserved rs) (jobs_reserved rs)) (sym (after_passed s e stands))

pub logged_passed : (s : Standing) (e : Entry) (c : Connection) → StandsInLog (fetched_with e s) → c.node ≡ s.node
    → numbers_in c (logged (passed_on (fetched_with e s))) ≡ numbers_in c (logged s)
logged_passed s e c stands here =
    let t = passed_on (fetched_with e s) in
    let known = applied_of s.history in
    let rest = stands.1.0 in
    let items = items_of e.jobs.items in
    let done = numbers_in c (record_of s.history) in
    let later = own_from s.node (suc (length known)) rest in
    let before = before_passed s e stands in
    let after = after_passed s e stands in
    let front : numbers_in c (record_of t.history) ≡ done ++ numbers_in c items =
    ap (numbers_in c) (record-append s.history (Applied e ∷ []) ∙ ap (λ (is : Jobs). record_of s.history ++ is) (append-nil (entry_items items)))
    ∙ numbers-append c (record_of s.history) (entry_items items) ∙ ap (λ (ns : List ℕ). done ++ ns) (numbers_entry c items) in
    numbers-append c (record_of t.history) (jobs_reserved (unpassed t))
    ∙ (λ i. front i ++ numbers_in c (jobs_reserved (after i)))
    ∙ append_assoc done (numbers_in c items) (numbers_in c (jobs_reserved later))
    ∙ ap (λ (ns : List ℕ). done ++ ns) (numbers_front c s.node (length known) e rest here ∙ ap (λ (rs : List (ℕ × Entry)). numbers_in c (jobs_reserved rs)) (sym before))
    ∙ sym (numbers-append c (record_of s.history) (jobs_reserved (unpassed s)))

-- entries that come later have numbers of their own
later_on : (node least n : ℕ) (log : List Entry) → least ≤ n → AllByRecursion (λ (r : ℕ × Entry). least ≤ r.0) (own_from node n log)
later_on node least n [] h = tt
later_on node least n (entry ∷ log) h =
    let more = later_on node least (suc n) log (omega (arith, h)) in
    let rest = own_from node (suc n) log in
    elim (entry.node == node) as (λ own. AllByRecursion (λ (r : ℕ × Entry). least ≤ r.0) (cond own ((n, entry) ∷ rest) rest)) [
      | true ↦ (h, more)
      | false ↦ more
    ]

numbered_on : (node n : ℕ) (log : List Entry) → AllByRecursion (λ (r : ℕ × Entry). n ≤ r.0) (own_from node n log)
numbered_on node n log = later_on node n n log (omega arith)

none_between : (least most : ℕ) (rs : List (ℕ × Entry)) → most ≤ least → AllByRecursion (λ (r : ℕ × Entry). least ≤ r.0) rs
    → AllByRecursion (λ (r : ℕ × Entry). r.0 < most) rs → rs ≡ []
none_between least most [] h above below = refl
none_between least most (r ∷ rs) h above below =
    let low = above.0 in
    let high = below.0 in
    absurd (omega (arith, h, low, high))

-- what isn't passed yet is ahead
pub still_ahead : (s : Standing) → StandsInLog s → s.held ≡ None → AreAhead s
still_ahead s stands idle =
    let known = applied_of s.history in
    let rest = stands.1.0 in
    let begins : known ++ rest ≡ stands.0 =
    ap (λ (es : List Entry). es ++ rest) (sym (append-nil known) ∙ ap (λ (held : Option Entry). known ++ option_to_list held) (sym idle)) ∙ stands.1.1 in
    let left : unpassed s ≡ own_from s.node (length known) rest = unpassed_behind s.node known rest stands.0 s.reservations begins stands.3 in
    subst (AllByRecursion (λ (r : ℕ × Entry). length known ≤ r.0)) (sym left) (numbered_on s.node (length known) rest)

pub none_unpassed : (s : Standing) → StandsInLog s → s.held ≡ None → s.seen ≤ passed_of s → AllByRecursion (λ (r : ℕ × Entry). r.0 < s.seen) s.reservations
    → unpassed s ≡ []
none_unpassed s stands idle all met =
    none_between (passed_of s) s.seen (unpassed s) all (still_ahead s stands idle)
    (All-drop (λ (r : ℕ × Entry). r.0 < s.seen) (length (own_entries s.node (applied_of s.history))) s.reservations met)

-- one more is reserved
reserved-append : (rs more : List (ℕ × Entry)) → jobs_reserved (rs ++ more) ≡ jobs_reserved rs ++ jobs_reserved more
reserved-append [] more = refl
reserved-append (r ∷ rs) more =
    let items = items_of r.1.jobs.items in
    ap (λ (js : Jobs). items ++ js) (reserved-append rs more) ∙ sym (append_assoc items (jobs_reserved rs) (jobs_reserved more))

one_reserved : (at nodes : ℕ) (entry : Entry) → 0 < nodes → reservation at (shares_of entry nodes) ≡ (at, entry) ∷ []
one_reserved at zero entry some = absurd (omega (arith, some))
one_reserved at (suc nodes) entry some = refl

pub jobs_reserved_more : (s : Standing) (at : ℕ) (entry : Entry) → 0 < s.nodes → length (own_entries s.node (applied_of s.history)) ≤ length s.reservations
    → jobs_reserved (unpassed (reserved_as at (shares_of entry s.nodes) s)) ≡ jobs_reserved (unpassed s) ++ items_of entry.jobs.items
jobs_reserved_more s at entry some passed =
    let count = length (own_entries s.node (applied_of s.history)) in
    let items = items_of entry.jobs.items in
    let left : drop count (s.reservations ++ reservation at (shares_of entry s.nodes)) ≡ unpassed s ++ (at, entry) ∷ [] =
    ap (λ (rs : List (ℕ × Entry)). drop count (s.reservations ++ rs)) (one_reserved at s.nodes entry some)
    ∙ drop-append-le count s.reservations ((at, entry) ∷ []) passed in
    ap jobs_reserved left ∙ reserved-append (unpassed s) ((at, entry) ∷ []) ∙ ap (λ (js : Jobs). jobs_reserved (unpassed s) ++ js) (append-nil items)

pub logged_reserved : (s : Standing) (at : ℕ) (entry : Entry) → 0 < s.nodes → length (own_entries s.node (applied_of s.history)) ≤ length s.reservations
    → logged (reserved_as at (shares_of entry s.nodes) s) ≡ logged s ++ items_of entry.jobs.items
logged_reserved s at entry some passed =
    let done = record_of s.history in
    ap (λ (js : Jobs). done ++ js) (jobs_reserved_more s at entry some passed) ∙ sym (append_assoc done (jobs_reserved (unpassed s)) (items_of entry.jobs.items))

-- a read is noted
pub logged_noted : (s : Standing) (job : Job) (seen : ℕ) → unpassed s ≡ []
    → (logged (noted_with (job ∷ []) seen s) ≡ logged s ++ item_of job ∷ []) × (unpassed (noted_with (job ∷ []) seen s) ≡ [])
logged_noted s job seen none =
    let now = noted_with (job ∷ []) seen s in
    let same : applied_of now.history ≡ applied_of s.history = applied-append s.history (Ran job ∷ []) ∙ append-nil (applied_of s.history) in
    let still : unpassed now ≡ [] = ap (λ (es : List Entry). drop (length (own_entries s.node es)) s.reservations) same ∙ none in (
      ap (λ (rs : List (ℕ × Entry)). record_of now.history ++ jobs_reserved rs) still
          ∙ append-nil (record_of now.history)
          ∙ record-append s.history (Ran job ∷ [])
          ∙ ap (λ (js : Jobs). js ++ item_of job ∷ []) (sym (append-nil (record_of s.history)) ∙ ap (λ (rs : List (ℕ × Entry)). record_of s.history ++ jobs_reserved rs) (sym none)),
      still,
    )

-- the front of numbers that count up
front_from : (n : ℕ) (xs ys : List ℕ) → xs ++ ys ≡ range_with_len n (length (xs ++ ys)) → xs ≡ range_with_len n (length xs)
front_from n [] ys e = refl
front_from n (x ∷ xs) ys e =
    let first : x ≡ n = cc e in
    let rest : xs ++ ys ≡ range_with_len (n + 1) (length (xs ++ ys)) = cc e in
    let more = front_from (n + 1) xs ys rest in
    λ i. first i ∷ more i

pub counts_front : (xs ys : List ℕ) → xs ++ ys ≡ range_with_len 0 (length (xs ++ ys)) → xs ≡ range_with_len 0 (length xs)
counts_front xs ys e = front_from 0 xs ys e

-- no numbers, no jobs
none_mapped : {A B : Type 0} (f : A → B) (xs : List A) → map f xs ≡ [] → xs ≡ []
none_mapped f [] e = refl
none_mapped f (x ∷ xs) e = absurd (cc e)

pub no_numbers : (c : Connection) (jobs : Jobs) → numbers_in c jobs ≡ [] → own_jobs c jobs ≡ []
no_numbers c jobs e = none_mapped number (own_jobs c jobs) e
