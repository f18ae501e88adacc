-- Jobs that a node has it goes on to have, wherever they move to, unless its replica falls.
use Rattle.std.proofs.Common.{◌≡◌, ℕ, inl, inr, ◌⊎◌, Bool, false, cond, List, [], ◌∷◌, ◌++◌, map, length, Contains, refl, ap, sym, ◌∙◌, subst, append_assoc}
use Rattle.std.specs.Prelude.{◌==◌, Result, Ok, Err}
use Rattle.std.specs.List.{AllByRecursion}
use Rattle.std.proofs.lemmas.Bool.{eq-eqb}
use Rattle.std.proofs.lemmas.Bool.Decides.{eqb_tells}
use Rattle.std.proofs.lemmas.List.{map-append}
use Rattle.std.proofs.lemmas.List.Elements.{Contains-append_left, Contains-append_right, Contains-append_cases}
use Rattle.nr_blob.specs.declared.memory.Memory.{Memory}
use Rattle.nr_model.specs.Items.{Item, Sequence}
use Rattle.nr_model.specs.Entries.{Jobs, entry_items}
use Rattle.nr_model.proofs.NodesExecutedLists.{first_in, later_in, in_cases, kept_in, some_in, entry_parts, reads_parts}
use Rattle.nr_entry.specs.Jobs.{item_of, items_of}
use Rattle.nr_entry.specs.declared.batch.Batch.{Batch}
use Rattle.nr_entry.specs.declared.entry.Entry.{Entry}
use Rattle.nr_entry.specs.declared.job.Job.{Job}
use Rattle.nr_log_end.specs.declared.standing.Standing.{Standing}
use Rattle.nr_log_end.specs.declared.standing.LogEvent.TheVariants.{Applied, Ran}
use Rattle.nr_log_end.specs.Standings.{record_of}
use Rattle.nr_replica.specs.Members.{Member, worker_of, jobs_of_worker}
use Rattle.nr_replica.specs.Replicas.{ReplicaState}
use Rattle.nr_node.specs.Level.{NodeState, unpassed, jobs_reserved, all_jobs}
use Rattle.nr_node.specs.Owing.{unexecuted}
use Rattle.nr_node.specs.Advanced.{jobs_of_own}
use Rattle.nr_node.specs.Reserved.{due_jobs, left_jobs, LeavesWaiting}
use Rattle.nr_node.specs.Steps.{taken_node, HasReserved, HasNoneDue, GoesOnWaiting, HasRead}
use Rattle.nr_node.specs.declared.answers.Round.{Round}
use Rattle.nr_node.specs.declared.answers.Round.TheVariants as rounds
use Rattle.nr_node.proofs.Lists.{record-append}
use Rattle.nr_combiner.specs.Served.{IsAmong, jobs_of}
use Rattle.nr_combiner.specs.Steps.{ComesTo, HasLooked}
use Rattle.nr_combiner.proofs.Deeds.{is_done}

-- ---- lists
pub among_by : (job : Item) (xs ys : Jobs) → ((item : Item) → Contains xs item → Contains ys item) → IsAmong job xs → IsAmong job ys
among_by job xs ys f a = record { item = a.item; there = f a.item a.there; connection = a.connection; number = a.number; deed = a.deed }

pub among_left : (job : Item) (xs ys : Jobs) → IsAmong job xs → IsAmong job (xs ++ ys)
among_left job xs ys a = among_by job xs (xs ++ ys) (λ item h. Contains-append_left xs ys item h) a

pub among_right : (job : Item) (xs ys : Jobs) → IsAmong job ys → IsAmong job (xs ++ ys)
among_right job xs ys a = among_by job ys (xs ++ ys) (λ item h. Contains-append_right xs ys item h) a

among_cases : (job : Item) (xs ys : Jobs) → IsAmong job (xs ++ ys) → IsAmong job xs ⊎ IsAmong job ys
among_cases job xs ys a = elim (Contains-append_cases xs ys a.item a.there) [
  | inl h ↦ inl (record { item = a.item; there = h; connection = a.connection; number = a.number; deed = a.deed })
  | inr h ↦ inr (record { item = a.item; there = h; connection = a.connection; number = a.number; deed = a.deed })
]

not_in_none : (job : Item) → IsAmong job [] → ⊥
not_in_none job a = some_in [] a.item refl a.there

-- each is among those that it stands with
pub all_among : (front jobs : Jobs) → AllByRecursion (λ (job : Item). IsAmong job (front ++ jobs)) jobs
all_among front [] = tt
all_among front (job ∷ jobs) = (
  record { item = job; there = Contains-append_right front (job ∷ jobs) job (first_in job jobs); connection = refl; number = refl; deed = refl },
  subst (λ (js : Jobs). AllByRecursion (λ (j : Item). IsAmong j js) jobs) (append_assoc front (job ∷ []) jobs) (all_among (front ++ job ∷ []) jobs),
)

-- at another moment
among_moved : (job : Item) (moment : ℕ) (jobs : Jobs) → IsAmong job jobs → IsAmong job (map {A = Item} (λ (j : Item). record j { moment = moment }) jobs)
among_moved job moment [] a = absurd (not_in_none job a)
among_moved job moment (x ∷ jobs) a =
    let more : Jobs = map {A = Item} (λ (j : Item). record j { moment = moment }) jobs in
    let now : Item = record x { moment = moment } in
    elim (in_cases a.item x jobs a.there) [
      | inl is ↦ record {
        item = now;
        there = first_in now more;
        connection = ap (λ (j : Item). j.connection) is ∙ a.connection;
        number = ap (λ (j : Item). j.number) is ∙ a.number;
        deed = ap (λ (j : Item). j.deed) is ∙ a.deed;
      }
      | inr behind ↦
          let there = among_moved job moment jobs (record { item = a.item; there = behind; connection = a.connection; number = a.number; deed = a.deed }) in
          among_by job more (now ∷ more) (λ item h. later_in item now more h) there
    ]

-- the entries of a node's own are in the record of all
among_applied : (job : Item) (node : ℕ) (es : List Entry) → IsAmong job (jobs_of_own node es) → IsAmong job (record_of (map Applied es))
among_applied job node [] a = a
among_applied job node (e ∷ es) a =
    let items = items_of e.jobs.items in
    let later = jobs_of_own node es in
    let more = record_of (map Applied es) in
    let now = entry_items items in
    elim (eqb_tells e.node node) [
      | inl same ↦ elim (among_cases job items later (subst (λ (b : Bool). IsAmong job (cond b (items ++ later) later)) same.0 a)) [
        | inl here ↦ among_left job now more (among_moved job _ items here)
        | inr behind ↦ among_right job now more (among_applied job node es behind)
      ]
      | inr other ↦ among_right job now more (among_applied job node es (subst (λ (b : Bool). IsAmong job (cond b (items ++ later) later)) other.0 a))
    ]

ran_recorded : (ran : List Job) → record_of (map Ran ran) ≡ items_of ran
ran_recorded [] = refl
ran_recorded (job ∷ ran) = ap (λ (js : Jobs). item_of job ∷ js) (ran_recorded ran)

-- ---- what a node has
-- where it has a job
abbrev pub IsIn : Item → NodeState → Type 0
IsIn job n =
    (IsAmong job (record_of n.seat.standing.history) ⊎ IsAmong job (jobs_reserved (unpassed n.seat.standing)))
    ⊎ (IsAmong job (items_of n.next) ⊎ IsAmong job (items_of n.replica.waiting))

pub has_in : (job : Item) (n : NodeState) → IsAmong job (jobs_of n) → IsIn job n
has_in job n a =
    let done = record_of n.seat.standing.history in
    let reserved = jobs_reserved (unpassed n.seat.standing) in
    let next = items_of n.next in
    let waits = items_of n.replica.waiting in
    elim (among_cases job (done ++ reserved) (next ++ waits) a) [
      | inl logged ↦ inl (among_cases job done reserved logged)
      | inr behind ↦ inr (among_cases job next waits behind)
    ]

-- by where it is: in the record, reserved, or behind
at_place : {A : Type 0} (job : Item) (n : NodeState) → IsIn job n → (IsAmong job (record_of n.seat.standing.history) → A)
    → (IsAmong job (jobs_reserved (unpassed n.seat.standing)) → A) → (IsAmong job (items_of n.next) ⊎ IsAmong job (items_of n.replica.waiting) → A) → A
at_place job n (inl (inl done)) f g h = f done
at_place job n (inl (inr reserved)) f g h = g reserved
at_place job n (inr later) f g h = h later

pub in_has : (job : Item) (n : NodeState) → IsIn job n → IsAmong job (jobs_of n)
in_has job n is =
    let done = record_of n.seat.standing.history in
    let reserved = jobs_reserved (unpassed n.seat.standing) in
    let next = items_of n.next in
    let waits = items_of n.replica.waiting in
    elim is [
      | inl logged ↦ among_left job (done ++ reserved) (next ++ waits) (elim logged [
        | inl a ↦ among_left job done reserved a
        | inr a ↦ among_right job done reserved a
      ])
      | inr behind ↦ among_right job (done ++ reserved) (next ++ waits) (elim behind [
        | inl a ↦ among_left job next waits a
        | inr a ↦ among_right job next waits a
      ])
    ]

-- one that is up was up, and has what it had
abbrev pub Keeps : NodeState → NodeState → Type 0
Keeps n m = m.replica.down ≡ false → (n.replica.down ≡ false) × ((job : Item) → IsAmong job (jobs_of n) → IsAmong job (jobs_of m))

pub same_keeps : (n m : NodeState) → m.seat.standing ≡ n.seat.standing → m.next ≡ n.next → m.replica.waiting ≡ n.replica.waiting → m.replica.down ≡ n.replica.down → Keeps n m
same_keeps n m standing next waiting down up = (
  sym down ∙ up,
  λ job a. subst (λ (x : Standing × (List Job × List Job)). IsAmong job (all_jobs x.0 x.1.0 x.1.1)) (λ i. (sym standing i, (sym next i, sym waiting i))) a,
)

-- a batch is taken in: what waited goes on waiting, and its jobs are there
pub newly_there : (n : NodeState) (batch : Batch) (job : Item) → IsAmong job (items_of batch.jobs.items) → IsAmong job (jobs_of (taken_node batch n))
newly_there n batch job a =
    in_has job (taken_node batch n) (inr (inr (subst (IsAmong job) (sym (map-append item_of n.replica.waiting batch.jobs.items))
    (among_right job (items_of n.replica.waiting) (items_of batch.jobs.items) a))))

pub taken_keeps : (n : NodeState) (batch : Batch) → Keeps n (taken_node batch n)
taken_keeps n batch up = (
  up,
  λ job a. in_has job (taken_node batch n) (at_place job n (has_in job n a) (λ done. inl (inl done)) (λ reserved. inl (inr reserved)) (λ later. elim later [
    | inl due ↦ inr (inl due)
    | inr waits ↦ inr (inr (subst (IsAmong job) (sym (map-append item_of n.replica.waiting batch.jobs.items))
        (among_left job (items_of n.replica.waiting) (items_of batch.jobs.items) waits)))
  ])),
)

-- what is due, or is left
due_or_left : (job : Item) (next waiting : List Job) → IsAmong job (items_of next) ⊎ IsAmong job (items_of waiting)
    → IsAmong job (due_jobs next waiting) ⊎ IsAmong job (left_jobs next waiting)
due_or_left job [] waiting (inl a) = absurd (not_in_none job a)
due_or_left job [] waiting (inr a) = elim ((entry_parts (items_of waiting)).shares a.item a.there) [
  | inl h ↦ inl (record { item = a.item; there = h; connection = a.connection; number = a.number; deed = a.deed })
  | inr h ↦ inr (record { item = a.item; there = h; connection = a.connection; number = a.number; deed = a.deed })
]
due_or_left job (x ∷ next) waiting is = is

is_up : (left : Jobs) (n m : NodeState) → LeavesWaiting left n.replica m.replica → m.replica.down ≡ false → n.replica.down ≡ false
is_up left n m leaves up = sym (ap (λ (r : ReplicaState). r.down) leaves.replica) ∙ up

reserved_keeps : (at : ℕ) (e : Entry) (n m : NodeState) → HasReserved at e n m → Keeps n m
reserved_keeps at e n m h up = (
  is_up (left_jobs n.next n.replica.waiting) n m h.left up,
  λ job a.
      let old = jobs_reserved (unpassed n.seat.standing) in
      let items = items_of e.jobs.items in
      in_has job m (at_place job n (has_in job n a)
      (λ done. inl (inl (subst (λ (s : Standing). IsAmong job (record_of s.history)) (sym h.reserved.standing) done)))
      (λ reserved. inl (inr (subst (IsAmong job) (sym h.behind) (among_left job old items reserved))))
      (λ later. elim (due_or_left job n.next n.replica.waiting later) [
        | inl due ↦ inl (inr (subst (IsAmong job) (sym h.behind) (among_right job old items (subst (IsAmong job) (sym h.jobs) due))))
        | inr left ↦ inr (inr (subst (IsAmong job) (sym h.left.waiting) left))
      ])),
)

waiting_keeps : (n m : NodeState) → GoesOnWaiting n m → Keeps n m
waiting_keeps n m h up = (
  is_up (left_jobs n.next n.replica.waiting) n m h.left up,
  λ job a. in_has job m (at_place job n (has_in job n a)
      (λ done. inl (inl (subst (λ (s : Standing). IsAmong job (record_of s.history)) (sym h.met.standing) done)))
      (λ reserved. inl (inr (subst (λ (s : Standing). IsAmong job (jobs_reserved (unpassed s))) (sym h.met.standing) reserved)))
      (λ later. elim (due_or_left job n.next n.replica.waiting later) [
        | inl due ↦ inr (inl (subst (IsAmong job) (sym h.next) due))
        | inr left ↦ inr (inr (subst (IsAmong job) (sym h.left.waiting) left))
      ])),
)

none_keeps : (n m : NodeState) → HasNoneDue n m → Keeps n m
none_keeps n m h up = (
  is_up (left_jobs n.next n.replica.waiting) n m h.left up,
  λ job a. in_has job m (at_place job n (has_in job n a)
      (λ done. inl (inl (subst (λ (x : NodeState). IsAmong job (record_of x.seat.standing.history)) (sym h.same) done)))
      (λ reserved. inl (inr (subst (λ (x : NodeState). IsAmong job (jobs_reserved (unpassed x.seat.standing))) (sym h.same) reserved)))
      (λ later. elim (due_or_left job n.next n.replica.waiting later) [
        | inl due ↦ absurd (not_in_none job (subst (IsAmong job) h.none due))
        | inr left ↦ inr (inr (subst (IsAmong job) (sym h.left.waiting) left))
      ])),
)

still_keeps : (n m : NodeState) → m ≡ n → Keeps n m
still_keeps n m same up = (sym (ap (λ (x : NodeState). x.replica.down) same) ∙ up, λ job a. subst (λ (x : NodeState). IsAmong job (jobs_of x)) (sym same) a)

pub tried_keeps : (places : ℕ) (r : Result Round Memory) (n m : NodeState) → ComesTo places r n m → Keeps n m
tried_keeps places (Ok rounds.Done) n m (inl (at, entry, h)) = reserved_keeps at entry n m h
tried_keeps places (Ok rounds.Done) n m (inr h) = none_keeps n m h
tried_keeps places (Ok rounds.Full) n m h = waiting_keeps n m h.0
tried_keeps places (Ok rounds.Again) n m h = waiting_keeps n m h.0
tried_keeps places (Ok rounds.NotYet) n m h = absurd h
tried_keeps places (Ok rounds.Down) n m h = still_keeps n m h
tried_keeps places (Err memory) n m (inl same) = still_keeps n m same
tried_keeps places (Err memory) n m (inr h) = waiting_keeps n m h

-- reads were run, or none
read_or_left : (job : Item) (ran : List Job) (n m : NodeState) (tail : ℕ) → HasRead ran tail n m → IsAmong job (items_of n.replica.waiting)
    → IsAmong job (items_of ran) ⊎ IsAmong job (items_of m.replica.waiting)
read_or_left job ran n m tail r a = elim ((reads_parts (items_of n.replica.waiting)).shares a.item a.there) [
  | inl h ↦ inl (subst (IsAmong job) (sym r.ran_is) (record { item = a.item; there = h; connection = a.connection; number = a.number; deed = a.deed }))
  | inr h ↦ inr (subst (IsAmong job) (sym r.left) (record { item = a.item; there = h; connection = a.connection; number = a.number; deed = a.deed }))
]

-- what waits once it looked
later_looked : (job : Item) (looked : Result Round Memory) (behind : Bool) (es : List Entry) (ran : List Job) (tail : ℕ) (n m : NodeState) → HasLooked looked behind es ran tail n m
    → m.replica.down ≡ false → IsAmong job (items_of n.next) ⊎ IsAmong job (items_of n.replica.waiting)
    → IsAmong job (items_of ran) ⊎ (IsAmong job (items_of m.next) ⊎ IsAmong job (items_of m.replica.waiting))
later_looked job looked behind es ran tail n m h up later = elim (is_done looked) [
  | inl done ↦
      let r = h.read done in
      elim later [
        | inl due ↦ absurd (not_in_none job (subst (λ (js : List Job). IsAmong job (items_of js)) r.next.0 due))
        | inr waits ↦ elim (read_or_left job ran n m tail r waits) [ inl read ↦ inl read | inr left ↦ inr (inr left) ]
      ]
  | inr undone ↦
      let left = h.waiting undone up in
      elim later [
        | inl due ↦ inr (inl (subst (λ (js : List Job). IsAmong job (items_of js)) (sym left.1) due))
        | inr waits ↦ inr (inr (subst (λ (js : List Job). IsAmong job (items_of js)) (sym left.0) waits))
      ]
]

pub looked_keeps : (looked : Result Round Memory) (behind : Bool) (es : List Entry) (ran : List Job) (tail : ℕ) (n m : NodeState) → HasLooked looked behind es ran tail n m → Keeps n m
looked_keeps looked behind es ran tail n m h up =
    let done = record_of n.seat.standing.history in
    let applied = record_of (map Applied es) in
    let reads = record_of (map Ran ran) in
    let is : record_of m.seat.standing.history ≡ done ++ (applied ++ reads) =
    ap (λ (s : Standing). record_of s.history) h.by.standing ∙ record-append n.seat.standing.history (map Applied es ++ map Ran ran)
    ∙ ap (λ (js : Sequence). done ++ js) (record-append (map Applied es) (map Ran ran)) in (
      h.by.up up,
      λ job a.
          let more : IsAmong job (applied ++ reads) → IsIn job m = λ b. inl (inl (subst (IsAmong job) (sym is) (among_right job done (applied ++ reads) b))) in
          in_has job m (at_place job n (has_in job n a)
          (λ old. inl (inl (subst (IsAmong job) (sym is) (among_left job done (applied ++ reads) old))))
          (λ reserved. elim (among_cases job (jobs_of_own n.book.node es) (jobs_reserved (unpassed m.seat.standing)) (subst (IsAmong job) h.by.own reserved)) [
            | inl own ↦ more (among_left job applied reads (among_applied job n.book.node es own))
            | inr later ↦ inl (inr later)
          ])
          (λ later. elim (later_looked job looked behind es ran tail n m h up later) [
            | inl read ↦ more (among_right job applied reads (subst (IsAmong job) (sym (ran_recorded ran)) read))
            | inr left ↦ inr left
          ])),
    )

-- ---- where none of a worker's jobs is left
-- one of a connection that it serves isn't
not_among : (worker : ℕ) (members : List Member) (jobs : Jobs) (job : Item) → jobs_of_worker worker members jobs ≡ [] → worker_of members job.connection ≡ worker
    → IsAmong job jobs → ⊥
not_among worker members jobs job none own a =
    let serves : worker_of members a.item.connection ≡ worker = ap (worker_of members) a.connection ∙ own in
    some_in (jobs_of_worker worker members jobs) a.item (ap length none)
    (kept_in (λ (j : Item). worker_of members j.connection == worker) jobs a.item a.there (eq-eqb (worker_of members a.item.connection) worker serves))

-- so it is in the record
pub among_done : (n : NodeState) (worker : ℕ) (job : Item) → jobs_of_worker worker n.replica.members (unexecuted n.seat.standing n.next n.replica.waiting) ≡ []
    → worker_of n.replica.members job.connection ≡ worker → IsAmong job (jobs_of n) → IsAmong job (record_of n.seat.standing.history)
among_done n worker job none own a =
    let done = record_of n.seat.standing.history in
    let reserved = jobs_reserved (unpassed n.seat.standing) in
    let rest = items_of n.next ++ items_of n.replica.waiting in
    elim (among_cases job done (reserved ++ rest) (subst (IsAmong job) (append_assoc done reserved rest) a)) [
      | inl there ↦ there
      | inr left ↦ absurd (not_among worker n.replica.members (reserved ++ rest) job none own left)
    ]
