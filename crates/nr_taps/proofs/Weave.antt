-- One sequence of what nodes of one log did: before each entry, and behind the last, what each node ran there.
use Rattle.std.proofs.Common.{◌≡◌, ℕ, zero, suc, ◌<◌, ◌≤◌, Bool, false, cond, inl, inr, List, [], ◌∷◌, ◌++◌, length, map, refl, ap, sym, ◌∙◌, subst, arith}
use Rattle.std.specs.Prelude.{◌==◌}
use Rattle.std.specs.List.{AllByRecursion}
use Rattle.std.proofs.lemmas.Bool.{cases_Bool, eqb-false, eqb-true, eq-eqb, ne_eqb}
use Rattle.std.proofs.lemmas.List.{append-nil}
use Rattle.nr_model.specs.Bytes.{IsBeginningOf}
use Rattle.nr_model.specs.Items.{Item, is_update}
use Rattle.nr_model.specs.Entries.{Jobs, entry_items}
use Rattle.nr_model.specs.Nodes as nodes
use Rattle.nr_model.specs.Nodes.{Taken, Reads, Logged, log_of, part_from}
use Rattle.nr_model.proofs.NodesPartsEmitted.{none_begins, front_begins}
use Rattle.nr_entry.specs.Jobs.{item_of, items_of}
use Rattle.nr_entry.specs.declared.entry.Entry.{Entry}
use Rattle.nr_entry.specs.declared.job.Job.{Job}
use Rattle.nr_log_end.specs.declared.standing.LogEvent.{LogEvent}
use Rattle.nr_log_end.specs.declared.standing.LogEvent.TheVariants.{Applied, Ran, Opened}
use Rattle.nr_log_end.specs.Standings.{applied_of, ran_from, record_of}
use Rattle.nr_taps.specs.Sequence.{AreRun, logged_of, reads_by, ran_items}

-- what a node ran before the first entry that it passed
abbrev pub leading : List LogEvent → List Job
leading [] = []
leading (Applied entry ∷ turns) = []
leading (Ran job ∷ turns) = job ∷ leading turns
leading (Opened worker ∷ turns) = leading turns

-- what it did behind that entry
abbrev pub behind : List LogEvent → List LogEvent
behind [] = []
behind (Applied entry ∷ turns) = turns
behind (Ran job ∷ turns) = behind turns
behind (Opened worker ∷ turns) = behind turns

-- what the nodes of lower numbers ran behind so many entries, before the first entry of these pasts
abbrev pub runs_below : ℕ → ℕ → (ℕ → List LogEvent) → List Taken
runs_below count zero past = []
runs_below count (suc node) past = Reads node count (items_of (leading (past node))) ∷ runs_below count node past

-- what nodes of lower numbers did, along a log
abbrev pub woven : ℕ → ℕ → (ℕ → List LogEvent) → List Entry → List Taken
woven count upto past [] = runs_below count upto past ++ []
woven count upto past (entry ∷ log) =
    runs_below count upto past ++ (nodes.Entry entry.node (items_of entry.jobs.items) ∷ woven (suc count) upto (λ node. behind (past node)) log)

-- its log is as long as that one
runs_logged : (count upto : ℕ) (past : ℕ → List LogEvent) (more : List Taken) → log_of (runs_below count upto past ++ more) ≡ log_of more
runs_logged count zero past more = refl
runs_logged count (suc upto) past more = runs_logged count upto past more

pub woven_length : (count upto : ℕ) (past : ℕ → List LogEvent) (log : List Entry) → length (log_of (woven count upto past log)) ≡ length log
woven_length count upto past [] = ap length (runs_logged count upto past [])
woven_length count upto past (entry ∷ log) =
    let later = λ (node : ℕ). behind (past node) in
    ap length (runs_logged count upto past (nodes.Entry entry.node (items_of entry.jobs.items) ∷ woven (suc count) upto later log))
    ∙ ap suc (woven_length (suc count) upto later log)

-- reads in front of what a node has of it
reads_in_part : (r applied node count : ℕ) (jobs : Jobs) (more : List Taken)
    → part_from r applied (Reads node count jobs ∷ more) ≡ cond (node == r) (jobs ++ part_from r applied more) (part_from r applied more)
reads_in_part r zero node count jobs more = refl
reads_in_part r (suc applied) node count jobs more = refl

reads_own : (r applied node count : ℕ) (jobs : Jobs) (more : List Taken) → node ≡ r
    → part_from r applied (Reads node count jobs ∷ more) ≡ jobs ++ part_from r applied more
reads_own r applied node count jobs more e =
    let rest = part_from r applied more in
    reads_in_part r applied node count jobs more ∙ ap (λ (b : Bool). cond b (jobs ++ rest) rest) (eq-eqb node r e)

reads_other : (r applied node count : ℕ) (jobs : Jobs) (more : List Taken) → (node ≡ r → ⊥)
    → part_from r applied (Reads node count jobs ∷ more) ≡ part_from r applied more
reads_other r applied node count jobs more apart =
    let rest = part_from r applied more in
    reads_in_part r applied node count jobs more ∙ ap (λ (b : Bool). cond b (jobs ++ rest) rest) (ne_eqb node r apart)

-- a node of a higher number has none of these runs
pub runs_elsewhere : (r applied count upto : ℕ) (past : ℕ → List LogEvent) (more : List Taken) → upto ≤ r
    → part_from r applied (runs_below count upto past ++ more) ≡ part_from r applied more
runs_elsewhere r applied count zero past more h = refl
runs_elsewhere r applied count (suc upto) past more h =
    let below : upto ≤ r = omega (arith, h) in
    reads_other r applied upto count (items_of (leading (past upto))) (runs_below count upto past ++ more) (λ e. omega (arith, h, e))
    ∙ runs_elsewhere r applied count upto past more below

-- one of a lower number has its own
pub runs_here : (r applied count upto : ℕ) (past : ℕ → List LogEvent) (more : List Taken) → r < upto
    → part_from r applied (runs_below count upto past ++ more) ≡ items_of (leading (past r)) ++ part_from r applied more
runs_here r applied count zero past more h = absurd (omega (arith, h))
runs_here r applied count (suc upto) past more h =
    let jobs = items_of (leading (past upto)) in
    let rest = runs_below count upto past ++ more in
    elim (cases_Bool (upto == r)) [
      | inl own ↦
          let same = eqb-true upto r own in
          let last : upto ≤ r = omega (arith, same) in
          reads_own r applied upto count jobs rest same
          ∙ (λ i. items_of (leading (past (same i))) ++ runs_elsewhere r applied count upto past more last i)
      | inr other ↦
          let apart = eqb-false upto r other in
          let below : r < upto = omega (arith, h, apart) in
          reads_other r applied upto count jobs rest apart ∙ runs_here r applied count upto past more below
    ]

-- the record behind what leads
abbrev pub record_behind : List LogEvent → List Item
record_behind [] = []
record_behind (Applied entry ∷ turns) = entry_items (items_of entry.jobs.items) ++ record_of turns
record_behind (Ran job ∷ turns) = record_behind turns
record_behind (Opened worker ∷ turns) = record_behind turns

pub record_apart : (turns : List LogEvent) → items_of (leading turns) ++ record_behind turns ≡ record_of turns
record_apart [] = refl
record_apart (Applied entry ∷ turns) = refl
record_apart (Ran job ∷ turns) = ap (λ (items : List Item). item_of job ∷ items) (record_apart turns)
record_apart (Opened worker ∷ turns) = record_apart turns

first_entry : Entry → List Entry → Entry
first_entry d [] = d
first_entry d (entry ∷ entries) = entry

behind_first : List Entry → List Entry
behind_first [] = []
behind_first (entry ∷ entries) = entries

-- where no entry is passed there is none
pub none_behind : (turns : List LogEvent) → IsBeginningOf (applied_of turns) [] → record_behind turns ≡ []
none_behind [] b = refl
none_behind (Applied entry ∷ turns) b = absurd (cc b.1)
none_behind (Ran job ∷ turns) b = none_behind turns b
none_behind (Opened worker ∷ turns) b = none_behind turns b

-- else it is of the next entry, and of what was done behind that
next_behind : (turns : List LogEvent) (entry : Entry) (log : List Entry) (more : List Item) → IsBeginningOf (applied_of turns) (entry ∷ log)
    → IsBeginningOf (record_of (behind turns)) more → IsBeginningOf (record_behind turns) (entry_items (items_of entry.jobs.items) ++ more)
next_behind [] entry log more b c = none_begins (entry_items (items_of entry.jobs.items) ++ more)
next_behind (Applied first ∷ turns) entry log more b c =
    let same : first ≡ entry = cc b.1 in
    subst (λ (e : Entry). IsBeginningOf (entry_items (items_of first.jobs.items) ++ record_of turns) (entry_items (items_of e.jobs.items) ++ more)) same
    (front_begins (entry_items (items_of first.jobs.items)) (record_of turns) more c)
next_behind (Ran job ∷ turns) entry log more b c = next_behind turns entry log more b c
next_behind (Opened worker ∷ turns) entry log more b c = next_behind turns entry log more b c

pub later_begins : (turns : List LogEvent) (entry : Entry) (log : List Entry) → IsBeginningOf (applied_of turns) (entry ∷ log)
    → IsBeginningOf (applied_of (behind turns)) log
later_begins [] entry log b = none_begins log
later_begins (Applied first ∷ turns) entry log b = (b.0, cc b.1)
later_begins (Ran job ∷ turns) entry log b = later_begins turns entry log b
later_begins (Opened worker ∷ turns) entry log b = later_begins turns entry log b

-- the record of a node begins its part
pub woven_part : (r count upto : ℕ) (past : ℕ → List LogEvent) (log : List Entry) → r < upto → IsBeginningOf (applied_of (past r)) log
    → IsBeginningOf (record_of (past r)) (part_from r (length log) (woven count upto past log))
woven_part r count upto past [] below b =
    let part = runs_here r 0 count upto past [] below in
    let first : record_of (past r) ≡ items_of (leading (past r)) ++ [] =
    sym (record_apart (past r)) ∙ ap (λ (items : List Item). items_of (leading (past r)) ++ items) (none_behind (past r) b) in
    ([], append-nil (record_of (past r)) ∙ first ∙ sym part)
woven_part r count upto past (entry ∷ log) below b =
    let later = λ (node : ℕ). behind (past node) in
    let rest = woven (suc count) upto later log in
    let ih = woven_part r (suc count) upto later log below (later_begins (past r) entry log b) in
    let jobs = items_of entry.jobs.items in
    let part = runs_here r (suc (length log)) count upto past (nodes.Entry entry.node jobs ∷ rest) below in
    let next = next_behind (past r) entry log (part_from r (length log) rest) b ih in
    let lead = items_of (leading (past r)) in
    let both = front_begins lead (record_behind (past r)) (entry_items jobs ++ part_from r (length log) rest) next in
    (both.0, ap (λ (items : List Item). items ++ both.0) (sym (record_apart (past r))) ∙ both.1 ∙ sym part)

-- what a node ran are reads of its connections
abbrev pub IsReadOf : ℕ → Item → Type 0
IsReadOf node job = (job.connection.node ≡ node) × (is_update job.deed ≡ false)

abbrev pub IsReader : ℕ → ℕ → List LogEvent → Type 0
IsReader node count turns = AllByRecursion (λ (r : Job × ℕ). IsReadOf node (item_of r.0)) (ran_from count turns)

leading_read : (node count : ℕ) (turns : List LogEvent) → IsReader node count turns → AllByRecursion (IsReadOf node) (items_of (leading turns))
leading_read node count [] all = tt
leading_read node count (Applied entry ∷ turns) all = tt
leading_read node count (Ran job ∷ turns) all = (all.0, leading_read node count turns all.1)
leading_read node count (Opened worker ∷ turns) all = leading_read node count turns all

later_read : (node count : ℕ) (turns : List LogEvent) → IsReader node count turns → IsReader node (suc count) (behind turns)
later_read node count [] all = tt
later_read node count (Applied entry ∷ turns) all = all
later_read node count (Ran job ∷ turns) all = later_read node count turns all.1
later_read node count (Opened worker ∷ turns) all = later_read node count turns all

runs_run : (count upto : ℕ) (past : ℕ → List LogEvent) (more : List Taken) → ((node : ℕ) → IsReader node count (past node)) → AreRun more
    → AreRun (runs_below count upto past ++ more)
runs_run count zero past more reads run = run
runs_run count (suc upto) past more reads run = (leading_read upto count (past upto) (reads upto), runs_run count upto past more reads run)

pub woven_run : (count upto : ℕ) (past : ℕ → List LogEvent) (log : List Entry) → ((node : ℕ) → IsReader node count (past node))
    → AreRun (woven count upto past log)
woven_run count upto past [] reads = runs_run count upto past [] reads tt
woven_run count upto past (entry ∷ log) reads =
    runs_run count upto past (nodes.Entry entry.node (items_of entry.jobs.items) ∷ woven (suc count) upto (λ node. behind (past node)) log) reads
    (tt, woven_run (suc count) upto (λ node. behind (past node)) log (λ node. later_read node count (past node) (reads node)))

-- its log is that one
pub woven_logged : (count upto : ℕ) (past : ℕ → List LogEvent) (log : List Entry) → log_of (woven count upto past log) ≡ map logged_of log
woven_logged count upto past [] = runs_logged count upto past []
woven_logged count upto past (entry ∷ log) =
    let later = λ (node : ℕ). behind (past node) in
    runs_logged count upto past (nodes.Entry entry.node (items_of entry.jobs.items) ∷ woven (suc count) upto later log)
    ∙ ap (λ (more : List Logged). logged_of entry ∷ more) (woven_logged (suc count) upto later log)

-- a node of a higher number ran nothing in it
runs_of_none : (r count upto : ℕ) (past : ℕ → List LogEvent) (more : List Taken) → upto ≤ r → reads_by r (runs_below count upto past ++ more) ≡ reads_by r more
runs_of_none r count zero past more h = refl
runs_of_none r count (suc upto) past more h =
    let below : upto ≤ r = omega (arith, h) in
    let jobs = items_of (leading (past upto)) in
    let rest = reads_by r (runs_below count upto past ++ more) in
    ap (λ (b : Bool). cond b (jobs ++ rest) rest) (ne_eqb upto r (λ e. omega (arith, h, e))) ∙ runs_of_none r count upto past more below

pub woven_of_none : (r count upto : ℕ) (past : ℕ → List LogEvent) (log : List Entry) → upto ≤ r → reads_by r (woven count upto past log) ≡ []
woven_of_none r count upto past [] h = runs_of_none r count upto past [] h
woven_of_none r count upto past (entry ∷ log) h =
    let later = λ (node : ℕ). behind (past node) in
    runs_of_none r count upto past (nodes.Entry entry.node (items_of entry.jobs.items) ∷ woven (suc count) upto later log) h
    ∙ woven_of_none r (suc count) upto later log h

-- one of a lower number ran what leads, and then the others
runs_of_own : (r count upto : ℕ) (past : ℕ → List LogEvent) (more : List Taken) → r < upto
    → reads_by r (runs_below count upto past ++ more) ≡ items_of (leading (past r)) ++ reads_by r more
runs_of_own r count zero past more h = absurd (omega (arith, h))
runs_of_own r count (suc upto) past more h =
    let jobs = items_of (leading (past upto)) in
    let rest = reads_by r (runs_below count upto past ++ more) in
    let at = λ (b : Bool). cond b (jobs ++ rest) rest in
    elim (cases_Bool (upto == r)) [
      | inl own ↦
          let same = eqb-true upto r own in
          let last : upto ≤ r = omega (arith, same) in
          ap at own ∙ (λ i. items_of (leading (past (same i))) ++ runs_of_none r count upto past more last i)
      | inr other ↦
          let apart = eqb-false upto r other in
          let below : r < upto = omega (arith, h, apart) in
          ap at other ∙ runs_of_own r count upto past more below
    ]

leads_and_behind : (turns : List LogEvent) → items_of (leading turns) ++ ran_items (behind turns) ≡ ran_items turns
leads_and_behind [] = refl
leads_and_behind (Applied entry ∷ turns) = refl
leads_and_behind (Ran job ∷ turns) = ap (λ (items : List Item). item_of job ∷ items) (leads_and_behind turns)
leads_and_behind (Opened worker ∷ turns) = leads_and_behind turns

none_ran_behind : (turns : List LogEvent) → IsBeginningOf (applied_of turns) [] → ran_items (behind turns) ≡ []
none_ran_behind [] b = refl
none_ran_behind (Applied entry ∷ turns) b = absurd (cc b.1)
none_ran_behind (Ran job ∷ turns) b = none_ran_behind turns b
none_ran_behind (Opened worker ∷ turns) b = none_ran_behind turns b

-- the reads of a node in it are all that it ran
pub woven_reads : (r count upto : ℕ) (past : ℕ → List LogEvent) (log : List Entry) → r < upto → IsBeginningOf (applied_of (past r)) log
    → reads_by r (woven count upto past log) ≡ ran_items (past r)
woven_reads r count upto past [] below b =
    runs_of_own r count upto past [] below ∙ ap (λ (items : List Item). items_of (leading (past r)) ++ items) (sym (none_ran_behind (past r) b))
    ∙ leads_and_behind (past r)
woven_reads r count upto past (entry ∷ log) below b =
    let later = λ (node : ℕ). behind (past node) in
    let rest = woven (suc count) upto later log in
    runs_of_own r count upto past (nodes.Entry entry.node (items_of entry.jobs.items) ∷ rest) below
    ∙ ap (λ (items : List Item). items_of (leading (past r)) ++ items) (woven_reads r (suc count) upto later log below (later_begins (past r) entry log b))
    ∙ leads_and_behind (past r)
