-- A node's part of the one sequence is its record, and behind that the items of the entries of the log that it hasn't passed.
use Rattle.std.proofs.Common.{◌≡◌, ℕ, zero, suc, ◌<◌, ◌≤◌, List, [], ◌∷◌, ◌++◌, length, drop, refl, ap, sym, ◌∙◌, append_assoc}
use Rattle.std.proofs.lemmas.List.{append-nil}
use Rattle.nr_model.specs.Bytes.{IsBeginningOf}
use Rattle.nr_model.specs.Items.{Connection, Item}
use Rattle.nr_model.specs.Entries.{entry_items}
use Rattle.nr_model.specs.Nodes as nodes
use Rattle.nr_model.specs.Nodes.{part_from}
use Rattle.nr_entry.specs.Jobs.{items_of}
use Rattle.nr_entry.specs.declared.entry.Entry.{Entry}
use Rattle.nr_log_end.specs.Numbers.{numbers_of}
use Rattle.nr_log_end.specs.declared.standing.LogEvent.{LogEvent}
use Rattle.nr_log_end.specs.declared.standing.LogEvent.TheVariants.{Applied, Ran, Opened}
use Rattle.nr_log_end.specs.Standings.{applied_of, record_of, jobs_in}
use Rattle.nr_log_end.proofs.Numbered.{numbers-append, numbers_behind, numbers_entry}
use Rattle.nr_taps.proofs.Weave.{leading, behind, record_behind, record_apart, none_behind, runs_elsewhere, runs_here, later_begins, woven}

-- the items of entries, those of each at its moment
abbrev pub items_in : List Entry → List Item
items_in [] = []
items_in (entry ∷ entries) = entry_items (items_of entry.jobs.items) ++ items_in entries

numbers_in_items : (c : Connection) (entries : List Entry) → numbers_of c (items_in entries) ≡ numbers_of c (jobs_in entries)
numbers_in_items c [] = refl
numbers_in_items c (entry ∷ entries) =
    let items = items_of entry.jobs.items in
    numbers-append c (entry_items items) (items_in entries) ∙ (λ i. numbers_entry c items i ++ numbers_in_items c entries i)
    ∙ sym (numbers-append c items (jobs_in entries))

pub drop_none : {A : Type 0} (n : ℕ) → drop {A = A} n [] ≡ []
drop_none zero = refl
drop_none (suc n) = refl

-- what is in the log behind the entries of this past
abbrev left : List LogEvent → List Entry → List Item
left turns log = items_in (drop (length (applied_of turns)) log)

-- the next entry is the first that was passed, or the first that wasn't
next_whole : (turns : List LogEvent) (entry : Entry) (log : List Entry) → IsBeginningOf (applied_of turns) (entry ∷ log)
    → entry_items (items_of entry.jobs.items) ++ (record_of (behind turns) ++ left (behind turns) log) ≡ record_behind turns ++ left turns (entry ∷ log)
next_whole [] entry log b = refl
next_whole (Applied first ∷ turns) entry log b =
    let same : first ≡ entry = cc b.1 in
    let more = record_of turns ++ left turns log in
    ap (λ (e : Entry). entry_items (items_of e.jobs.items) ++ more) (sym same)
    ∙ sym (append_assoc (entry_items (items_of first.jobs.items)) (record_of turns) (left turns log))
next_whole (Ran job ∷ turns) entry log b = next_whole turns entry log b
next_whole (Opened worker ∷ turns) entry log b = next_whole turns entry log b

woven_whole : (r count upto : ℕ) (past : ℕ → List LogEvent) (log : List Entry) → r < upto → IsBeginningOf (applied_of (past r)) log
    → part_from r (length log) (woven count upto past log) ≡ record_of (past r) ++ left (past r) log
woven_whole r count upto past [] below b =
    let lead = items_of (leading (past r)) in
    runs_here r 0 count upto past [] below
    ∙ ap (λ (items : List Item). lead ++ items) (sym (none_behind (past r) b)) ∙ record_apart (past r)
    ∙ sym (append-nil (record_of (past r)))
    ∙ ap (λ (entries : List Entry). record_of (past r) ++ items_in entries) (sym (drop_none (length (applied_of (past r)))))
woven_whole r count upto past (entry ∷ log) below b =
    let later = λ (node : ℕ). behind (past node) in
    let rest = woven (suc count) upto later log in
    let jobs = items_of entry.jobs.items in
    let lead = items_of (leading (past r)) in
    let ih = woven_whole r (suc count) upto later log below (later_begins (past r) entry log b) in
    runs_here r (suc (length log)) count upto past (nodes.Entry entry.node jobs ∷ rest) below
    ∙ ap (λ (items : List Item). lead ++ (entry_items jobs ++ items)) ih
    ∙ ap (λ (items : List Item). lead ++ items) (next_whole (past r) entry log b)
    ∙ sym (append_assoc lead (record_behind (past r)) (left (past r) (entry ∷ log)))
    ∙ ap (λ (items : List Item). items ++ left (past r) (entry ∷ log)) (record_apart (past r))

-- so it has the numbers of these
pub woven_numbers : (c : Connection) (count upto : ℕ) (past : ℕ → List LogEvent) (log : List Entry) → c.node < upto → IsBeginningOf (applied_of (past c.node)) log
    → numbers_of c (part_from c.node (length log) (woven count upto past log))
    ≡ numbers_of c (record_of (past c.node) ++ jobs_in (drop (length (applied_of (past c.node))) log))
woven_numbers c count upto past log below b =
    let there = drop (length (applied_of (past c.node))) log in
    ap (numbers_of c) (woven_whole c.node count upto past log below b)
    ∙ numbers_behind c (record_of (past c.node)) (items_in there) (jobs_in there) (numbers_in_items c there)

-- a node of a higher number has nothing but the log
woven_beyond : (r count upto : ℕ) (past : ℕ → List LogEvent) (log : List Entry) → upto ≤ r → part_from r (length log) (woven count upto past log) ≡ items_in log
woven_beyond r count upto past [] h = runs_elsewhere r 0 count upto past [] h
woven_beyond r count upto past (entry ∷ log) h =
    let later = λ (node : ℕ). behind (past node) in
    let jobs = items_of entry.jobs.items in
    runs_elsewhere r (suc (length log)) count upto past (nodes.Entry entry.node jobs ∷ woven (suc count) upto later log) h
    ∙ ap (λ (items : List Item). entry_items jobs ++ items) (woven_beyond r (suc count) upto later log h)

pub numbers_beyond : (c : Connection) (count upto : ℕ) (past : ℕ → List LogEvent) (log : List Entry) → upto ≤ c.node
    → numbers_of c (part_from c.node (length log) (woven count upto past log)) ≡ numbers_of c (jobs_in log)
numbers_beyond c count upto past log h = ap (numbers_of c) (woven_beyond c.node count upto past log h) ∙ numbers_in_items c log
