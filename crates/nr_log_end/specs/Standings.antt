-- How a node stands to the log, and what its calls change of that.
use Rattle.std.specs.Prelude.{◌≡◌, ℕ, suc, ◌+◌, ◌≤◌, ◌==◌, cond, List, [], ◌∷◌, ◌++◌, length, map, flat_map, drop, slice_index_or, slice_set, Option, Some, None, option_to_list}
use Rattle.nr_model.specs.Items.{Item}
use Rattle.nr_model.specs.Entries.{Jobs, entry_items}
use Rattle.nr_model.specs.Bytes.{IsBeginningOf}
use Rattle.nr_entry.specs.Jobs.{item_of, items_of}
use Rattle.nr_entry.specs.Shares.{shares_of}
use Rattle.nr_entry.specs.declared.entry.Entry.{Entry}
use Rattle.nr_entry.specs.declared.job.Job.{Job}
use Rattle.nr_log_end.specs.Numbers.{AreRising}
use Rattle.nr_log_end.specs.declared.standing.Standing.{Standing}
use Rattle.nr_log_end.specs.declared.standing.LogEvent.{LogEvent}
use Rattle.nr_log_end.specs.declared.standing.LogEvent.TheVariants.{Applied, Ran, Opened}

-- the entries that were passed, in order
abbrev pub applied_of : List LogEvent → List Entry
applied_of [] = []
applied_of (Applied entry ∷ turns) = entry ∷ applied_of turns
applied_of (Ran job ∷ turns) = applied_of turns
applied_of (Opened worker ∷ turns) = applied_of turns

-- the reads that were run, each with how many entries had been applied before it, from so many on
abbrev pub ran_from : ℕ → List LogEvent → List (Job × ℕ)
ran_from count [] = []
ran_from count (Applied entry ∷ turns) = ran_from (suc count) turns
ran_from count (Ran job ∷ turns) = (job, count) ∷ ran_from count turns
ran_from count (Opened worker ∷ turns) = ran_from count turns

abbrev pub ran_of : List LogEvent → List (Job × ℕ)
ran_of history = ran_from 0 history

-- the items of what was done: those of an entry at its moment, and each read at its place
abbrev pub items_of_turn : LogEvent → List Item
items_of_turn (Applied entry) = entry_items (items_of entry.jobs.items)
items_of_turn (Ran job) = item_of job ∷ []
items_of_turn (Opened worker) = []

abbrev pub record_of : List LogEvent → List Item
record_of history = flat_map items_of_turn history

-- which workers serve the connections that were opened, by their serials
abbrev pub opened_of : List LogEvent → List ℕ
opened_of [] = []
opened_of (Applied entry ∷ turns) = opened_of turns
opened_of (Ran job ∷ turns) = opened_of turns
opened_of (Opened worker ∷ turns) = worker ∷ opened_of turns

-- the entries that the node knows: those that it passed, and the one that it holds
abbrev pub known_of : Standing → List Entry
known_of s = applied_of s.history ++ option_to_list s.held

-- how many entries the node has passed
abbrev pub passed_of : Standing → ℕ
passed_of s = length (applied_of s.history)

-- the entries of a node among these, with their numbers, the first one's being n
abbrev pub own_from : ℕ → ℕ → List Entry → List (ℕ × Entry)
own_from node n [] = []
own_from node n (entry ∷ entries) = let more = own_from node (suc n) entries in cond (entry.node == node) ((n, entry) ∷ more) more

abbrev pub own_entries : ℕ → List Entry → List (ℕ × Entry)
own_entries node log = own_from node 0 log

-- the entries that the node reserved and hasn't passed, and their jobs
abbrev pub unpassed : Standing → List (ℕ × Entry)
unpassed s = drop (length (own_entries s.node (applied_of s.history))) s.reservations

abbrev pub jobs_reserved : List (ℕ × Entry) → Jobs
jobs_reserved [] = []
jobs_reserved (r ∷ rs) = items_of r.1.jobs.items ++ jobs_reserved rs

-- the node's record, and behind it the jobs of the entries that it has still to pass
abbrev pub logged : Standing → Jobs
logged s = record_of s.history ++ jobs_reserved (unpassed s)

-- the jobs of entries, in order
abbrev pub jobs_in : List Entry → Jobs
jobs_in [] = []
jobs_in (entry ∷ entries) = items_of entry.jobs.items ++ jobs_in entries

-- the numbers of each connection's jobs rise along these entries
abbrev pub EachRises : List Entry → Type 0
EachRises entries = (node : ℕ) → AreRising node (jobs_in entries)

-- There is a log, which begins with what the node knows, and has as many entries as it has seen, or more. The node's reservations are its
-- entries in that log, each under its number and no others. The numbers of each connection's jobs rise along it.
abbrev pub StandsInLog : Standing → Type 0
StandsInLog s = (log : List Entry) × IsBeginningOf (known_of s) log × (s.seen ≤ length log) × (s.reservations ≡ own_entries s.node log) × EachRises log

-- the jobs of those of a log's entries that the node has still to pass
abbrev pub jobs_behind : Standing → List Entry → Jobs
jobs_behind s entries = jobs_in (drop (passed_of s) entries)

-- the numbers of each of the node's connections rise along its record and the entries that follow there
abbrev pub RisesBefore : Standing → List Entry → Type 0
RisesBefore s entries = AreRising s.node (record_of s.history ++ jobs_behind s entries)

-- shares of an entry of this node, one for each node; the numbers of its jobs go on rising behind those that the node has logged
abbrev pub IsSharesFor : Standing → List (Option Entry) → Type 0
IsSharesFor s shares = (entry : Entry) × (shares ≡ shares_of entry s.nodes) × (entry.node ≡ s.node) × AreRising s.node (logged s ++ items_of entry.jobs.items)

-- no share waits for its cell
abbrev pub IsAllFilled : Standing → Type 0
IsAllFilled s = (node : ℕ) → slice_index_or s.unfilled node None ≡ None

-- a greater tail was met, or none, and nothing else changed
abbrev pub LooksOn : Standing → Standing → Type 0
LooksOn s t = (s.seen ≤ t.seen) × (t ≡ record s { seen = t.seen })

-- the entry of shares, as a reservation of that number
abbrev pub reservation : ℕ → List (Option Entry) → List (ℕ × Entry)
reservation at [] = []
reservation at (share ∷ shares) = map (λ entry. (at, entry)) (option_to_list share)

-- the number `at` was reserved for the entry of these shares
abbrev pub reserved_as : ℕ → List (Option Entry) → Standing → Standing
reserved_as at shares s = record s { seen = at + 1; reservations = s.reservations ++ reservation at shares; at = at; unfilled = shares }

-- the share of a node went into its cell
abbrev pub filled_for : ℕ → Standing → Standing
filled_for node s = record s { unfilled = slice_set s.unfilled node None }

-- the entry was fetched
abbrev pub fetched_with : Entry → Standing → Standing
fetched_with entry s = record s { held = Some entry }

-- the entry that was held is passed
abbrev pub passed_on : Standing → Standing
passed_on s = record s { history = s.history ++ map Applied (option_to_list s.held); held = None }

-- this was done behind all that was done before, and the tail met is `seen`
abbrev pub done_with : List LogEvent → ℕ → Standing → Standing
done_with turns seen s = record s { history = s.history ++ turns; seen = seen }

-- these reads were run
abbrev pub noted_with : List Job → ℕ → Standing → Standing
noted_with jobs seen s = done_with (map Ran jobs) seen s

-- the next connection was opened, which this worker serves
abbrev pub opened_with : ℕ → ℕ → Standing → Standing
opened_with worker seen s = done_with (Opened worker ∷ []) seen s

-- the numbers of the reads go on rising behind those that the node has logged
abbrev pub AreNextReads : List Job → Standing → Type 0
AreNextReads jobs s = AreRising s.node (logged (noted_with jobs s.seen s))
