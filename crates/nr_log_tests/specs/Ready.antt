-- Ends between two calls of a test.
use Rattle.std.specs.Prelude.{◌≡◌, ℕ, ◌+◌, ◌<◌, ◌≤◌, List, [], ◌∷◌, ◌++◌, length, Option, None}
use Rattle.nr_entry.specs.declared.entry.Entry.{Entry}
use Rattle.nr_entry.specs.declared.job.Job.{Job}
use Rattle.nr_entry.specs.Shares.{shares_of}
use Rattle.nr_log_end.specs.Numbers.{IsRising, numbers_of, connection_at}
use Rattle.nr_log_end.specs.declared.standing.Standing.{Standing}
use Rattle.nr_log_end.specs.Standings.{IsAllFilled, applied_of, own_entries, logged}

-- one job, of that number
abbrev pub IsJobOf : ℕ → List Job → Type 0
IsJobOf number jobs = (job : Job) × (jobs ≡ job ∷ []) × (job.number ≡ number)

-- shares of an entry of that node of so many, whose one job has that number
abbrev pub IsOfNode : ℕ → ℕ → ℕ → List (Option Entry) → Type 0
IsOfNode node nodes number shares = (entry : Entry) × (shares ≡ shares_of entry nodes) × (entry.node ≡ node) × IsJobOf number entry.jobs.items

-- no more of the node's entries are passed than it reserved, and the numbers of each of its connections, and the next one behind them, rise
abbrev pub IsBefore : ℕ → Standing → Type 0
IsBefore next s = (length (own_entries s.node (applied_of s.history)) ≤ length s.reservations)
    × ((serial : ℕ) → IsRising (numbers_of (connection_at s.node serial) (logged s) ++ next ∷ []))

-- the end of that node of so many, which holds no entry and has no cell to fill; the numbers that it has logged are below the next one
abbrev pub IsReady : ℕ → ℕ → ℕ → Standing → Type 0
IsReady node nodes next s = (s.node ≡ node) × (s.nodes ≡ nodes) × (node < nodes) × (s.held ≡ None) × IsBefore next s × IsAllFilled s

-- the same, where the number was just reserved for an entry whose job had the next one
abbrev pub IsFresh : ℕ → ℕ → ℕ → ℕ → Standing → Type 0
IsFresh node nodes number at s = (s.node ≡ node) × (s.nodes ≡ nodes) × (node < nodes) × (s.held ≡ None) × IsBefore (number + 1) s × (s.at ≡ at)
    × IsOfNode node nodes number s.unfilled
