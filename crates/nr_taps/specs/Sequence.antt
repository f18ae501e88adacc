-- One sequence behind all that the nodes of one log hand out.
use Rattle.std.specs.Prelude.{◌≡◌, ◌⊎◌, ◌==◌, ℕ, false, cond, List, [], ◌∷◌, ◌++◌, length, map, filter, flat_map}
use Rattle.std.specs.List.{AllByRecursion}
use Rattle.nr_model.specs.Bytes.{IsBeginningOf}
use Rattle.nr_model.specs.Items.{Item, Sequence, is_update}
use Rattle.nr_model.specs.Sequential.{emitted_for}
use Rattle.nr_model.specs.Nodes.{Taken, Entry, Reads, Logged, log_of, items_taken, part_from}
use Rattle.nr_entry.specs.Jobs.{item_of, items_of}
use Rattle.nr_entry.specs.declared.entry.Entry as entries
use Rattle.nr_log_end.specs.Numbers.{AreRising}
use Rattle.nr_log_end.specs.declared.standing.Standing.{Standing}
use Rattle.nr_log_end.specs.declared.standing.LogEvent.{LogEvent}
use Rattle.nr_log_end.specs.declared.standing.LogEvent.TheVariants.{Applied, Ran, Opened}
use Rattle.nr_log_end.specs.Standings.{record_of, known_of}
use Rattle.nr_job_numbers.specs.Stored.{numbers_in}
use Rattle.nr_oplog.specs.Plays.{AreOfOneLog}
use Rattle.nr_node.specs.Level.{IsCount, connection_at}
use Rattle.nr_node.specs.Sound.{IsSound}

-- the items of what was taken, in order: those of each entry at its moment, and each read at its place
abbrev pub sequence_of : List Taken → Sequence
sequence_of taken = flat_map items_taken taken

-- the updates of a sequence
abbrev pub updates_of : Sequence → Sequence
updates_of items = filter (λ (item : Item). is_update item.deed) items

-- what a node ran by itself are reads of its connections
abbrev pub IsRunBy : Taken → Type 0
IsRunBy (Entry node jobs) = Unit {0}
IsRunBy (Reads node count jobs) = AllByRecursion (λ (job : Item). (job.connection.node ≡ node) × (is_update job.deed ≡ false)) jobs

abbrev pub AreRun : List Taken → Type 0
AreRun taken = AllByRecursion IsRunBy taken

-- A standing's record begins its node's part of what was taken, and its updates are the first of the sequence's. The jobs of each of the node's connections in
-- it have the numbers 0, 1, 2 and so on, and are the first of that connection in the sequence, along which the numbers rise: so the others' numbers are above
-- these, and each stands there once. What one sequential Redis emits for such a connection along the record begins what it emits for it along the sequence.
pub record IsExplainedBy (taken : List Taken) (s : Standing) : Type 0 where
  pub part : IsBeginningOf (record_of s.history) (part_from s.node (length (log_of taken)) taken)
  pub updates : IsBeginningOf (updates_of (record_of s.history)) (updates_of (sequence_of taken))
  pub numbered : (serial : ℕ) → IsCount (numbers_in (connection_at s.node serial) (record_of s.history))
  pub jobs : (serial : ℕ) → IsBeginningOf (numbers_in (connection_at s.node serial) (record_of s.history))
      (numbers_in (connection_at s.node serial) (sequence_of taken))
  pub rising : AreRising s.node (sequence_of taken)
  pub emitted : (serial : ℕ) → IsBeginningOf (emitted_for (connection_at s.node serial) (record_of s.history))
      (emitted_for (connection_at s.node serial) (sequence_of taken))

-- the log is what one of these knows of it, or none of it
abbrev pub logged_of : entries.Entry → Logged
logged_of entry = record { node = entry.node; jobs = items_of entry.jobs.items }

abbrev pub IsLogOf : List Standing → List Logged → Type 0
IsLogOf [] log = log ≡ []
IsLogOf (s ∷ more) log = (log ≡ map logged_of (known_of s)) ⊎ IsLogOf more log

-- the reads that a node ran, in what was taken and along a history
abbrev pub reads_by : ℕ → List Taken → Sequence
reads_by r [] = []
reads_by r (Entry node jobs ∷ more) = reads_by r more
reads_by r (Reads node count jobs ∷ more) = let rest = reads_by r more in cond (node == r) (jobs ++ rest) rest

abbrev pub ran_items : List LogEvent → Sequence
ran_items [] = []
ran_items (Applied entry ∷ turns) = ran_items turns
ran_items (Ran job ∷ turns) = item_of job ∷ ran_items turns
ran_items (Opened worker ∷ turns) = ran_items turns

-- these are the reads that one of these standings of a node ran, or none
abbrev pub AreReadsOf : List Standing → ℕ → Sequence → Type 0
AreReadsOf [] node items = items ≡ []
AreReadsOf (s ∷ more) node items = ((s.node ≡ node) × (items ≡ ran_items s.history)) ⊎ AreReadsOf more node items

-- One sequence explains all of these. Its log is what one of them knows, and the reads of each node in it are those that one of them ran: so it has no job that none
-- of them knows, and each as often as one of them does. The numbers of each connection's jobs rise along it, whether or not one of them is of its node.
abbrev pub OneSequence : List Standing → Type 0
OneSequence standings = (taken : List Taken) × AreRun taken × AllByRecursion (IsExplainedBy taken) standings × IsLogOf standings (log_of taken)
    × ((node : ℕ) → AreReadsOf standings node (reads_by node taken)) × ((node : ℕ) → AreRising node (sequence_of taken))

-- each two of these are of one log
abbrev pub AreAllOfOneLog : List Standing → Type 0
AreAllOfOneLog [] = Unit {0}
AreAllOfOneLog (s ∷ more) = AllByRecursion (AreOfOneLog s) more × AreAllOfOneLog more

-- sound standings of one log have one sequence
abbrev pub HaveOneSequence : Type 0
HaveOneSequence = (standings : List Standing) → AllByRecursion IsSound standings → AreAllOfOneLog standings → OneSequence standings
