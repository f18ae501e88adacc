-- What workers know together.
use Rattle.std.specs.Prelude.{◌≡◌, ℕ, Bool, List, [], ◌∷◌, ◌++◌, length, Contains, Option, option_to_list}
use Rattle.std.specs.List.{AllByRecursion}
use Rattle.nr_model.specs.Bytes.{IsBeginningOf}
use Rattle.nr_model.specs.Items.{Connection, Item, Sequence}
use Rattle.nr_model.specs.Connections.{Feeding}
use Rattle.nr_model.specs.Sequential.{emitted_for}
use Rattle.nr_model.specs.Asked.{own_jobs}
use Rattle.nr_model.specs.Nodes.{Taken, log_of, part_from}
use Rattle.nr_entry.specs.declared.batch.Batch.{Batch}
use Rattle.nr_log_end.specs.Numbers.{IsRising, numbers_of}
use Rattle.nr_log_end.specs.declared.standing.Standing.{Standing}
use Rattle.nr_log_end.specs.Standings.{record_of}
use Rattle.nr_slots.specs.declared.view.WorkerPast.{WorkerPast}
use Rattle.nr_node.specs.declared.collecting.LastPiece.{LastPiece}
use Rattle.nr_combiner.specs.Served.{ComesFrom}
use Rattle.nr_node.specs.Sound.{IsSound}
use Rattle.nr_taps.specs.Sequence.{AreAllOfOneLog, AreReadsOf, AreRun, IsExplainedBy, IsLogOf, reads_by, sequence_of}
use Rattle.nr_worker.specs.Worker.{AreAsked, WorkerState, IsLed, Served, all_asked, asked_of, history_of}
use Rattle.nr_worker.specs.Moves.{Asks, Ends, Opens, Posts, HearsTurn, fresh_desk}

-- What was handed out for a connection begins what one sequential Redis emits for it along the sequence. It begins what is emitted along a beginning of its node's part of
-- that already, and the connection's items there are its first in the sequence, and the first that its bytes asked for. The numbers of all its items rise along
-- the sequence: so those behind the first have greater ones, and each stands there once.
pub record IsAnswered (taken : List Taken) (x : Served) : Type 0 where
  pub begins : IsBeginningOf x.handed (emitted_for x.connection (sequence_of taken))
  pub done : Sequence
  pub part : IsBeginningOf done (part_from x.connection.node (length (log_of taken)) taken)
  pub emitted : IsBeginningOf x.handed (emitted_for x.connection done)
  pub first : IsBeginningOf (own_jobs x.connection done) (own_jobs x.connection (sequence_of taken))
  pub rising : IsRising (numbers_of x.connection (sequence_of taken))
  pub asked : AreAsked (own_jobs x.connection done) (asked_of x)

-- the standings of those that have one
abbrev pub marks_of : List WorkerState → List Standing
marks_of [] = []
marks_of (d ∷ desks) = option_to_list d.mark ++ marks_of desks

-- A worker came from one state to another: its node and its number stay, and what its mark knew is what its mark knows first.
pub record GoesTo (d e : WorkerState) : Type 0 where
  pub node : e.node ≡ d.node
  pub worker : e.worker ≡ d.worker
  pub mark : IsBeginningOf (history_of d.mark) (history_of e.mark)

-- a job comes from what one of these connections asked for, or is an end that it got as its node came back
pub record IsFedTo (served : List Served) (job : Item) : Type 0 where
  pub one : Served
  pub there : Contains served one
  pub connection : one.connection ≡ job.connection
  pub asked : ComesFrom job (all_asked one)

-- What a worker's mark knew stands in front of all that it knows later. Each job there of a connection that is served later was fed before: so what is fed behind the
-- moment at which a job was handed out, or told as executed, stands behind that job.
pub record IsInTime (d e : WorkerState) : Type 0 where
  pub front : IsBeginningOf (record_of (history_of d.mark)) (record_of (history_of e.mark))
  pub fed : AllByRecursion (λ (job : Item). (y : Served) → Contains e.served y → y.connection ≡ job.connection → IsFedTo d.served job) (record_of (history_of d.mark))

-- a mark's record begins its node's part of what was taken
abbrev pub IsPartOf : List Taken → WorkerState → Type 0
IsPartOf taken d = IsBeginningOf (record_of (history_of d.mark)) (part_from d.node (length (log_of taken)) taken)

-- No connection was served at two of these: at whatever two it was, they are one worker of one node.
abbrev pub ServeApart : List WorkerState → Type 0
ServeApart desks = (d e : WorkerState) → Contains desks d → Contains desks e → (x y : Served) → Contains d.served x → Contains e.served y
    → x.connection ≡ y.connection → (d.node ≡ e.node) × (d.worker ≡ e.worker)

-- One sequence answers all connections of these workers. It explains how the ends of some nodes stood, too, and has nothing but what these and the workers' marks know.
pub record AreAnsweredBeside (ends : List Standing) (desks : List WorkerState) : Type 0 where
  pub taken : List Taken
  pub run : AreRun taken
  pub each : AllByRecursion (λ (d : WorkerState). AllByRecursion (IsAnswered taken) d.served) desks
  pub parts : AllByRecursion (IsPartOf taken) desks
  pub apart : ServeApart desks
  pub explained : AllByRecursion (IsExplainedBy taken) ends
  pub log : IsLogOf (ends ++ marks_of desks) (log_of taken)
  pub reads : (node : ℕ) → AreReadsOf (ends ++ marks_of desks) node (reads_by node taken)

-- so it answers them by itself, and has nothing but what their marks know
abbrev pub AreAnswered : List WorkerState → Type 0
AreAnswered desks = AreAnsweredBeside [] desks

pub record HoldsOfDesks : Type 0 where
  pub fresh : (node worker : ℕ) → IsLed (fresh_desk node worker)
  pub opened : (c : Connection) (s : Standing) (lane : WorkerPast) (d e : WorkerState) → IsLed d → Opens c s lane d e → IsLed e × GoesTo d e
  pub asked : (fed : List Feeding) (closing : Option Item) (d e : WorkerState) → IsLed d → Asks fed closing d e → IsLed e × GoesTo d e
  pub ended : (job : Item) (s : Standing) (lane : WorkerPast) (d e : WorkerState) → IsLed d → Ends job s lane d e → IsLed e × GoesTo d e
  pub posted : (batch : Batch) (d e : WorkerState) → IsLed d → Posts batch d e → IsLed e × GoesTo d e
  pub turned : (most : ℕ) (down : Bool) (s : Standing) (lane : WorkerPast) (old new : List LastPiece) (d e : WorkerState) → IsLed d
      → HearsTurn most down s lane old new d e → IsLed e × GoesTo d e
  pub goes : (d e f : WorkerState) → GoesTo d e → GoesTo e f → GoesTo d f
  pub in_time : (d e : WorkerState) → IsLed d → IsLed e → GoesTo d e → IsInTime d e
  pub answered : (ends : List Standing) (desks : List WorkerState) → AllByRecursion IsSound ends → AllByRecursion IsLed desks
      → AreAllOfOneLog (ends ++ marks_of desks) → AreAnsweredBeside ends desks
