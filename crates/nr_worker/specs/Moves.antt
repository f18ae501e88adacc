-- The steps of a worker, by what its calls say.
use Rattle.std.specs.Prelude.{◌≡◌, ◌≢◌, ◌⊎◌, ℕ, Bool, true, cond, map, List, [], ◌∷◌, ◌++◌, length, Contains, Option, Some, None}
use Rattle.std.specs.List.{AllByRecursion}
use Rattle.nr_model.specs.Items.{Connection, Item, is_end, same_connection}
use Rattle.nr_model.specs.Connections.{Feeding}
use Rattle.nr_entry.specs.Jobs.{connection_of, items_of}
use Rattle.nr_entry.specs.declared.batch.Batch.{Batch}
use Rattle.nr_log_end.specs.declared.standing.Standing.{Standing}
use Rattle.nr_slots.specs.declared.view.WorkerPast.{WorkerPast}
use Rattle.nr_slots.specs.Rule.{no_desk}
use Rattle.nr_node.specs.Sound.{IsSound, ServesOpened}
use Rattle.nr_node.specs.declared.collecting.LastPiece.{LastPiece}
use Rattle.nr_combiner.specs.Heard.{HasHeard, Knows, KnowsUnended}
use Rattle.nr_taps.specs.Marks.{Adopts}
use Rattle.nr_taps.specs.Taps.{HaveMet}
use Rattle.nr_worker.specs.Worker.{AllPosted, CountsFrom, WorkerState, Served, all_asked, asked_of}

-- one that has done nothing yet
abbrev pub fresh_desk : ℕ → ℕ → WorkerState
fresh_desk node worker = record { node = node; worker = worker; posted = []; heard = no_desk; mark = None; served = [] }

-- a connection of the node was opened for the worker that it hasn't had, and its mark adopted the token of that
pub record Opens (c : Connection) (s : Standing) (lane : WorkerPast) (d e : WorkerState) : Type 0 where
  pub new : AllByRecursion (λ (x : Served). x.connection ≢ c) d.served
  pub knows : Knows d.worker e.heard s lane
  pub serves : ServesOpened s d.worker c
  pub posted : lane.posted ≡ d.posted
  pub sound : IsSound s × (s.node ≡ d.node)
  pub adopted : Adopts d.mark s e.mark
  pub met : HaveMet d.mark (Some s)
  pub opened : e ≡ record d { heard = e.heard; mark = e.mark; served = d.served ++ record { connection = c; fed = []; closing = None; handed = []; ends = [] } ∷ [] }

-- A connection that got no end yet was fed so much now, and closed so, if it was closed: the jobs that this asks for count up, those of it that were posted are among them,
-- and nothing else changed. So it is where more bytes ask for more, and where a close puts a last job in the place of those that weren't posted.
pub record Asks (fed : List Feeding) (closing : Option Item) (d e : WorkerState) : Type 0 where
  pub front : List Served
  pub one : Served
  pub back : List Served
  pub there : d.served ≡ front ++ one ∷ back
  pub live : one.ends ≡ []
  pub counted : CountsFrom 0 (asked_of (record one { fed = fed; closing = closing }))
  pub posted : AllPosted (λ (job : Item). job.connection ≡ one.connection → Contains (asked_of (record one { fed = fed; closing = closing })) job) d.posted
  pub changed : e ≡ record d { served = front ++ record one { fed = fed; closing = closing } ∷ back }

-- a connection got this end, where it is the job's
abbrev pub ended_with : Item → Served → Served
ended_with job x = record x { ends = cond (same_connection job.connection x.connection) (x.ends ++ job ∷ []) x.ends }

-- A connection that the worker serves, and of which it posted a job, got an end as its node came back: the worker heard of the node then, and its mark adopted the token of
-- that.
pub record Ends (job : Item) (s : Standing) (lane : WorkerPast) (d e : WorkerState) : Type 0 where
  pub knows : KnowsUnended d.worker job.connection e.heard s lane
  pub posted : lane.posted ≡ d.posted
  pub sound : IsSound s × (s.node ≡ d.node)
  pub adopted : Adopts d.mark s e.mark
  pub met : HaveMet d.mark (Some s)
  pub is_end : is_end job.deed ≡ true
  pub ended : e ≡ record d { heard = e.heard; mark = e.mark; served = map (ended_with job) d.served }

-- a batch was posted of jobs each of which its connection asked for, or got as its end
pub record Posts (batch : Batch) (d e : WorkerState) : Type 0 where
  pub asked : AllByRecursion (λ (x : Served). AllByRecursion (λ (job : Item). job.connection ≡ x.connection → Contains (all_asked x) job) (items_of batch.jobs.items)) d.served
  pub known : AllByRecursion (λ (job : Item). (x : Served) × Contains d.served x × (x.connection ≡ job.connection)) (items_of batch.jobs.items)
  pub posted : e ≡ record d { posted = d.posted ++ batch ∷ [] }

-- A connection that got no end yet got a piece, which begins behind all that it had got; or one got nothing.
abbrev pub HasGot : List LastPiece → Served → Served → Type 0
HasGot pieces x y = (y ≡ x) ⊎ ((one : LastPiece) × (x.ends ≡ []) × Contains pieces one × (connection_of one.piece.conn ≡ x.connection) × (one.piece.from ≡ length x.handed)
    × (y ≡ record x { handed = x.handed ++ one.piece.bytes.items }))

abbrev pub HaveGot : List LastPiece → List Served → List Served → Type 0
HaveGot pieces [] [] = Unit {0}
HaveGot pieces [] (y ∷ ys) = ⊥
HaveGot pieces (x ∷ xs) [] = ⊥
HaveGot pieces (x ∷ xs) (y ∷ ys) = HasGot pieces x y × HaveGot pieces xs ys

-- a turn, or what was handed out without one, of which it heard: its mark adopted the token, and each connection got a piece or nothing
pub record HearsTurn (most : ℕ) (down : Bool) (s : Standing) (lane : WorkerPast) (old new : List LastPiece) (d e : WorkerState) : Type 0 where
  pub heard : HasHeard d.worker most down e.heard s lane old new
  pub posted : lane.posted ≡ d.posted
  pub sound : IsSound s × (s.node ≡ d.node)
  pub adopted : Adopts d.mark s e.mark
  pub met : HaveMet d.mark (Some s)
  pub got : HaveGot heard.added.pieces d.served e.served
  pub same : e ≡ record d { heard = e.heard; mark = e.mark; served = e.served }
