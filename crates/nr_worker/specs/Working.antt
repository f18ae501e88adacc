-- What contracts see of a worker, and the law's worker that it stands for.
use Rattle.std.specs.Prelude.{◌≡◌, ◌≢◌, ◌==◌, ◌&&◌, ◌||◌, not, filter, ℕ, ◌+◌, ◌<◌, ◌≤◌, Bool, true, false, cond, IfSome, List, [], ◌∷◌, ◌++◌, ◌⊎◌, map, length, take, drop, Contains, option_to_list, Option, None, Some, refl}
use Rattle.std.specs.Coded.{Coded, code_by, coded×, coded_ℕ, coded_bool, coded_list, coded_option}
use Rattle.std.specs.List.{AllByRecursion, slice_get}
use Rattle.std.specs.Option.{option_map}
use Rattle.nr_model.specs.Bytes.{Bytes}
use Rattle.nr_model.specs.Commands.{served}
use Rattle.nr_model.specs.Connections as connections
use Rattle.nr_model.specs.Items.{Connection, End, Item, same_connection}
use Rattle.nr_model.specs.Modes.{Conversation, framed_conversation, plain, deeds_by}
use Rattle.nr_model.specs.Requests.{framing_of}
use Rattle.nr_entry.specs.Jobs.{items_of}
use Rattle.nr_entry.specs.declared.batch.Answer.{Answer}
use Rattle.nr_entry.specs.declared.batch.Batch.{Batch}
use Rattle.nr_entry.specs.declared.batch.Outcome.TheVariants.{Executed}
use Rattle.nr_entry.specs.declared.job.Job.{Job}
use Rattle.nr_entry.specs.contracts.job.Job as of_job
use Rattle.nr_log_end.specs.declared.standing.Standing.{Standing}
use Rattle.nr_log_end.specs.contracts.standing.Standing as of_standing
use Rattle.nr_slots.specs.Seats.{NoteView, one_if}
use Rattle.nr_slots.specs.declared.view.WorkerPast.{WorkerPast}
use Rattle.nr_node.specs.declared.collecting.LastPiece.{LastPiece}
use Rattle.nr_taps.specs.Marks.{Adopts}
use Rattle.nr_session.specs.SessionState.{SessionState}
use Rattle.nr_job_numbers.specs.declared.account.Unended.{Unended}
use Rattle.nr_combiner.specs.Behind.{CollectsBehind, EndsBehind, TurnsBehind}
use Rattle.nr_combiner.specs.declared.answering.Collected.{Collected}
use Rattle.nr_combiner.specs.declared.answering.Lifts.{Lifts}
use Rattle.nr_combiner.specs.declared.answering.Turned.{Turned}
use Rattle.nr_entry.specs.declared.entry.TheConstants.{MOST_JOBS}
use Rattle.nr_combiner.specs.Workers.{NodeHandleState, coded_worker, told_of, with_more, HasPosted}
use Rattle.nr_combiner.specs.Workers as workers
use Rattle.nr_worker.specs.Seated.{OpenConnectionState, cut_off, fresh_seat, last_job, with_written}
use Rattle.nr_worker.specs.Placed.{FeedsSeat, IsPut, OpenConnectionsState, StopsSeat, coded_seats, listens_here, seat_at, takes_here}
use Rattle.nr_worker.specs.Portions.{AcceptsPortions, EachSeat, HandsOut, portion_of}
use Rattle.nr_worker.specs.Worker.{AllPosted, WorkerState, IsLed, Served, all_asked, asked_of}
use Rattle.nr_worker.specs.Law.{GoesTo}

-- its worker, and what it keeps of its connections; the serials below `next` may have been opened here; the jobs that were asked for and wait to be posted,
-- in order, and how many of them, the first, were handed back; its mark; whether a batch's answer wasn't collected, and whether its node is down; how many bytes wait for a
-- connection at most; how many of these jobs, the last, found no room among the others yet; how many connections its node had as it came back last, as far as was heard;
-- and whether ends are to be put for those, and behind which serial
pub record WorkState : Type 0 where
  pub worker : NodeHandleState
  pub seats : OpenConnectionsState
  pub next : ℕ
  pub jobs : List Job
  pub returned : ℕ
  pub mark : Option Standing
  pub waiting : Bool
  pub down : Bool
  pub limit : ℕ
  pub late : ℕ
  pub since : ℕ
  pub ending : Bool
  pub ended : Option ℕ

abbrev pub coded_work : Coded WorkState
coded_work =
    code_by (NodeHandleState × (OpenConnectionsState × (ℕ × (List Job × (ℕ × (Option Standing × (Bool × (Bool × (ℕ × (ℕ × (ℕ × (Bool × Option ℕ))))))))))))
    (coded× coded_worker
    (coded× coded_seats
    (coded× coded_ℕ
    (coded× (coded_list of_job.the_row.coded)
    (coded× coded_ℕ
    (coded× (coded_option of_standing.the_row.coded)
    (coded× coded_bool (coded× coded_bool (coded× coded_ℕ (coded× coded_ℕ (coded× coded_ℕ (coded× coded_bool (coded_option coded_ℕ)))))))))))))
    (λ v. (v.worker, (v.seats, (v.next, (v.jobs, (v.returned, (v.mark, (v.waiting, (v.down, (v.limit, (v.late, (v.since, (v.ending, v.ended))))))))))))) (λ p. record {
      worker = p.0;
      seats = p.1.0;
      next = p.1.1.0;
      jobs = p.1.1.1.0;
      returned = p.1.1.1.1.0;
      mark = p.1.1.1.1.1.0;
      waiting = p.1.1.1.1.1.1.0;
      down = p.1.1.1.1.1.1.1.0;
      limit = p.1.1.1.1.1.1.1.1.0;
      late = p.1.1.1.1.1.1.1.1.1.0;
      since = p.1.1.1.1.1.1.1.1.1.1.0;
      ending = p.1.1.1.1.1.1.1.1.1.1.1.0;
      ended = p.1.1.1.1.1.1.1.1.1.1.1.1;
    }) (λ _. refl)

-- It has counted its batches, by their numbers and as they were posted, waits for an answer where one wasn't collected, and then none are handed back, of which there is at most a batch; and its mark is of
-- its node.
pub record IsKept (batches : ℕ) (v : WorkState) : Type 0 where
  pub counted : batches ≡ v.worker.next
  pub each : batches ≡ length v.worker.seat.lane.posted
  pub waits : length v.worker.seat.lane.posted ≡ length v.worker.seat.lane.collected + one_if v.waiting
  pub mark : IfSome v.mark (λ (s : Standing). s.node ≡ v.worker.node)
  pub none : v.waiting ≡ true → v.returned ≡ 0
  pub few : v.returned ≤ MOST_JOBS

-- at first
abbrev pub fresh_work : NodeHandleState → ℕ → WorkState
fresh_work worker limit =
    record {
      worker = worker;
      seats = [];
      next = 0;
      jobs = [];
      returned = 0;
      mark = None;
      waiting = false;
      down = false;
      limit = limit;
      late = 0;
      since = 0;
      ending = false;
      ended = None;
    }

-- its mark was taken
abbrev pub without_mark : WorkState → WorkState
without_mark v = record v { mark = None }

-- what bytes ask for, from the start
abbrev pub asks_for : Bytes → Conversation
asks_for text = framed_conversation served plain (framing_of text)

-- a session is what all its bytes leave
pub record IsSession (session : SessionState) (text : Bytes) : Type 0 where
  pub mode : session.mode ≡ (asks_for text).mode
  pub ended : session.ended ≡ (asks_for text).ended
  pub next : session.next ≡ length (deeds_by served text)
  pub rest : session.ended ≡ false → session.rest ≡ (framing_of text).rest

-- A seat is that of a connection that is served: not closed, with no end of its node's fall, as many bytes were handed out as it counts, and its session is as the bytes
-- that were fed leave it, unless it is cut.
pub record IsSeatOf (s : OpenConnectionState) (x : Served) : Type 0 where
  pub unclosed : x.closing ≡ None
  pub live : x.ends ≡ []
  pub handed : s.handed ≡ length x.handed
  pub own : s.session.connection ≡ x.connection
  pub session : s.cut ≡ false → IsSession s.session (connections.fed_to x.connection x.fed)
  pub counted : s.cut ≡ false → length (asked_of x) ≡ s.session.next
  pub few : s.session.next ≤ length (asked_of x)

-- there is one of a connection
pub record IsServed (served : List Served) (c : Connection) : Type 0 where
  pub one : Served
  pub there : Contains served one
  pub connection : one.connection ≡ c

-- the connection of a seat is served, and the seat is that
pub record IsSeated (served : List Served) (c : Connection) (s : OpenConnectionState) : Type 0 where
  pub known : IsServed served c
  pub seat : AllByRecursion (λ (x : Served). x.connection ≡ c → IsSeatOf s x) served

-- a job is one that its connection asked for, or got as its end
pub record IsToPost (served : List Served) (job : Item) : Type 0 where
  pub known : IsServed served job.connection
  pub asked : AllByRecursion (λ (x : Served). job.connection ≡ x.connection → Contains (all_asked x) job) served

-- the jobs of a connection that were posted or wait have numbers below this
pub record IsBelow (batches : List Batch) (jobs : List Item) (c : Connection) (next : ℕ) : Type 0 where
  pub posted : AllPosted (λ (job : Item). job.connection ≡ c → job.number < next) batches
  pub waits : AllByRecursion (λ (job : Item). job.connection ≡ c → job.number < next) jobs

-- one of these jobs is of a connection and has this number
pub record HasNumber (c : Connection) (number : ℕ) (jobs : List Item) : Type 0 where
  pub job : Item
  pub there : Contains jobs job
  pub own : job.connection ≡ c
  pub numbered : job.number ≡ number

-- there is no answer, or it says that all was executed
abbrev pub IsNoOther : Option Answer → Type 0
IsNoOther None = Unit {0}
IsNoOther (Some answer) = answer.outcome ≡ Executed

-- A batch that was posted has the job of a connection with this number. Where its answer was collected, that says that all was executed.
pub record IsUnderway (lane : WorkerPast) (c : Connection) (number : ℕ) : Type 0 where
  pub before : List Batch
  pub batch : Batch
  pub after : List Batch
  pub posted : lane.posted ≡ before ++ batch ∷ after
  pub answered : IsNoOther (slice_get lane.collected (length before))
  pub has : HasNumber c number (items_of batch.jobs.items)

-- The job of a connection with this number waits, or was posted so; or the node is known to be down.
abbrev pub IsAccountedFor : Bool → List Item → WorkerPast → Connection → ℕ → Type 0
IsAccountedFor down waits lane c number = (down ≡ true) ⊎ (HasNumber c number waits ⊎ IsUnderway lane c number)

-- so it is with each job that a connection asked for whose seat isn't cut
abbrev pub AreAccountedFor : Bool → List Item → WorkerPast → Connection → OpenConnectionState → Type 0
AreAccountedFor down waits lane c s = s.cut ≡ false → (number : ℕ) → number < s.session.next → IsAccountedFor down waits lane c number

-- connections no two of which are the same
abbrev pub AreApart : List Connection → Type 0
AreApart [] = Unit {0}
AreApart (c ∷ more) = AllByRecursion (λ (other : Connection). other ≢ c) more × AreApart more

abbrev pub connections_of : List Served → List Connection
connections_of served = map (λ (x : Served). x.connection) served

-- The code's worker stands for a worker of the law: what it posted, what it heard and its mark are the same, its jobs are asked for there, and its seats are those of connections
-- that the worker serves, each of which numbers its next job behind those that were asked for; and none of these is lost.
pub record Reflects (v : WorkState) (d : WorkerState) : Type 0 where
  pub node : d.node ≡ v.worker.node
  pub worker : d.worker ≡ v.worker.seat.worker
  pub posted : d.posted ≡ v.worker.seat.lane.posted
  pub heard : d.heard ≡ v.worker.seat.noted
  pub mark : d.mark ≡ v.mark
  pub below : AllByRecursion (λ (x : Served). x.connection.serial < v.next) d.served
  pub apart : AreApart (connections_of d.served)
  pub jobs : AllByRecursion (IsToPost d.served) (items_of v.jobs)
  pub seats : EachSeat (IsSeated d.served) v.worker.node v.seats
  pub numbers : EachSeat (λ c s. IsBelow v.worker.seat.lane.posted (items_of v.jobs) c s.session.next) v.worker.node v.seats
  pub accounted : EachSeat (AreAccountedFor v.down (items_of v.jobs) v.worker.seat.lane) v.worker.node v.seats

-- A worker of the law goes on to one that the worker then stands for, and its connections are changed so.
pub record LeadsTo (change : List Served → List Served) (w : WorkState) (d : WorkerState) : Type 0 where
  pub then : WorkerState
  pub led : IsLed then
  pub goes : GoesTo d then
  pub reflects : Reflects w then
  pub served : then.served ≡ change d.served

-- Whatever worker of the law a worker stood for, it goes on to one that the worker then stands for, and its connections are changed so: more is fed to
-- them or handed out for them, one is closed, or one more is opened.
pub record Goes (change : List Served → List Served) (v w : WorkState) : Type 0 where
  pub leads : (d : WorkerState) → IsLed d → Reflects v d → LeadsTo change w d

-- nothing is fed or handed out
abbrev pub unchanged : List Served → List Served
unchanged served = served

-- so much more was handed out
abbrev pub handed_more : List connections.Handed → Served → Served
handed_more handed x = record x { handed = x.handed ++ connections.handed_to x.connection handed }

abbrev pub all_handed : List connections.Handed → List Served → List Served
all_handed handed served = map (handed_more handed) served

-- bytes were fed, where they are the connection's
abbrev pub fed_more : connections.Feeding → Served → Served
fed_more feeding x = record x { fed = cond (same_connection feeding.connection x.connection) (x.fed ++ feeding ∷ []) x.fed }

abbrev pub all_fed : connections.Feeding → List Served → List Served
all_fed feeding served = map (fed_more feeding) served

-- one was opened
abbrev pub one_opened : Connection → List Served → List Served
one_opened c served = served ++ record { connection = c; fed = []; closing = None; handed = []; ends = [] } ∷ []

-- A connection of the node with a serial that none had here has a new seat, and nothing else changed but what the worker heard last, and the mark.
pub record OpensNew (c : Connection) (v w : WorkState) : Type 0 where
  pub node : c.node ≡ v.worker.node
  pub later : v.next ≤ c.serial
  pub absent : seat_at c.serial v.seats ≡ None
  pub put : IsPut c.serial (Some (fresh_seat c)) v.seats w.seats
  pub changed : w ≡ record v { worker = told_of w.worker.seat.noted v.worker; seats = w.seats; next = c.serial + 1; mark = w.mark }

-- A connection that was opened may have been closed again, and nothing else changed but what the worker heard last, and the mark.
pub record MayHaveClosed (v w : WorkState) : Type 0 where
  pub worker : workers.MayHaveClosed (told_of w.worker.seat.noted v.worker) w.worker
  pub changed : w ≡ record v { worker = w.worker; mark = w.mark }

-- the job that ends a connection of which a node expects this next, at the first moment: it is executed at that of the entry in which it stands
abbrev pub end_of : ℕ → Unended → Item
end_of node one = record { connection = record { node = node; serial = one.serial }; number = one.next; moment = 0; deed = End None }

-- it was closed with this last job, where it is the job's
abbrev pub closed_with : Item → Served → Served
closed_with job x = record x { closing = cond (same_connection job.connection x.connection) (Some job) x.closing }

-- or with none
abbrev pub all_closed : Option Item → List Served → List Served
all_closed None served = served
all_closed (Some job) served = map (closed_with job) served

-- these ends came to their connections as the node came back
abbrev pub ended_more : List Item → Served → Served
ended_more ends x = record x { ends = x.ends ++ filter (λ (job : Item). same_connection job.connection x.connection) ends }

abbrev pub all_ended : List Item → List Served → List Served
all_ended ends served = map (ended_more ends) served

-- no answer is awaited, and no connection is open
abbrev pub is_bare : WorkState → Bool
is_bare v = not v.waiting && (length v.seats == 0)

-- its node, which had so many connections as it came back last, is taken for down, or came back since that was heard
abbrev pub is_away : ℕ → WorkState → Bool
is_away since v = v.down || not (since == v.since)

-- no jobs wait any more: those that were asked for are lost with the connections of before, for which ends are to be put, from the first serial on
abbrev pub back_work : ℕ → WorkState → WorkState
back_work since v = record v { jobs = []; returned = 0; late = 0; down = false; since = since; ending = true; ended = None }

-- it is taken for down, and no jobs wait any more
abbrev pub fallen_work : WorkState → WorkState
fallen_work v = record v { jobs = []; returned = 0; late = 0; down = true }

-- What its node told is taken in: it is taken for down where it is down; and where it is up again until nothing is left here of before.
abbrev pub heard_work : Bool → ℕ → WorkState → WorkState
heard_work true since v = fallen_work v
heard_work false since v = cond (is_away since v) (cond (is_bare v) (back_work since v) (fallen_work v)) v

-- The end of the next connection of before stands behind the other jobs, with the number that the node expects of it, as it told behind its lock. What was heard last, and
-- the mark, changed by that, and the next to be asked for is the one behind it.
pub record EndsNext (v w : WorkState) : Type 0 where
  pub one : Unended
  pub standing : Standing
  pub note : NoteView
  pub behind : EndsBehind v.worker.node v.worker.seat.worker v.worker.generation v.ended one standing note
  pub adopted : Adopts v.mark standing w.mark
  pub jobs : items_of w.jobs ≡ items_of v.jobs ++ end_of v.worker.node one ∷ []
  pub changed : w ≡ record v { worker = told_of w.worker.seat.noted v.worker; mark = w.mark; jobs = w.jobs; late = 0; ended = Some one.serial }

-- the last job of a connection that is closed, where there is a seat
abbrev pub last_here : ℕ → Option OpenConnectionState → Option Item
last_here moment None = None
last_here moment (Some s) = last_job moment s

-- the last job that a close told of
abbrev pub last_seen : Option (Option Item) → List Item
last_seen None = []
last_seen (Some job) = option_to_list job

-- A seat was closed, if there was one, and so was the node's queue: its last job stands behind the others, late as it is, and nothing else changed.
pub record Closes (serial moment : ℕ) (v w : WorkState) : Type 0 where
  pub gone : IsPut serial None v.seats w.seats
  pub last : items_of w.jobs ≡ items_of v.jobs ++ option_to_list (last_here moment (seat_at serial v.seats))
  pub late : w.late ≡ v.late + length (option_to_list (last_here moment (seat_at serial v.seats)))
  pub worker : workers.MayHaveClosed v.worker w.worker
  pub changed : w ≡ record v { worker = w.worker; seats = w.seats; jobs = w.jobs; late = w.late }

-- So many of the bytes that wait for a connection were written, and nothing else changed.
pub record Writes (serial count : ℕ) (v w : WorkState) : Type 0 where
  pub put : IsPut serial (option_map (with_written count) (seat_at serial v.seats)) v.seats w.seats
  pub changed : w ≡ record v { seats = w.seats }

-- no more bytes are taken from the seat at a serial; nothing else changed
pub record CutsOff (serial : ℕ) (v w : WorkState) : Type 0 where
  pub put : IsPut serial (option_map cut_off (seat_at serial v.seats)) v.seats w.seats
  pub changed : w ≡ record v { seats = w.seats }

-- whether bytes are taken from a connection
abbrev pub takes_from : Connection → WorkState → Bool
takes_from c v = c.node == v.worker.node && takes_here (seat_at c.serial v.seats)

-- whether messages may come for a connection, since it is subscribed to something
abbrev pub listens_to : Connection → WorkState → Bool
listens_to c v = c.node == v.worker.node && listens_here (seat_at c.serial v.seats)

-- Bytes were fed to a seat, and the jobs that they ask for stand behind the others, none of which is late then; nothing else changed.
pub record Feeds (serial moment : ℕ) (bytes : Bytes) (v w : WorkState) : Type 0 where
  pub fed : FeedsSeat serial moment bytes v.seats w.seats (items_of v.jobs) (items_of w.jobs)
  pub late : w.late ≡ 0
  pub changed : w ≡ record v { seats = w.seats; jobs = w.jobs; late = w.late }

-- Or they were not fed to their end: no more are taken from the connection, and the first of these jobs stand there.
pub record Stops (serial moment : ℕ) (bytes : Bytes) (v w : WorkState) : Type 0 where
  pub stopped : StopsSeat serial moment bytes v.seats w.seats (items_of v.jobs) (items_of w.jobs)
  pub changed : w ≡ record v { seats = w.seats; jobs = w.jobs; late = w.late }

-- how many jobs are handed in next: those that were handed back, else at most so many
abbrev pub due : ℕ → ℕ → ℕ
due most returned = cond (returned == 0) most returned

-- No answer was awaited and some jobs waited: the first that are due were handed in as the next batch, and nothing else changed.
pub record HandsIn (most : ℕ) (v w : WorkState) : Type 0 where
  pub still : v.waiting ≡ false
  pub some : v.jobs ≢ []
  pub posted : HasPosted (take (due most v.returned) v.jobs) v.worker w.worker
  pub changed : w ≡ record v { worker = w.worker; jobs = drop (due most v.returned) v.jobs; returned = 0; waiting = true; late = w.late }

-- A turn handed these bytes out: they wait at the seats of their connections, the worker's generation went up once, and nothing else changed but what it heard last, and the
-- mark.
pub record HandsOn (v w : WorkState) : Type 0 where
  pub handed : List connections.Handed
  pub waiting : HandsOut v.worker.node handed v.seats w.seats
  pub goes : Goes (all_handed handed) v w
  pub changed : w ≡ record v { worker = with_more (told_of w.worker.seat.noted v.worker); seats = w.seats; mark = w.mark }

-- So it came from the turn that tells this, whose token the mark adopted, and whose pieces came to the seats. As many batches of the worker were answered then as it tells.
pub record TakesTurn (places : ℕ) (lifts : Lifts) (most : ℕ) (turned : Turned) (v w : WorkState) : Type 0 where
  pub standing : Standing
  pub note : NoteView
  pub pieces : List LastPiece
  pub behind : TurnsBehind places v.worker.node v.worker.seat.worker v.worker.generation lifts most [] pieces turned standing note
  pub counted : turned.answered ≤ length w.worker.seat.noted.answered
  pub adopted : Adopts v.mark standing w.mark
  pub accepted : AcceptsPortions v.limit (map portion_of pieces) v.seats w.seats

-- So it came from what was handed out without a turn, of a node that had answered so many of the worker's batches.
pub record TakesPieces (most : ℕ) (collected : Collected) (v w : WorkState) : Type 0 where
  pub standing : Standing
  pub note : NoteView
  pub pieces : List LastPiece
  pub behind : CollectsBehind v.worker.node v.worker.seat.worker v.worker.generation most [] pieces collected standing note
  pub counted : collected.answered ≤ length w.worker.seat.noted.answered
  pub adopted : Adopts v.mark standing w.mark
  pub accepted : AcceptsPortions v.limit (map portion_of pieces) v.seats w.seats
