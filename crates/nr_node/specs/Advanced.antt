-- What an entry does to a replica, and how far a node has gone on.
use Rattle.std.specs.Prelude.{◌≡◌, ◌≢◌, ◌⊎◌, ◌==◌, ◌≤◌, ℕ, true, false, cond, List, ◌++◌, map, flat_map, length, Option, Some, None, IfSome, [], ◌∷◌, option_map}
use Rattle.std.specs.List.{range_with_len}
use Rattle.std.specs.FinMap as finmap
use Rattle.nr_model.specs.Bytes.{Bytes, IsBeginningOf}
use Rattle.nr_model.specs.Items.{Connection, Sequence}
use Rattle.nr_model.specs.Servers.{fresh}
use Rattle.nr_model.specs.Entries.{Jobs}
use Rattle.nr_model.specs.Queues.{Queue, received}
use Rattle.nr_entry.specs.Jobs.{items_of}
use Rattle.nr_entry.specs.declared.entry.Entry.{Entry}
use Rattle.nr_entry.specs.declared.job.Job.{Job}
use Rattle.nr_log_end.specs.declared.standing.Standing.{Standing}
use Rattle.nr_log_end.specs.declared.standing.Load.{Load}
use Rattle.nr_log_end.specs.declared.standing.Load.TheVariants.{Unfilled}
use Rattle.nr_log_end.specs.declared.standing.LogEvent.TheVariants.{Applied, Ran}
use Rattle.nr_log_end.specs.Standings.{record_of, passed_of}
use Rattle.nr_oplog.specs.declared.view.LogView.{LogView}
use Rattle.nr_job_numbers.specs.declared.account.Account.{Account}
use Rattle.nr_job_numbers.specs.Account.{back_to}
use Rattle.nr_job_numbers.specs.Stored.{numbers_in}
use Rattle.nr_job_numbers.specs.Book.{Book, without_ended, HasGoneBack}
use Rattle.nr_replica.specs.Members.{Member, worker_of}
use Rattle.nr_replica.specs.Backlogs.{HasBacklog}
use Rattle.nr_replica.specs.declared.fall.Fall.{Fall}
use Rattle.nr_replica.specs.declared.fall.Fall.TheVariants.{Refused}
use Rattle.nr_replica.specs.Replicas.{ReplicaState, IsApplied, fallen}
use Rattle.nr_node.specs.declared.next.Next.{Next}
use Rattle.nr_node.specs.Level.{IsLevel, IsInOrder, connection_at, unpassed, jobs_reserved}
use Rattle.nr_node.specs.OwnEntries.{AreAhead}
use Rattle.nr_node.specs.Next.{jobs_next}
use Rattle.nr_node.specs.Owing.{IsOwing, awaited, unexecuted}

-- the replica fell, for want of memory or since the next entry was to be refused
abbrev pub Falls : ReplicaState → ReplicaState → Type 0
Falls old new = (fall : Fall) × (new ≡ fallen fall old) × (fall ≡ Refused → old.refused ≡ true)

-- it was applied, or the replica fell over it; one that is down leaves it
abbrev pub IsTakenIn : Entry → ReplicaState → ReplicaState → Type 0
IsTakenIn entry old new =
    ((old.down ≡ true) × (new ≡ old)) ⊎ ((old.down ≡ false) × (IsApplied entry old new ⊎ Falls old new))

-- whatever was loaded, the greatest tail that was met stays
abbrev pub MeetsNoTail : LogView → LogView → Type 0
MeetsNoTail v w = (w.standing.seen ≡ v.standing.seen) × ((more : List Load) × (w.looks ≡ v.looks ++ more))

-- why a node stops before the tail: much waits for a connection of its replica, which isn't down, or its server is lent; or it loaded the stamp of the next entry's cell last,
-- which wasn't filled
abbrev pub HasStopped : List Load → LogView → ReplicaState → Type 0
HasStopped looks v replica =
    ((replica.down ≡ false) × (HasBacklog replica.members ⊎ (replica.lent ≡ true)))
    ⊎ ((more : List Load) × (v.looks ≡ looks ++ (more ++ Unfilled (passed_of v.standing) ∷ [])))

-- it was asked of a replica that isn't down whether its server is lent: nothing else changed of it
pub record HasAsked (old new : ReplicaState) : Type 0 where
  pub replica : new ≡ record old { lent = new.lent }
  pub was : new.lent ≡ true → old.lent ≡ true
  pub still : old.down ≡ true → new ≡ old

-- these entries were passed, and a tail was met that is no less: nothing else changed at the end of the log
pub record HasPassed (entries : List Entry) (s t : Standing) : Type 0 where
  pub seen : s.seen ≤ t.seen
  pub standing : t ≡ record s { history = s.history ++ map Applied entries; seen = t.seen }

-- these reads were noted
pub record HasNoted (ran : List Job) (s t : Standing) : Type 0 where
  pub seen : s.seen ≤ t.seen
  pub standing : t ≡ record s { history = s.history ++ map Ran ran; seen = t.seen }

-- the jobs of the entries of a node among these
abbrev pub jobs_of_own : ℕ → List Entry → Jobs
jobs_of_own node [] = []
jobs_of_own node (entry ∷ entries) = cond (entry.node == node) (items_of entry.jobs.items ++ jobs_of_own node entries) (jobs_of_own node entries)

-- texts came, whatever they are, one after the other, each in or out for itself, behind what waits for a connection, until its queue was cut: by its limit, or where memory was refused
abbrev pub all_received : Queue → List (Option ℕ × List Bytes) → Queue
all_received q [] = q
all_received q (one ∷ more) = all_received (received one.0 q one.1) more

-- so they did, and nothing else of it changed
abbrev pub HasGot : Member → Member → Type 0
HasGot old new = (more : List (Option ℕ × List Bytes)) × (new ≡ record old { outbox = all_received old.outbox more })

abbrev pub HaveGot : List Member → List Member → Type 0
HaveGot [] [] = Unit {0}
HaveGot [] (new ∷ news) = ⊥
HaveGot (old ∷ olds) [] = ⊥
HaveGot (old ∷ olds) (new ∷ news) = HasGot old new × HaveGot olds news

-- the jobs of all of these
abbrev pub jobs_of_all : List Entry → Jobs
jobs_of_all entries = flat_map (λ (entry : Entry). items_of entry.jobs.items) entries

-- an account is as it was; or it is gone: then its connection's end was taken, and all jobs that were taken of it are in a record; or it went back to a job that
-- was dropped
abbrev pub IsClosedAt : Sequence → Connection → Option Account → Option Account → Type 0
IsClosedAt done c old new =
    (new ≡ old)
    ⊎ (((new ≡ None) × IfSome old (λ (account : Account). (account.is_ended ≡ true) × IsBeginningOf (range_with_len 0 account.next) (numbers_in c done)))
    ⊎ ((number : ℕ) × (new ≡ option_map (back_to number) old)))

-- so is each of a node's, and nothing else of its book changed
pub record HasClosed (done : Sequence) (old new : Book) : Type 0 where
  pub node : new.node ≡ old.node
  pub last : new.last ≡ old.last
  pub accounts : (serial : ℕ) → IsClosedAt done (connection_at old.node serial) (finmap.get old.held serial) (finmap.get new.held serial)

-- A node fell over one of these entries, and what it had lifted was dropped: the accounts that ended before that entry went, then all went back by what was
-- dropped, and then those went that ended from that entry on.
pub record HasLost (entries : List Entry) (dropped : Jobs) (old new : Book) : Type 0 where
  pub before : List Entry
  pub over : Entry
  pub behind : List Entry
  pub all : entries ≡ before ++ over ∷ behind
  pub back : Book
  pub went_back : HasGoneBack dropped (without_ended (jobs_of_all before) old) back
  pub ended : new ≡ without_ended (jobs_of_all (over ∷ behind)) back

-- A node went on by these entries: it is level, in order and owing if it was, and what waits is what waited unless it is down; none goes down without one. The
-- accounts that ended go, whether it is up or down, and where it falls all go back by what it drops. Its server isn't lent anew.
pub record GoesOn (entries : List Entry) (s t : Standing) (old new : ReplicaState) (next after : Option Next) (book later : Book) : Type 0 where
  pub passed : HasPassed entries s t
  pub own : jobs_reserved (unpassed s) ≡ jobs_of_own s.node entries ++ jobs_reserved (unpassed t)
  pub level : IsLevel s old → IsLevel t new
  pub order : IsInOrder s old book (jobs_next next) → IsInOrder t new later (jobs_next after)
  pub closed : IsInOrder s old book (jobs_next next) → HasClosed (record_of t.history) book later
  pub ended : new.down ≡ old.down → later ≡ without_ended (jobs_of_all entries) book
  pub lost : old.down ≡ false → new.down ≡ true → HasLost entries (items_of (jobs_next next) ++ items_of old.waiting) book later
  pub owing : IsLevel s old → new.down ≡ false → IsOwing old.members old.owed (unexecuted s (jobs_next next) old.waiting)
      → IsOwing new.members new.owed (unexecuted t (jobs_next after) new.waiting)
  pub members : length new.members ≡ length old.members
  pub workers : (c : Connection) → worker_of new.members c ≡ worker_of old.members c
  pub owed : awaited new.owed ≡ awaited old.owed
  pub got : HaveGot old.members new.members
  pub refused : new.down ≡ false → new.refused ≡ old.refused
  pub up : new.down ≡ false → (old.down ≡ false) × (after ≡ next) × (new.waiting ≡ old.waiting)
  pub fell : old.down ≡ false → new.down ≡ true → (entries ≢ []) × (new.waiting ≡ []) × (after ≡ None) × (new.server ≡ fresh) × (new.refused ≡ false)
  pub cause : old.down ≡ false → new.down ≡ true → new.fell ≡ Some Refused → old.refused ≡ true
  pub still : old.down ≡ true → new ≡ old
  pub lent : new.lent ≡ true → old.lent ≡ true
  pub ahead : entries ≢ [] → AreAhead t
  pub after_is : (after ≡ None) ⊎ (after ≡ next)
