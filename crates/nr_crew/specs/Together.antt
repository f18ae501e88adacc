-- What the workers of a server have done together: the theorem of `run_workers`.
use Rattle.std.specs.Prelude.{◌≡◌, ℕ, ◌<◌, false, List, [], ◌∷◌, ◌++◌, map, length, Option, Some}
use Rattle.std.specs.List.{AllByRecursion}
use Rattle.nr_model.specs.Bytes.{Bytes, IsBeginningOf}
use Rattle.nr_model.specs.Items.{Sequence}
use Rattle.nr_model.specs.Nodes.{Taken, log_of, part_from}
use Rattle.nr_model.specs.Sequential.{emitted_for}
use Rattle.nr_model.specs.Servers.{after_all, fresh}
use Rattle.nr_log_end.specs.declared.standing.Standing.{Standing}
use Rattle.nr_replica.specs.Replicas.{ReplicaState}
use Rattle.nr_node.specs.Level.{IsBehind, IsLevel, IsWhole, connection_at, queue_at}
use Rattle.nr_service.specs.Pollers.{Parting}
use Rattle.nr_taps.specs.Marks.{MarkState, mark_of}
use Rattle.nr_taps.specs.Sequence.{sequence_of, updates_of}
use Rattle.nr_worker.specs.Worker.{WorkerState, IsLed}
use Rattle.nr_worker.specs.Law.{AreAnsweredBeside, GoesTo, IsInTime}
use Rattle.nr_crew.specs.Left.{HasServed, IsAnswered}
use Rattle.nr_crew.specs.declared.lane.WorkerEnd.{WorkerEnd}

-- each is so with the one in its place
abbrev pub AllPairs : {X Y : Type 0} → (X → Y → Type 0) → List X → List Y → Type 0
AllPairs R [] [] = Unit {0}
AllPairs R [] (y ∷ ys) = ⊥
AllPairs R (x ∷ xs) [] = ⊥
AllPairs R (x ∷ xs) (y ∷ ys) = R x y × AllPairs R xs ys

-- each of these is what a worker with the mark in its place left
abbrev pub AreLeft : {S D M : Type 0} → (S → Option Bytes) → (S → Option Bytes) → (M → M → Option ℕ → Type 0) → (D → Option (List (Parting S)))
    → List MarkState → List (WorkerEnd S D M) → Type 0
AreLeft {S} {D} {M} was_received was_sent gives parted marks lefts =
    AllPairs (λ (mark : MarkState) (left : WorkerEnd S D M). IsAnswered was_received was_sent gives (parted left.device) left.node left.worker left.ended mark.standing left.clients.items) marks lefts

-- this is what this worker of a node left
pub record IsLeftBy {S D M : Type 0} (was_received was_sent : S → Option Bytes) (gives : M → M → Option ℕ → Type 0)
    (parted : D → Option (List (Parting S))) (worker : WorkerState) (left : WorkerEnd S D M) : Type 0 where
  pub led : IsLed worker
  pub node_is : worker.node ≡ left.node
  pub number_is : worker.worker ≡ left.worker
  pub served : HasServed was_received was_sent gives (parted left.device) left.ended left.clients.items worker

-- whatever a worker's mark knew earlier stands in front of all that it knows now, and of all that was fed behind that
abbrev pub IsInOrder : WorkerState → Type 0
IsInOrder worker = (earlier : WorkerState) → IsLed earlier → GoesTo earlier worker → IsInTime earlier worker

-- A node's replica: where it isn't down it is one sequential Redis after a beginning of the node's part of the sequence, and the updates of that are the first of the
-- sequence's. What waits for each of its connections begins what that Redis emits for it behind what was handed out: it is all of that where the replica isn't down and the
-- queue isn't cut.
pub record IsReplicaOf (taken : List Taken) (r : ReplicaState) : Type 0 where
  pub done : Sequence
  pub part : IsBeginningOf done (part_from r.node (length (log_of taken)) taken)
  pub updates : IsBeginningOf (updates_of done) (updates_of (sequence_of taken))
  pub server : r.down ≡ false → r.server ≡ after_all fresh done
  pub behind : (serial : ℕ) → serial < length r.members → IsBehind (queue_at serial r.members) (emitted_for (connection_at r.node serial) done)
  pub whole : r.down ≡ false → (serial : ℕ) → serial < length r.members → IsWhole (queue_at serial r.members) (emitted_for (connection_at r.node serial) done)

-- these replicas were taken out of their locks, each level with its end of the log, of which a mark behind the workers' own keeps how it stood
pub record AreTakenOut (own marks : List MarkState) (replicas : List ReplicaState) : Type 0 where
  pub ends : List Standing
  pub marks_are : marks ≡ own ++ map mark_of ends
  pub level : AllPairs IsLevel ends replicas

-- what their marks knew
abbrev pub standings_of : List MarkState → List (Option Standing)
standings_of marks = map (λ (m : MarkState). m.standing) marks

-- This is what workers left that have served together, these are the replicas of their nodes, and these the marks: the workers' and then how the nodes' ends of the log stood, with
-- each of which the replica in its place is level. One sequence answers all their connections, of nothing but what the marks know: what was handed out for each that was ever opened,
-- whether it is left or gone, begins what one sequential Redis emits for it along that sequence, in which its first items are the first that its bytes asked for. Every replica is that
-- Redis after a prefix of it. And of two items of one worker, the one that was answered before the other was fed stands before it.
pub record AreAnsweredTogether {S D M : Type 0} (was_received was_sent : S → Option Bytes) (gives : M → M → Option ℕ → Type 0)
    (parted : D → Option (List (Parting S))) (marks : List MarkState) (lefts : List (WorkerEnd S D M)) (replicas : List ReplicaState) : Type 0 where
  pub workers : List WorkerState
  pub ends : List Standing
  pub marked : standings_of marks ≡ map (λ (worker : WorkerState). worker.mark) workers ++ map (λ (s : Standing). Some s) ends
  pub level : AllPairs IsLevel ends replicas
  pub each : AllPairs (IsLeftBy was_received was_sent gives parted) workers lefts
  pub answered : AreAnsweredBeside ends workers
  pub replicated : AllByRecursion (IsReplicaOf answered.taken) replicas
  pub in_order : AllByRecursion IsInOrder workers

-- these are what workers left that have served together, and the replicas of their nodes, whatever the marks were
pub record AreServedTogether {S D M : Type 0} (was_received was_sent : S → Option Bytes) (gives : M → M → Option ℕ → Type 0)
    (parted : D → Option (List (Parting S))) (lefts : List (WorkerEnd S D M)) (replicas : List ReplicaState) : Type 0 where
  pub marks : List MarkState
  pub together : AreAnsweredTogether was_received was_sent gives parted marks lefts replicas
