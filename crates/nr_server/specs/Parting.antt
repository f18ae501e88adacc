-- How the clients are let go of that workers left.
use Rattle.std.specs.Prelude.{◌≡◌, List, [], map, Option}
use Rattle.nr_crew.specs.Together.{AllPairs}
use Rattle.nr_crew.specs.declared.lane.WorkerEnd.{WorkerEnd}
use Rattle.nr_service.specs.Pollers.{Parting, Finished, PartsWith}
use Rattle.nr_service.specs.Serving.{streams_of}
use Rattle.nr_service.specs.declared.client.Client.{Client}

-- Their streams are given back, each as one of which all was sent.
abbrev pub PartsFrom : {S : Type 0} → List (Client S) → Option (List (Parting S)) → Option (List (Parting S)) → Type 0
PartsFrom clients old new = PartsWith (map Finished (streams_of clients)) old new

-- the clients of a worker are let go of so, in their order, and none is left
pub record HasParted {S D M : Type 0} (parted : D → Option (List (Parting S))) (old new : WorkerEnd S D M) : Type 0 where
  pub none : new.clients.items ≡ []
  pub parts : PartsFrom old.clients.items (parted old.device) (parted new.device)

-- its clients are the same, and nobody was let go of
pub record PartsWithNone {S D M : Type 0} (parted : D → Option (List (Parting S))) (old new : WorkerEnd S D M) : Type 0 where
  pub same : new.clients.items ≡ old.clients.items
  pub parts_none : parted new.device ≡ parted old.device

-- so it is of each worker
abbrev pub HaveParted : {S D M : Type 0} → (D → Option (List (Parting S))) → List (WorkerEnd S D M) → List (WorkerEnd S D M) → Type 0
HaveParted parted olds news = AllPairs (HasParted parted) olds news

abbrev pub PartWithNone : {S D M : Type 0} → (D → Option (List (Parting S))) → List (WorkerEnd S D M) → List (WorkerEnd S D M) → Type 0
PartWithNone parted olds news = AllPairs (PartsWithNone parted) olds news
