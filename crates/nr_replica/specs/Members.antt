-- The connections of a node, as its replica keeps them, and what is delivered to them.
use Rattle.std.specs.Prelude.{◌≡◌, ℕ, suc, Bool, true, false, cond, ◌==◌, ◌&&◌, nat_le, List, [], ◌∷◌, map, length, filter, Option, Some, None, slice_index_or, refl}
use Rattle.std.specs.Coded.{Coded, code_by, coded×, coded_ℕ, coded_bool}
use Rattle.std.specs.List.{find, range_with_len}
use Rattle.std.specs.Map.{lookup}
use Rattle.std.specs.Ordering.{eq_by_cmp, nat_cmp}
use Rattle.nr_model.specs.Bytes.{Bytes}
use Rattle.nr_model.specs.Connections.{is_some_bytes}
use Rattle.nr_model.specs.Items.{Connection, same_connection, is_update}
use Rattle.nr_model.specs.Entries.{Jobs}
use Rattle.nr_model.specs.Queues.{Queue, coded_queue, received, cut_off, handing, closed_queue}
use Rattle.nr_model.specs.Sequential.Events.{Emission}
use Rattle.nr_model.specs.Nodes.Steps.{texts_for}
use Rattle.nr_emission.specs.Emitted.{Written}
use Rattle.nr_replica.specs.declared.members.NodeMembers.{NodeMembers}

-- A connection of the node: the worker that serves it, what waits for it, and whether it was closed
pub record Member : Type 0 where
  pub worker : ℕ
  pub outbox : Queue
  pub is_closed : Bool

abbrev pub coded_member : Coded Member
coded_member =
    code_by (ℕ × (Queue × Bool)) (coded× coded_ℕ (coded× coded_queue coded_bool)) (λ m. (m.worker, (m.outbox, m.is_closed)))
    (λ p. record { worker = p.0; outbox = p.1.0; is_closed = p.1.1 }) (λ _. refl)

abbrev pub fresh_queue : Connection → ℕ → Queue
fresh_queue c limit = record { connection = c; waiting = []; handed = 0; limit = limit; cut = false }

abbrev pub fresh_member : Connection → ℕ → ℕ → Member
fresh_member c worker limit = record { worker = worker; outbox = fresh_queue c limit; is_closed = false }

-- what waits is dropped, and nothing more comes
abbrev pub closed_member : Member → Member
closed_member member = record { worker = member.worker; outbox = closed_queue member.outbox.connection; is_closed = true }

-- nothing more comes
abbrev pub cut_member : Member → Member
cut_member member = record member { outbox = cut_off member.outbox }

-- so many of the bytes that wait were handed out
abbrev pub handed_member : ℕ → Member → Member
handed_member most member = record member { outbox = handing most member.outbox }

-- connection number n is the first of these, and so on
abbrev pub AreNumbered : ℕ → ℕ → List Member → Type 0
AreNumbered node n [] = Unit {0}
AreNumbered node n (member ∷ members) = (member.outbox.connection ≡ record { node = node; serial = n }) × AreNumbered node (suc n) members

-- each got its own texts, in order, until its queue was cut: by its limit, or since memory was refused for it
abbrev pub AreReceived : (Connection → List Bytes) → List Member → List Member → Type 0
AreReceived texts [] [] = Unit {0}
AreReceived texts [] (member ∷ members) = ⊥
AreReceived texts (member ∷ members) [] = ⊥
AreReceived texts (old ∷ olds) (new ∷ news) =
    ((refused : Option ℕ) × (new ≡ record old { outbox = received refused old.outbox (texts old.outbox.connection) })) × AreReceived texts olds news

-- what was emitted for it
abbrev pub AreDelivered : List Emission → List Member → List Member → Type 0
AreDelivered es olds news = AreReceived (λ c. texts_for c es) olds news

-- the same by the bytes of what was emitted
abbrev pub texts_of : Connection → List Written → List Bytes
texts_of c [] = []
texts_of c (one ∷ more) = let rest = texts_of c more in cond (same_connection one.connection c) (one.bytes ∷ rest) rest

abbrev pub AreGiven : List Written → List Member → List Member → Type 0
AreGiven written olds news = AreReceived (λ c. texts_of c written) olds news

-- how many of these jobs are of a worker's connections
abbrev pub worker_of : List Member → Connection → ℕ
worker_of members c = (slice_index_or members c.serial (fresh_member c 0 0)).worker

abbrev pub jobs_of_worker : ℕ → List Member → Jobs → Jobs
jobs_of_worker w members jobs = filter (λ job. worker_of members job.connection == w) jobs

-- what stands for a connection that was never opened
abbrev pub nobody : Member
nobody = fresh_member (record { node = 0; serial = 0 }) 0 0

-- bytes wait for a connection of a worker
abbrev pub is_ready : ℕ → Member → Bool
is_ready worker member = member.worker == worker && is_some_bytes member.outbox.waiting

-- the serials of a worker's connections for which bytes wait, in order
abbrev pub ready_of : ℕ → List Member → List ℕ
ready_of worker members = filter (λ serial. is_ready worker (slice_index_or members serial nobody)) (range_with_len 0 (length members))

-- the first of them from one on
abbrev pub next_ready : ℕ → ℕ → List Member → Option ℕ
next_ready worker from members = find (nat_le from) (ready_of worker members)

abbrev pub AreReads : Jobs → Type 0
AreReads [] = Unit {0}
AreReads (job ∷ jobs) = (is_update job.deed ≡ false) × AreReads jobs

-- What a node keeps of its connections: the worker of each that was ever opened, and by serial the queues of those that aren't closed. A queue past the workers
-- is of nobody.
abbrev pub Queues : Type 0
Queues = List (ℕ × Queue)

abbrev pub queue_at : ℕ → Queues → Option Queue
queue_at serial queues = lookup (eq_by_cmp nat_cmp serial) queues

abbrev pub member_with : ℕ → ℕ → ℕ → Option Queue → Member
member_with node serial worker None = record { worker = worker; outbox = closed_queue (record { node = node; serial = serial }); is_closed = true }
member_with node serial worker (Some queue) = record { worker = worker; outbox = queue; is_closed = false }

abbrev pub member_at : ℕ → List ℕ → Queues → ℕ → Member
member_at node workers queues serial = member_with node serial (slice_index_or workers serial 0) (queue_at serial queues)

abbrev pub members_of : ℕ → List ℕ → Queues → List Member
members_of node workers queues = map (member_at node workers queues) (range_with_len 0 (length workers))

abbrev pub members_seen : ℕ → NodeMembers → List Member
members_seen node members = members_of node members.workers.items members.outboxes.entries
