-- Replies to reads that were run beside their node's lock.
use Rattle.std.specs.Prelude.{◌≡◌, ◌⊎◌, ℕ, true, false, List, [], ◌∷◌, ◌++◌, length, refl}
use Rattle.std.specs.Coded.{Coded, code_by, coded×, coded_ℕ}
use Rattle.std.specs.List.{AllByRecursion}
use Rattle.nr_model.specs.Bytes.{Bytes}
use Rattle.nr_model.specs.Items.{Item}
use Rattle.nr_model.specs.Entries.{Jobs}
use Rattle.nr_model.specs.Nodes.Steps.{texts_for}
use Rattle.nr_model.specs.Queues.{Queue, coded_queue, puts, takes, with_bytes, cut_off}
use Rattle.nr_model.specs.Servers.{Server, emitted_all}
use Rattle.nr_replica.specs.Members.{fresh_queue, AreReads}

-- so many reads of one connection, and the queue that their replies came to
pub record RepliesState : Type 0 where
  pub count : ℕ
  pub queue : Queue

abbrev pub coded_replies : Coded RepliesState
coded_replies = code_by (ℕ × Queue) (coded× coded_ℕ coded_queue) (λ r. (r.count, r.queue)) (λ p. record { count = p.0; queue = p.1 }) (λ _. refl)

-- These are so many reads of the queue's connection, and all that a server emits for them waits there, alone.
pub record AreRunBy (s : Server) (own : Jobs) (r : RepliesState) : Type 0 where
  pub many : length own ≡ r.count
  pub reads : AreReads own
  pub connection : AllByRecursion (λ (job : Item). job.connection ≡ r.queue.connection) own
  pub came : r.queue ≡ puts (fresh_queue r.queue.connection r.queue.limit) (texts_for r.queue.connection (emitted_all s own))
  pub uncut : r.queue.cut ≡ false

-- so are these jobs, run by run
abbrev pub AreRepliesTo : Server → Jobs → List RepliesState → Type 0
AreRepliesTo s jobs [] = jobs ≡ []
AreRepliesTo s jobs (r ∷ more) = (own : Jobs) × (rest : Jobs) × (jobs ≡ own ++ rest) × AreRunBy s own r × AreRepliesTo s rest more

-- these bytes came to a queue as a whole, or memory was refused before them
abbrev pub IsJoined : Bytes → Queue → Queue → Type 0
IsJoined bytes old new = ((takes old bytes ≡ true) × (new ≡ with_bytes old bytes)) ⊎ (new ≡ cut_off old)
