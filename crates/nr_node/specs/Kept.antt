-- What holds of a node between two calls.
use Rattle.std.specs.Prelude.{◌≡◌, ℕ, true, false, [], length, Option}
use Rattle.nr_log_end.specs.declared.standing.Standing.{Standing}
use Rattle.nr_job_numbers.specs.Book.{Book}
use Rattle.nr_replica.specs.Replicas.{ReplicaState}
use Rattle.nr_node.specs.declared.next.Next.{Next}
use Rattle.nr_node.specs.Level.{IsLevel, IsInOrder}
use Rattle.nr_node.specs.OwnEntries.{AreAhead}
use Rattle.nr_node.specs.Next.{jobs_next, IsNextOf}
use Rattle.nr_node.specs.Owing.{IsOwing, HasAccounts, unexecuted}

-- Its replica is level with its end of the log, its jobs are in order, and the next entry is one of the node, or shares of one for so many nodes. Where the
-- replica is up, each worker is owed the jobs of its connections that were taken and aren't in the record. Where it is down, nothing is lifted, what it has
-- reserved and not passed is ahead of it, and no entry is to be refused.
pub record IsKept (s : Standing) (replica : ReplicaState) (book : Book) (next : Option Next) (nodes : ℕ) : Type 0 where
  pub level : IsLevel s replica
  pub order : IsInOrder s replica book (jobs_next next)
  pub next_is : IsNextOf s.node nodes next
  pub owed : length book.last ≡ length replica.owed
  pub owing : replica.down ≡ false → IsOwing replica.members replica.owed (unexecuted s (jobs_next next) replica.waiting)
  pub accounts : HasAccounts book.node replica.members book.held
  pub fallen : replica.down ≡ true → (replica.waiting ≡ []) × (jobs_next next ≡ []) × AreAhead s × (replica.refused ≡ false)
