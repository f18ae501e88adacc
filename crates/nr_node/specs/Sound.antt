-- What holds of a standing that a node hands out.
use Rattle.std.specs.Prelude.{◌≡◌, ℕ, ◌<◌, ◌≤◌, [], length, None, slice_index_or}
use Rattle.std.specs.List.{AllByRecursion}
use Rattle.nr_model.specs.Items.{Connection}
use Rattle.nr_entry.specs.Jobs.{item_of}
use Rattle.nr_entry.specs.declared.job.Job.{Job}
use Rattle.nr_log_end.specs.declared.standing.Standing.{Standing}
use Rattle.nr_log_end.specs.Standings.{applied_of, opened_of, ran_of, record_of, EachRises}
use Rattle.nr_job_numbers.specs.Stored.{numbers_in}
use Rattle.nr_node.specs.Level.{IsCount, IsReadOf, connection_at}

-- the jobs that the node ran by itself are reads of its connections; and the jobs of each of these in the record have the numbers 0, 1, 2 and so on, in
-- this order, and there are none of one that wasn't opened; the numbers of every connection's jobs rise along the entries that it passed; and no entry is held
-- that isn't passed
pub record IsSound (s : Standing) : Type 0 where
  pub reads : AllByRecursion (λ (r : Job × ℕ). IsReadOf s.node (item_of r.0)) (ran_of s.history)
  pub numbered : (serial : ℕ) → IsCount (numbers_in (connection_at s.node serial) (record_of s.history))
  pub opened : (serial : ℕ) → length (opened_of s.history) ≤ serial → numbers_in (connection_at s.node serial) (record_of s.history) ≡ []
  pub entries : EachRises (applied_of s.history)
  pub idle : s.held ≡ None

-- a connection of the node that was opened there, for this worker
pub record ServesOpened (s : Standing) (worker : ℕ) (c : Connection) : Type 0 where
  pub node : c.node ≡ s.node
  pub opened : c.serial < length (opened_of s.history)
  pub worker_is : slice_index_or (opened_of s.history) c.serial 0 ≡ worker
