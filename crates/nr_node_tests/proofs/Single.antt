-- The numbers of one job alone rise.
use Rattle.std.proofs.Common.{◌≡◌, ℕ, Bool, true, false, cond, List, [], ◌∷◌, length, map}
use Rattle.nr_model.specs.Items.{Item, same_connection}
use Rattle.nr_entry.specs.Jobs.{item_of, items_of}
use Rattle.nr_entry.specs.declared.job.Job.{Job}
use Rattle.nr_log_end.specs.Numbers.{AreRising, IsRising, connection_at}

there_or_not : (b : Bool) (item : Item) → IsRising (map (λ (i : Item). i.number) (cond b (item ∷ []) []))
there_or_not true item = (tt, tt)
there_or_not false item = tt

pub single_rises : (node : ℕ) (jobs : List Job) → length jobs ≡ 1 → AreRising node (items_of jobs)
single_rises node [] one = λ serial. tt
single_rises node (job ∷ []) one = λ serial. there_or_not (same_connection (item_of job).connection (connection_at node serial)) (item_of job)
single_rises node (job ∷ other ∷ jobs) one = absurd (cc one)
