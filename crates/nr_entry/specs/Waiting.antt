-- The jobs that wait at a node, some of them lent.
use Rattle.std.specs.Prelude.{Bool, true, false, ◌&&◌, List, [], ◌∷◌}
use Rattle.std.specs.List.{list_all}
use Rattle.nr_model.specs.Items.{Connection, same_connection}
use Rattle.nr_model.specs.Entries.{Jobs}
use Rattle.nr_entry.specs.declared.job.Job.{Job}

-- the jobs that are here, in the order lifted; while jobs are lent, for each that waits whether it is lent, and else nothing; and the
-- connections of the lent ones, in their order
pub record Held : Type 0 where
  pub jobs : List Job
  pub gaps : List Bool
  pub lent : List Connection

-- each is a job of its connection
abbrev pub belong : List Connection → Jobs → Bool
belong [] [] = true
belong [] (job ∷ jobs) = false
belong (c ∷ cs) [] = false
belong (c ∷ cs) (job ∷ jobs) = same_connection job.connection c && belong cs jobs

-- the lent ones in their gaps, between those that are here
abbrev pub filled : {A : Type 0} → List Bool → List A → List A → List A
filled [] back here = here
filled (true ∷ gaps) [] here = filled gaps [] here
filled (true ∷ gaps) (x ∷ back) here = x ∷ filled gaps back here
filled (false ∷ gaps) back [] = filled gaps back []
filled (false ∷ gaps) back (y ∷ here) = y ∷ filled gaps back here

-- some job is among them
abbrev pub has_some : Jobs → Bool
has_some [] = false
has_some (job ∷ jobs) = true

-- all are jobs of that connection
abbrev pub are_from : Connection → Jobs → Bool
are_from c jobs = list_all (λ job. same_connection job.connection c) jobs
