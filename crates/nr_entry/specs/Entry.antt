-- What holds of an entry's jobs.
use Rattle.std.specs.Prelude.{ℕ, Bool, ◌==◌}
use Rattle.std.specs.List.{list_all}
use Rattle.nr_model.specs.Items.{is_update}
use Rattle.nr_model.specs.Entries.{Jobs}

-- each is an update
abbrev pub are_updates : Jobs → Bool
are_updates jobs = list_all (λ job. is_update job.deed) jobs

-- each is of a connection of this node
abbrev pub are_of : ℕ → Jobs → Bool
are_of node jobs = list_all (λ job. job.connection.node == node) jobs
