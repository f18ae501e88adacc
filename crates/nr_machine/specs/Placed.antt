-- Jobs at the moment at which they are executed.
use Rattle.std.specs.Prelude.{ℕ, List, map}
use Rattle.nr_model.specs.Items.{Item}
use Rattle.nr_entry.specs.Jobs.{item_of}
use Rattle.nr_entry.specs.declared.job.Job.{Job}

-- the item of a job that is executed at this moment
abbrev pub item_at : Job → ℕ → Item
item_at job moment = record (item_of job) { moment = moment }

-- the items of jobs that are executed at this moment
abbrev pub items_at : List Job → ℕ → List Item
items_at jobs moment = map {A = Job} (λ job. item_at job moment) jobs
