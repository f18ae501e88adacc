use Rattle.std.proofs.Common.{rules, ap, ◌∙◌}
use Rattle.std.specs.Prelude.{not}
use Rattle.std.proofs.lemmas.Fn.{filter_same}
use Rattle.nr_model.specs.Items.{Item, same_connection}
use Rattle.nr_entry.specs.declared.job.Job.{Job}
use Rattle.nr_entry.specs.Jobs.{connection_of, item_of, items_of}
use Rattle.nr_world.proofs.Dropped.{map-filter}
use Rattle.nr_world.proofs.dropped_jobs.drop_own.Goals as goal

pub returns-clause-left : goal.returns-clause-left
returns-clause-left c =
    ap items_of (filter_same _ (λ (job : Job). not (same_connection (connection_of job.conn) (connection_of c.args.conn))) _ (λ x b f' k. search rules) _ _ c.retain.ensures.filtered)
    ∙ map-filter item_of (λ (job : Item). not (same_connection job.connection (connection_of c.args.conn))) c.args.waiting.now.items
