use Rattle.std.proofs.Common.{Bool, not, refl, sym, ap, ◌∙◌}
use Rattle.std.specs.Prelude.{◌&&◌}
use Rattle.nr_entry.specs.Jobs.{connection_of, items_of}
use Rattle.nr_entry.specs.Runs.{jobs_in}
use Rattle.nr_entry.specs.Choice.{is_blocked}
use Rattle.nr_entry.proofs.Choosing.{run_leads}
use Rattle.nr_entry.proofs.runs.leads.Goals as goal

pub returns-then-is_kind_at : goal.returns-then-is_kind_at
returns-then-is_kind_at c =
    ap not c.is_behind.ensures
    ∙ ap (λ (b : Bool). b && not (is_blocked c.args.updates (connection_of c.args.run.now.conn) (items_of (jobs_in c.args.before.now)))) (sym c.if-is_kind_at.true ∙ c.is_kind_at.ensures)
    ∙ run_leads c.args.updates (connection_of c.args.run.now.conn) (items_of (jobs_in c.args.before.now)) (items_of c.args.run.now.jobs.items) _ c.args.run.now.own refl

pub returns-else-is_kind_at : goal.returns-else-is_kind_at
returns-else-is_kind_at c =
    c.if-is_kind_at.false
    ∙ ap (λ (b : Bool). b && not (is_blocked c.args.updates (connection_of c.args.run.now.conn) (items_of (jobs_in c.args.before.now)))) (sym c.if-is_kind_at.false ∙ c.is_kind_at.ensures)
    ∙ run_leads c.args.updates (connection_of c.args.run.now.conn) (items_of (jobs_in c.args.before.now)) (items_of c.args.run.now.jobs.items) _ c.args.run.now.own refl
