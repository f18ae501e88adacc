use Rattle.std.proofs.Common.{◌-◌, ◌++◌, List, refl, ap, ◌∙◌, arith}
use Rattle.nr_entry.specs.declared.job.Job.{Job}
use Rattle.nr_entry.specs.declared.run.Run.{Run}
use Rattle.nr_entry.specs.Runs.{jobs_in, lent_in}
use Rattle.nr_entry.proofs.Fronts.{last_written, last_same, last_unlent, unlent_at, jobs_in-push, lent_in-push}
use Rattle.nr_entry.proofs.lifting.add.Goals as goal

pub push-requires-clause-lent : goal.push-requires-clause-lent
push-requires-clause-lent c = unlent_at c.args.runs.now.items (c.len-count.result - 1) c.index_mut.result.now (omega arith) c.index_mut.ensures.value c.requires

pub returns-in-Err-clause-err : goal.returns-in-Err-clause-err
returns-in-Err-clause-err c =
    last_same c.args.runs.now.items _ (c.len-count.result - 1) c.index_mut.result.now c.push.new.self (record { here = omega arith; is_was = c.index_mut.ensures.value; is_new = refl }) (omega arith) (c.in-Err.ensures.back.1)

pub returns-in-Err-clause-lent : goal.returns-in-Err-clause-lent
returns-in-Err-clause-lent c =
    last_unlent c.args.runs.now.items _ (c.len-count.result - 1) c.index_mut.result.now c.push.new.self (record { here = omega arith; is_was = c.index_mut.ensures.value; is_new = refl }) (omega arith) c.requires c.push.ensures.lent

pub returns-then-eq-clause-ok : goal.returns-then-eq-clause-ok
returns-then-eq-clause-ok c =
    last_written c.args.runs.now.items _ (c.len-count.result - 1) c.index_mut.result.now c.push.new.self c.args.job (record { here = omega arith; is_was = c.index_mut.ensures.value; is_new = refl }) (omega arith) c.in_default.ensures.ok

pub returns-then-eq-clause-lent : goal.returns-then-eq-clause-lent
returns-then-eq-clause-lent c =
    last_unlent c.args.runs.now.items _ (c.len-count.result - 1) c.index_mut.result.now c.push.new.self (record { here = omega arith; is_was = c.index_mut.ensures.value; is_new = refl }) (omega arith) c.requires c.push.ensures.lent

pub returns-in-Ok-clause-ok : goal.returns-in-Ok-clause-ok
returns-in-Ok-clause-ok c =
    ap jobs_in c.push_reserved.ensures.items
    ∙ jobs_in-push c.reserve.new.self.items c.in-Ok.run'
    ∙ ap (λ (runs : List Run). jobs_in runs ++ c.in-Ok.run'.jobs.items) c.reserve.ensures.items
    ∙ ap (λ (jobs : List Job). jobs_in c.args.runs.now.items ++ jobs) c.in-Ok.ensures.run.0

pub returns-in-Ok-clause-lent : goal.returns-in-Ok-clause-lent
returns-in-Ok-clause-lent c =
    omega (arith, ap lent_in c.push_reserved.ensures.items, lent_in-push c.reserve.new.self.items c.in-Ok.run', ap lent_in c.reserve.ensures.items, c.in-Ok.ensures.run.1, c.requires)
