use Rattle.std.proofs.Common.{rules, ◌≡◌, ◌<◌, ◌≤◌, List, subst, map, length, get_or, ◌∙◌}
use Rattle.std.proofs.lemmas.List.{take_all}
use Rattle.nr_world.specs.declared.step.Step.{Step}
use Rattle.nr_world.specs.Seen.{step_seen}
use Rattle.nr_world.proofs.Runs.{IsOn, run_further, all_run}
use Rattle.nr_world.proofs.step_runs.run.Goals as goal

pub loop-step-preserved : goal.loop-step-preserved
loop-step-preserved c =
    let on = c.loop-step.invariant in
    let is : c.step-item.result ≡ get_or c.args.steps.now c.loop-step.step-index c.step-item.result = search rules in
    let below : c.loop-step.step-index < length c.args.steps.now = search rules in
    record {
      same = c.step.ensures.setup ∙ on.same;
      on = run_further c.args.setup.now c.args.steps.now c.loop-step.step-index c.step-item.result c.loop-step.happened.items c.push.new.self.items
          c.loop-step.world c.step.new.self c.in_ok-came.came below is on.on on.same c.in_ok-came.ensures.taken c.in_ok-push.ensures.items;
    }

pub returns-clause-ran : goal.returns-clause-ran
returns-clause-ran c =
    let setup = c.args.setup.now in
    let done : length c.args.steps.now ≤ c.loop-step.step-index = search rules in
    let whole = take_all c.loop-step.step-index c.args.steps.now done in
    all_run setup (map step_seen c.args.steps.now) c.loop-step.happened.items c.loop-step.world
    (subst (λ (all : List Step). IsOn setup (map step_seen all) c.loop-step.happened.items c.loop-step.world) whole c.loop-step.invariant.on)
