use Rattle.std.proofs.Common.{◌≡◌, map, take}
use Rattle.nr_world.specs.Seen.{step_seen}
use Rattle.nr_world.proofs.Runs.{IsOn}
use Rattle.nr_world.proofs.step_runs.run.Given as goal

abbrev pub invariant-loop-step : goal.invariant-loop-step
invariant-loop-step l = record {
  same : l.world.setup ≡ l.setup;
  on : IsOn l.setup (map step_seen (take l.step-index l.steps)) l.happened.items l.world;
}
