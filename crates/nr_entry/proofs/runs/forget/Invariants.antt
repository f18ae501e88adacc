use Rattle.std.proofs.Common.{◌≡◌, ◌++◌, take, drop}
use Rattle.nr_entry.specs.Runs.{jobs_in, lent_in}
use Rattle.nr_entry.proofs.runs.forget.Given as goal

abbrev pub invariant-loop-index : goal.invariant-loop-index
invariant-loop-index l = record {
  jobs : jobs_in (take l.index l.runs) ++ jobs_in (drop l.index l.runs) ≡ jobs_in l.initial.runs;
  settled : lent_in (take l.index l.runs) ≡ 0;
}
