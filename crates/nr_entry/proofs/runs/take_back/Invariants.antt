use Rattle.std.proofs.Common.{◌≡◌, ◌+◌, ◌++◌, true, length, take, drop}
use Rattle.nr_entry.specs.Jobs.{items_of}
use Rattle.nr_entry.specs.Waiting.{belong, filled}
use Rattle.nr_entry.specs.Runs.{jobs_in, lent_in, gaps_in, owners_in}
use Rattle.nr_entry.proofs.runs.take_back.Given as goal

abbrev pub invariant-loop-index : goal.invariant-loop-index
invariant-loop-index l =
    let done = take l.index l.runs in
    let rest = drop l.index l.runs in
    record {
      jobs : jobs_in done ++ filled (gaps_in rest) l.back.items (jobs_in rest) ≡ filled (gaps_in l.initial.runs) l.initial.back.items (jobs_in l.initial.runs);
      count : length (jobs_in done) + (length (jobs_in rest) + lent_in rest) ≡ length (jobs_in l.initial.runs) + lent_in l.initial.runs;
      settled : lent_in done ≡ 0;
      owners : belong (owners_in rest) (items_of l.back.items) ≡ true;
    }
