use Rattle.std.proofs.Common.{◌≡◌, ◌≤◌, ◌+◌, ◌++◌, take, drop, vec_len, vec_capacity}
use Rattle.nr_entry.specs.Runs.{jobs_in, lent_in, gaps_in, owners_in, first_of, owners_of, others_of, marks_of, sum_of, IsWithin}
use Rattle.nr_entry.proofs.runs.lend.Given as goal

abbrev pub invariant-loop-index : goal.invariant-loop-index
invariant-loop-index l =
    let done = take l.index l.runs in
    let rest = drop l.index l.runs in
    let counts = drop l.index l.counts in
    record {
      taken : l.taken.items ++ first_of counts rest ≡ l.initial.taken.items ++ first_of l.counts l.initial.runs;
      left : jobs_in done ++ others_of counts rest ≡ others_of l.counts l.initial.runs;
      gaps : gaps_in done ++ marks_of counts rest ≡ marks_of l.counts l.initial.runs;
      lent : lent_in done + sum_of counts ≡ sum_of l.counts;
      within : IsWithin counts rest;
      owners : owners_in done ++ owners_of counts rest ≡ owners_of l.counts l.initial.runs;
      unlent : lent_in rest ≡ 0;
      room : vec_len l.taken + sum_of counts ≤ vec_capacity l.taken;
    }
