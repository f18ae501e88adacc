use Rattle.std.proofs.Common.{◌≡◌, true, ◌<◌, ◌+◌, [], take, length}
use Rattle.std.specs.Prelude.{nat_lt}
use Rattle.nr_entry.specs.declared.conn.ConnId.{ConnId}
use Rattle.nr_entry.specs.Jobs.{connection_of, items_of}
use Rattle.nr_entry.specs.Choice.{is_blocked, leads_among, leading_marks, room_after}
use Rattle.nr_entry.specs.Runs.{jobs_in, marks_of, sum_of, IsWithin, holds}
use Rattle.nr_entry.proofs.runs.choose.Given as goal

abbrev pub invariant-loop-index : goal.invariant-loop-index
invariant-loop-index l =
    let done = take l.index l.runs in
    let jobs = items_of (jobs_in done) in
    record {
      marks : marks_of l.counts.items done ≡ leading_marks (leads_among l.updates) l.most [] jobs;
      room : l.room ≡ room_after (leads_among l.updates) l.most [] jobs;
      within : IsWithin l.counts.items done;
      total : sum_of l.counts.items + l.room ≡ l.most;
      blocked : nat_lt l.index (length l.runs) ≡ true → 0 < l.room → (q : ConnId) → holds l.blocked q ≡ is_blocked l.updates (connection_of q) jobs;
    }
