use Rattle.std.proofs.Common.{length}
use Rattle.std.specs.Prelude.{reverse}
use Rattle.nr_resp.specs.Frames.{frames_seen}
use Rattle.nr_entry.specs.Jobs.{connection_of, items_of}
use Rattle.nr_session.proofs.Going.{Going}
use Rattle.nr_session.proofs.jobs.push_jobs.Given as goal

-- the frames that are left stand the other way round
abbrev pub invariant-loop-frame : goal.invariant-loop-frame
invariant-loop-frame l = Going (connection_of l.conn) l.moment (frames_seen l.fn.frames.items) (items_of l.fn.jobs.items) l.fn.next l.fn.mode
    (frames_seen (reverse l.frames.items)) (items_of l.jobs.items) l.next l.mode

abbrev pub decreases-loop-frame : goal.decreases-loop-frame
decreases-loop-frame l = length l.frames.items
