use Rattle.std.specs.VecDeque.{deque_capacity}
use Rattle.nr_entry.proofs.Fronts.{restores_room, restores_more}
use Rattle.nr_entry.proofs.lifting.restore.Goals as goal

pub unload-requires : goal.unload-requires
unload-requires c = restores_room c.loop-run.added.items c.pop.new.self.items c.in-Some.run' c.loop-run.left.items _ c.in-Some.ensures.items c.loop-run.invariant.room

pub loop-run-preserved : goal.loop-run-preserved
loop-run-preserved c =
    let s = restores_more _ c.loop-run.added.items c.pop.new.self.items c.in-Some.run' c.loop-run.left.items c.unload.new.left.items (deque_capacity c.loop-run.left) c.in-Some.ensures.items c.unload.ensures.jobs (record { jobs = c.loop-run.invariant.all; fits = c.loop-run.invariant.room }) in
    record { all = s.jobs; room = rw c.unload.ensures.room s.fits }
