-- Each exchange goes on from the one before, and the last one ends it.
use Rattle.nr_server.proofs.Going.{starts, exchanged, ends_failed, ends_by, ends_at_last}
use Rattle.nr_server.proofs.run.exchange_all.Goals as goal

pub loop-init : goal.loop-init
loop-init g c = λ first story a timed. starts _ _ _ _ _ _ story _ _ a timed

pub loop-preserved : goal.loop-preserved
loop-preserved g c = λ first story a timed.
    (exchanged _ _ _ _ _ _ _ _ first _ _ _ _ story _ _ _ _ c.in-Ok.ensures.reads (c.loop.invariant first story a timed) c.in-Ok.ensures.ok).goes

pub returns : goal.returns
returns g c = λ first story a timed. ends_at_last _ _ _ _ _ _ _ _ _ story _ _ c.leaves-2.ensures (c.loop.invariant first story a timed)

pub returns-in-Some : goal.returns-in-Some
returns-in-Some g c = λ first story a timed.
    ends_by _ _ _ _ _ _ _ _ _ story _ _ _ c.leaves.ensures
    (exchanged _ _ _ _ _ _ _ _ first _ _ _ _ story _ _ _ _ c.in-Ok.ensures.reads (c.loop.invariant first story a timed) c.in-Ok.ensures.ok)
    (rw (← c.deref.ensures.value) c.in-Some.ensures)

pub returns-in_default : goal.returns-in_default
returns-in_default g c = λ first story a timed.
    ends_failed _ _ _ _ _ _ _ _ _ first _ _ _ _ story _ _ _ _ c.in_default.ensures.reads (c.loop.invariant first story a timed)
    c.in_default.ensures.err
