use Rattle.std.proofs.Common.{◌++◌, take, drop, refl, sym, ap, ◌∙◌, arith}
use Rattle.nr_entry.specs.declared.run.Run.{Run}
use Rattle.nr_entry.proofs.Fronts.{next_belongs, refills_next}
use Rattle.nr_entry.proofs.runs.take_back.Goals as goal

pub take_back-requires-clause-count : goal.take_back-requires-clause-count
take_back-requires-clause-count c =
    rw (← c.index-runs-index.is) (next_belongs _ _ c.loop-index.index c.loop-index.runs c.index-runs-index.result c.loop-index.back.items (omega arith) c.index-runs-index.is (record { jobs = c.loop-index.invariant.jobs; count_is = c.loop-index.invariant.count; settled = c.loop-index.invariant.settled; owners = c.loop-index.invariant.owners })).0

pub take_back-requires-clause-own : goal.take_back-requires-clause-own
take_back-requires-clause-own c =
    rw (← c.index-runs-index.is) (next_belongs _ _ c.loop-index.index c.loop-index.runs c.index-runs-index.result c.loop-index.back.items (omega arith) c.index-runs-index.is (record { jobs = c.loop-index.invariant.jobs; count_is = c.loop-index.invariant.count; settled = c.loop-index.invariant.settled; owners = c.loop-index.invariant.owners })).1

pub loop-index-preserved : goal.loop-index-preserved
loop-index-preserved c =
    let same = sym c.index-runs-index.is in
    let r = refills_next _ _ c.loop-index.index c.loop-index.runs _ c.index-runs-index.result c.take_back.new.self c.loop-index.back.items c.take_back.new.back.items (record { here = omega arith; is_was = c.index-runs-index.is; is_new = refl })
    (c.take_back.ensures.jobs ∙ ap (λ (q : Run). take q.lent c.loop-index.back.items ++ q.jobs.items) same) c.take_back.ensures.lent (c.take_back.ensures.back ∙ ap (λ (q : Run). drop q.lent c.loop-index.back.items) same)
    (record { jobs = c.loop-index.invariant.jobs; count_is = c.loop-index.invariant.count; settled = c.loop-index.invariant.settled; owners = c.loop-index.invariant.owners }) in
    record { jobs = r.jobs; count = r.count_is; settled = r.settled; owners = r.owners }
