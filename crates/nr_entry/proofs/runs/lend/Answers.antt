use Rattle.std.proofs.Common.{◌≡◌, ℕ, List, ◌+◌, ◌++◌, ◌∷◌, take, drop, get_or, refl, sym, ap, ◌∙◌, arith}
use Rattle.std.proofs.lemmas.List.{at_drop_more}
use Rattle.nr_entry.specs.declared.run.Run.{Run}
use Rattle.nr_entry.specs.Runs.{sum_of}
use Rattle.nr_entry.proofs.Fronts.{lends_next, all_lent, within_reach}
use Rattle.nr_entry.proofs.runs.lend.Goals as goal

pub loop-index-preserved : goal.loop-index-preserved
loop-index-preserved c =
    let i = c.loop-index.index in
    let was : Run = c.index-runs-index.result in
    let same = sym c.index-runs-index.is in
    let count : drop i c.args.counts.now ≡ get_or c.args.counts.now i 0 ∷ drop (i + 1) c.args.counts.now = at_drop_more (λ (t : List ℕ). t) c.args.counts.now i 0 (within_reach c.args.counts.now c.loop-index.runs i (omega arith) c.loop-index.invariant.within) in
    let k = get_or c.args.counts.now i 0 in
    let l = lends_next c.args.counts.now c.args.runs.now c.args.taken.now.items i c.loop-index.runs _ k was c.lend.new.self c.loop-index.taken.items c.lend.new.into.items
    (record { taken_are = c.loop-index.invariant.taken; left_are = c.loop-index.invariant.left; gaps_are = c.loop-index.invariant.gaps; lent_are = c.loop-index.invariant.lent; within = c.loop-index.invariant.within; owners_are = c.loop-index.invariant.owners; unlent = c.loop-index.invariant.unlent })
    (record { writes = record { here = omega arith; is_was = c.index-runs-index.is; is_new = refl }; count = count; into = c.lend.ensures.into ∙ ap (λ (r : Run). c.loop-index.taken.items ++ take k r.jobs.items) same; left = c.lend.ensures.left ∙ ap (λ (r : Run). drop k r.jobs.items) same; lent = c.lend.ensures.lent; conn = c.lend.ensures.conn ∙ ap (λ (r : Run). r.conn) same })
    in
    record { taken = l.taken_are; left = l.left_are; gaps = l.gaps_are; lent = l.lent_are; within = l.within; owners = l.owners_are; unlent = l.unlent; room = omega (arith, c.loop-index.invariant.room, ap sum_of count, c.lend.ensures.len, c.lend.ensures.capacity) }

pub returns-clause-taken : goal.returns-clause-taken
returns-clause-taken c = (all_lent c.args.counts.now c.args.runs.now c.args.taken.now.items c.loop-index.index c.loop-index.runs c.loop-index.taken.items (record { taken_are = c.loop-index.invariant.taken; left_are = c.loop-index.invariant.left; gaps_are = c.loop-index.invariant.gaps; lent_are = c.loop-index.invariant.lent; within = c.loop-index.invariant.within; owners_are = c.loop-index.invariant.owners; unlent = c.loop-index.invariant.unlent }) (omega arith)).0

pub returns-clause-left : goal.returns-clause-left
returns-clause-left c = (all_lent c.args.counts.now c.args.runs.now c.args.taken.now.items c.loop-index.index c.loop-index.runs c.loop-index.taken.items (record { taken_are = c.loop-index.invariant.taken; left_are = c.loop-index.invariant.left; gaps_are = c.loop-index.invariant.gaps; lent_are = c.loop-index.invariant.lent; within = c.loop-index.invariant.within; owners_are = c.loop-index.invariant.owners; unlent = c.loop-index.invariant.unlent }) (omega arith)).1

pub returns-clause-gaps : goal.returns-clause-gaps
returns-clause-gaps c = (all_lent c.args.counts.now c.args.runs.now c.args.taken.now.items c.loop-index.index c.loop-index.runs c.loop-index.taken.items (record { taken_are = c.loop-index.invariant.taken; left_are = c.loop-index.invariant.left; gaps_are = c.loop-index.invariant.gaps; lent_are = c.loop-index.invariant.lent; within = c.loop-index.invariant.within; owners_are = c.loop-index.invariant.owners; unlent = c.loop-index.invariant.unlent }) (omega arith)).2

pub returns-clause-lent : goal.returns-clause-lent
returns-clause-lent c = (all_lent c.args.counts.now c.args.runs.now c.args.taken.now.items c.loop-index.index c.loop-index.runs c.loop-index.taken.items (record { taken_are = c.loop-index.invariant.taken; left_are = c.loop-index.invariant.left; gaps_are = c.loop-index.invariant.gaps; lent_are = c.loop-index.invariant.lent; within = c.loop-index.invariant.within; owners_are = c.loop-index.invariant.owners; unlent = c.loop-index.invariant.unlent }) (omega arith)).3

pub returns-clause-owners : goal.returns-clause-owners
returns-clause-owners c = (all_lent c.args.counts.now c.args.runs.now c.args.taken.now.items c.loop-index.index c.loop-index.runs c.loop-index.taken.items (record { taken_are = c.loop-index.invariant.taken; left_are = c.loop-index.invariant.left; gaps_are = c.loop-index.invariant.gaps; lent_are = c.loop-index.invariant.lent; within = c.loop-index.invariant.within; owners_are = c.loop-index.invariant.owners; unlent = c.loop-index.invariant.unlent }) (omega arith)).4
