use Rattle.std.proofs.Common.{ℕ, ◌<◌, sym, ◌∙◌, subst}
use Rattle.nr_combiner.proofs.Rounds.{lifted_all_long, lifted_further}
use Rattle.nr_combiner.proofs.combiner.lift_all.Goals as goal

pub loop-worker-preserved : goal.loop-worker-preserved
loop-worker-preserved g c =
    lifted_further c.loop-worker.worker c.args.combiner.now c.loop-worker.combiner c.lift-lifted.new.self c.loop-worker.invariant c.lift-lifted.ensures.lifted

pub lift-lifted-requires : goal.lift-lifted-requires
lift-lifted-requires g c =
    subst (λ (k : ℕ). c.loop-worker.worker < k)
    (c.requires ∙ sym (lifted_all_long c.loop-worker.worker c.args.combiner.now c.loop-worker.combiner c.loop-worker.invariant)) c.loop-worker-test.true
