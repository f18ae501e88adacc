use Rattle.std.proofs.Common.{ℕ, ◌<◌, sym, ◌∙◌, subst}
use Rattle.nr_combiner.proofs.Rounds.{answered_all_long, answered_further}
use Rattle.nr_combiner.proofs.combiner.answer_all.Goals as goal

pub loop-worker-preserved : goal.loop-worker-preserved
loop-worker-preserved g c =
    answered_further c.loop-worker.worker c.args.combiner.now c.loop-worker.combiner c.answer-is_answered.new.self c.loop-worker.invariant c.answer-is_answered.ensures.answered

pub answer-is_answered-requires : goal.answer-is_answered-requires
answer-is_answered-requires g c =
    subst (λ (k : ℕ). c.loop-worker.worker < k)
    (c.requires ∙ sym (answered_all_long c.loop-worker.worker c.args.combiner.now c.loop-worker.combiner c.loop-worker.invariant)) c.loop-worker-test.true
