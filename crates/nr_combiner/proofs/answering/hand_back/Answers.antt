use Rattle.std.proofs.Common.{refl}
use Rattle.nr_entry.specs.declared.batch.Answer.{Answer}
use Rattle.nr_combiner.proofs.Due.{is_for_refused}
use Rattle.nr_combiner.proofs.answering.hand_back.Goals as goal

pub answer-requires-clause-lifted : goal.answer-requires-clause-lifted
answer-requires-clause-lifted c =
    let last = c.requires.last in
    let answer : Answer = record { node = c.args.batch.node; worker = c.args.batch.worker; batch = c.args.batch.number; outcome = c.refused.result } in
    is_for_refused answer c.args.batch last.0 c.args.why _ _ last.1 last.2 refl refl refl c.refused.ensures
