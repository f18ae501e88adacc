use Rattle.std.proofs.Common.{ap, sym, ◌∙◌}
use Rattle.std.proofs.lemmas.Result.{on_ok_weaker}
use Rattle.nr_model.specs.Sequential.{for_node}
use Rattle.nr_entry.specs.declared.job.Transaction.{Transaction}
use Rattle.nr_entry.specs.Jobs.{connection_of}
use Rattle.nr_entry.specs.Kinds.{transaction_deed}
use Rattle.nr_emission.specs.Emitted.{all_after}
use Rattle.nr_machine.specs.Steps.{emitted_by}
use Rattle.nr_machine.proofs.state.State.exec.Goals as goal

pub returns-in-Spoiled-clause-emitted : goal.returns-in-Spoiled-clause-emitted
returns-in-Spoiled-clause-emitted g c =
    on_ok_weaker c.answer.result (λ answered.
    answered
    ∙ ap (λ (t : Transaction). all_after g.S.Sink.after c.args.out.now (for_node c.args.node (emitted_by c.args.self.now (connection_of c.args.conn) c.args.now (transaction_deed t)))) (sym c.in-Spoiled.is))
    c.answer.ensures.emitted
