use Rattle.std.proofs.Common.{ap, ◌∙◌}
use Rattle.std.proofs.lemmas.Result.{on_ok_weaker}
use Rattle.nr_model.specs.Items.{Deed}
use Rattle.nr_model.specs.Sequential.{for_node}
use Rattle.nr_entry.specs.Jobs.{connection_of}
use Rattle.nr_emission.specs.Emitted.{all_after}
use Rattle.nr_machine.specs.Steps.{after_deed, emitted_by}
use Rattle.nr_machine.proofs.Behind.{close_deed}
use Rattle.nr_machine.proofs.state.State.update.Goals as goal

pub returns-in-Close-clause-applied : goal.returns-in-Close-clause-applied
returns-in-Close-clause-applied g c =
    on_ok_weaker c.close.result (λ applied.
    applied ∙ ap (λ (deed : Deed). after_deed c.args.self.now (connection_of c.args.conn) c.args.now deed) (close_deed c.args.update.now _ c.in-Close.is))
    (c.close.ensures.applied c.args.now)

pub returns-in-Close-clause-emitted : goal.returns-in-Close-clause-emitted
returns-in-Close-clause-emitted g c =
    on_ok_weaker c.close.result (λ emitted.
    emitted
    ∙ ap (λ (deed : Deed). all_after g.S.Sink.after c.args.out.now (for_node c.args.node (emitted_by c.args.self.now (connection_of c.args.conn) c.args.now deed))) (close_deed c.args.update.now _ c.in-Close.is))
    (c.close.ensures.emitted c.args.now)
