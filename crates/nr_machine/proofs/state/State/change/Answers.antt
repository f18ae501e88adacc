use Rattle.nr_emission.proofs.Sent.{on_ok}
use Rattle.nr_machine.proofs.Behind.{changed}
use Rattle.nr_machine.proofs.state.State.change.Goals as goal

pub returns-clause-applied : goal.returns-clause-applied
returns-clause-applied g c =
    on_ok c.answer.result _
    (changed c.args.self.now _ _ _ _ _ _ _ _ _ c.args.now c.args.command c.args.words.now _ _ _ c.self.view_is c.of-database.ensures c.in_ok-reply.ensures c.in_ok-set.ensures.ok)
