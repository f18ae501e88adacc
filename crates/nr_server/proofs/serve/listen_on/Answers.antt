use Rattle.std.proofs.Common.{rules}
use Rattle.nr_server.proofs.Unheard.{one_refused}
use Rattle.nr_server.proofs.serve.listen_on.Goals as goal

pub returns-in_ok-unheard-in-Err-clause-refused : goal.returns-in_ok-unheard-in-Err-clause-refused
returns-in_ok-unheard-in-Err-clause-refused g c =
    one_refused c.args.settings.now.listen.items c.in-Err.error c.in_ok-unheard-in-Err.field-0
    (search (rules, c.in-Err.ensures, c.deref-in-Err.ensures.value)) (search (rules, c.in_ok-unheard-in-Err.ensures, c.deref-in-Err.ensures.value))
