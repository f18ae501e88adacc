-- It was taken from the list, and closed.
use Rattle.nr_service.proofs.Left.{loses_one, on_err}
use Rattle.nr_service.proofs.Closing.{closed_one}
use Rattle.nr_service.proofs.leaving.let_go.Goals as goal

pub returns-clause-gone : goal.returns-clause-gone
returns-clause-gone g c =
    closed_one _ _ _ _ _ _ _ _ _ _ _ _ _ c.swap_remove-stream.result _ _ c.args.index c.requires c.swap_remove-stream.ensures.value
    c.swap_remove-stream.ensures.items c.part.ensures c.in_ok-close.ensures.closed c.in_ok-close.ensures.gone

pub returns-in_err-close-clause-left : goal.returns-in_err-close-clause-left
returns-in_err-close-clause-left g c =
    on_err c.from_residual.result _
    (loses_one _ _ _ _ _ _ _ _ _ _ _ _ c.args.ending c.swap_remove-stream.result _ _ c.args.index c.requires c.swap_remove-stream.ensures.value
    c.swap_remove-stream.ensures.items c.part.ensures c.in_err-close.ensures.left)
