use Rattle.std.proofs.Common.{append_assoc}
use Rattle.nr_session.proofs.texts.push_unexpected.Goals as goal

pub returns : goal.returns
returns c =
    rw (c.in_ok-push-3.ensures, c.in_ok-push-2.ensures.items, c.in_ok-push.ensures, c.on_one_line.ensures)
    (simp append_assoc)
