use Rattle.std.proofs.Common.{sym, ap, ◌∙◌}
use Rattle.nr_resp.specs.Seen.{reply_of}
use Rattle.nr_resp.proofs.Arrays.{same_arrays}
use Rattle.nr_resp.proofs.reply.+copy.Goals as goal

pub Reply::copy-returns-in_ok-copies-in-Array : goal.Reply::copy-returns-in_ok-copies-in-Array
Reply::copy-returns-in_ok-copies-in-Array t c =
    same_arrays c.in-Array.inner c.in_ok-copies-in-Array.field-0 c.in_ok-copies-in-Array.ensures ∙ ap reply_of (sym c.in-Array.is)
