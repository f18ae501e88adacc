use Rattle.std.proofs.Common.{◌≡◌, drop}
use Rattle.nr_model.specs.Commands as commands
use Rattle.nr_model.specs.Keyspace.{live}
use Rattle.nr_model.specs.Replies.{Reply}
use Rattle.nr_resp.specs.Seen.{reply_of}
use Rattle.nr_resp.proofs.Refusals.{refused_as}
use Rattle.nr_exec.proofs.exec.look.Goals as goal

pub returns-in_ok-reply-in-Err : goal.returns-in_ok-reply-in-Err
returns-in_ok-reply-in-Err c =
    refused_as c.in-Err.failure (reply_of c.in_ok-reply-in-Err.field-0)
    (λ (reply : Reply). reply ≡ commands.look c.args.command c.args.now (live c.args.keyspace.now c.args.now) c.args.database (drop 1 c.args.words.now))
    c.in_ok-reply-in-Err.ensures c.in-Err.ensures
