use Rattle.nr_resp.proofs.Arrays.{reply_of-Array}
use Rattle.nr_resp.proofs.reply.Reply.array.Goals as goal

pub returns : goal.returns
returns c = reply_of-Array c.args.replies
