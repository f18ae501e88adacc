use Rattle.nr_replica.proofs.Looked.{reply_received}
use Rattle.nr_replica.proofs.reading.reply.Goals as goal

pub returns-in-Ok : goal.returns-in-Ok
returns-in-Ok c =
    reply_received c.args.machine.now.state c.args.job.now _ c.args.outbox.now c.look.new.out c.requires c.in-Read.is
    (c.in-Ok.ensures.emitted c.args.job.now.number)
