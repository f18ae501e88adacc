use Rattle.std.proofs.Common.{◌≡◌, ℕ, subst}
use Rattle.std.specs.Prelude.{Option}
use Rattle.nr_model.specs.Queues.{Queue, received}
use Rattle.nr_model.specs.Servers.{emitted_in}
use Rattle.nr_model.specs.Nodes.Steps.{texts_for}
use Rattle.nr_entry.specs.Jobs.{connection_of, item_of}
use Rattle.nr_replica.proofs.Looked.{reply_refused}
use Rattle.nr_replica.proofs.reading.answer.Goals as goal

pub returns-then-announce-clause-received : goal.returns-then-announce-clause-received
returns-then-announce-clause-received c =
    subst (λ (queue : Queue). (refused : Option ℕ) × (c.reply.new.outbox
    ≡ received refused queue (texts_for (connection_of c.args.job.now.conn) (emitted_in c.args.machine.now.state (item_of c.args.job.now)))))
    (c.announce.ensures.open c.if-announce.true) c.reply.ensures

pub returns-else-announce-clause-received : goal.returns-else-announce-clause-received
returns-else-announce-clause-received c =
    reply_refused c.args.machine.now.state c.args.job.now c.args.outbox.now c.announce.new.outbox c.requires.read (c.announce.ensures.cut c.if-announce.false)
