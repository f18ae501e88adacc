use Rattle.std.proofs.Common.{ap, sym, subst, take}
use Rattle.nr_model.specs.Items.{Connection}
use Rattle.nr_model.specs.Queues.{Queue}
use Rattle.nr_entry.specs.Jobs.{item_of, items_of}
use Rattle.nr_replica.proofs.Runs.{AreOf, reads_upto, ran_whole}
use Rattle.nr_replica.proofs.answering.answer_run.Goals as goal

pub answer_each-requires-clause-reads : goal.answer_each-requires-clause-reads
answer_each-requires-clause-reads c = reads_upto item_of c.run_len-count.result c.args.jobs.now c.requires.reads

pub answer_each-requires-clause-own : goal.answer_each-requires-clause-own
answer_each-requires-clause-own c =
    subst (λ (k : Connection). AreOf k (items_of (take c.run_len-count.result c.args.jobs.now))) (sym (ap (λ (q : Queue). q.connection) c.over_spare-outbox.ensures))
    c.run_len-count.ensures.own

pub returns-clause-ran : goal.returns-clause-ran
returns-clause-ran c =
    ran_whole item_of c.args.machine.now.state c.run_len-count.result c.args.jobs.now _ c.args.limit c.over_spare-outbox.result c.answer_each.new.outbox
    c.run_len-count.ensures.within c.requires.reads c.run_len-count.ensures.own c.over_spare-outbox.ensures c.if-not-answer_each.ensures.came
    c.if-not-answer_each.ensures.uncut
