use Rattle.std.proofs.Common.{List, take, ap, ◌∙◌, arith}
use Rattle.nr_entry.specs.declared.job.Job.{Job}
use Rattle.nr_entry.specs.Jobs.{connection_of, items_of}
use Rattle.nr_entry.specs.Waiting.{are_from}
use Rattle.nr_entry.proofs.Fronts.{are_from-append}
use Rattle.nr_entry.proofs.run.Run.take_back.Goals as goal

pub invariant_of-self : goal.invariant_of-self
invariant_of-self c = record {
  own =
      ap (λ (jobs : List Job). are_from (connection_of c.args.self.now.conn) (items_of jobs)) c.take_front.ensures.jobs
      ∙ are_from-append (connection_of c.args.self.now.conn) (take c.args.self.now.lent c.args.back.now.items) c.args.self.now.jobs.items c.requires.own c.args.self.now.own;
  room = omega (arith, c.args.self.now.room, c.take_front.ensures.len, c.take_front.ensures.capacity);
}
