use Rattle.std.proofs.Common.{List, ap, ◌∙◌, arith}
use Rattle.nr_entry.specs.declared.job.Job.{Job}
use Rattle.nr_entry.specs.Jobs.{connection_of, items_of}
use Rattle.nr_entry.specs.Waiting.{are_from}
use Rattle.nr_entry.proofs.Fronts.{are_from-drop}
use Rattle.nr_entry.proofs.run.Run.lend.Goals as goal

pub invariant_of-self : goal.invariant_of-self
invariant_of-self c = record {
  own =
      ap (λ (jobs : List Job). are_from (connection_of c.args.self.now.conn) (items_of jobs)) c.move_front.ensures.left
      ∙ are_from-drop (connection_of c.args.self.now.conn) c.args.count c.args.self.now.jobs.items c.args.self.now.own;
  room = omega (arith, c.args.self.now.room, c.move_front.ensures.left_len, c.move_front.ensures.left_capacity, c.requires.lent);
}
