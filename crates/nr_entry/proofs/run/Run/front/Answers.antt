use Rattle.std.proofs.Common.{sym, ◌∙◌, arith}
use Rattle.nr_entry.specs.Jobs.{items_of}
use Rattle.nr_entry.proofs.Fronts.{front_further, front_ends}
use Rattle.nr_entry.proofs.run.Run.front.Goals as goal

pub loop-count-preserved : goal.loop-count-preserved
loop-count-preserved c = record {
  so_far = front_further c.args.updates c.args.most c.loop-count.count (items_of c.args.self.now.jobs.items) c.loop-count-test.true (sym c.is_kind_at.ensures ∙ c.if-is_kind_at.true) c.loop-count.invariant.so_far;
  within = omega arith;
}

pub returns-else-is_kind_at : goal.returns-else-is_kind_at
returns-else-is_kind_at c = front_ends c.args.updates c.args.most c.loop-count.count (items_of c.args.self.now.jobs.items) (sym c.is_kind_at.ensures ∙ c.if-is_kind_at.false) c.loop-count.invariant.so_far
