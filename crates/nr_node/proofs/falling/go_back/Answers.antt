use Rattle.std.proofs.Common.{◌++◌}
use Rattle.nr_entry.specs.Jobs.{items_of}
use Rattle.nr_node.specs.Next.{jobs_next}
use Rattle.nr_node.proofs.Dropped.{goes_back_more}
use Rattle.nr_node.proofs.falling.go_back.Goals as goal

pub loop-serial-preserved : goal.loop-serial-preserved
loop-serial-preserved c =
    goes_back_more (items_of (jobs_next c.args.next.now) ++ items_of c.args.replica.now.waiting) c.loop-serial.last c.in-Some.serial c.args.accounts.now c.loop-serial.accounts
    c.go_back_one.new.accounts c.in-Some.ensures.found.0 c.in-Some.ensures.between c.go_back_one.ensures c.loop-serial.invariant
