use Rattle.std.proofs.Common.{arith}
use Rattle.nr_replica.proofs.Marked.{has_past, first_has, first_least, none_has}
use Rattle.nr_replica.proofs.ready.ReadySerials.next.Goals as goal

pub returns-then-worker-len-clause-none : goal.returns-then-worker-len-clause-none
returns-then-worker-len-clause-none c = λ other behind. has_past c.args.self.now.sets.items c.args.worker other (omega arith)

pub returns-in-Some-clause-has : goal.returns-in-Some-clause-has
returns-in-Some-clause-has c =
    first_has c.args.worker c.args.from c.args.self.now.sets.items c.index.result.now c.in-Some.serial.now c.range.result c.next.new.self (omega arith) c.index.ensures
    (c.range.ensures.in_range tt) c.in-Some.ensures.steps

pub returns-in-Some-clause-least : goal.returns-in-Some-clause-least
returns-in-Some-clause-least c =
    first_least c.args.worker c.args.from c.args.self.now.sets.items c.index.result.now c.in-Some.serial.now c.range.result c.next.new.self (omega arith) c.index.ensures
    (c.range.ensures.in_range tt) c.in-Some.ensures.steps

pub returns-in-None-clause-none : goal.returns-in-None-clause-none
returns-in-None-clause-none c =
    none_has c.args.worker c.args.from c.args.self.now.sets.items c.index.result.now c.range.result (omega arith) c.index.ensures
    (c.range.ensures.in_range tt) c.in-None.ensures.steps.0
