use Rattle.std.proofs.Common.{ℕ}
use Rattle.nr_world.proofs.Advanced.{run_is}
use Rattle.nr_world.proofs.Kept.{kept_read}
use Rattle.nr_world.proofs.node.WorldNode.run_reads.Goals as goal

pub returns-clause-run : goal.returns-clause-run
returns-clause-run c = λ (tail : ℕ). run_is c.args.self.now tail c.run_reads.new.self c.requires.clients c.requires.numbered c.in_ok-run_reads.ensures.read

pub returns-clause-whole : goal.returns-clause-whole
returns-clause-whole c = λ n w.
    let k = kept_read n c.args.self.now c.run_reads.new.self c.in_ok-run_reads.ensures.read w in
    record { number = k.number; pairs = k.pairs; owed = k.owed; counted = k.counted }
