use Rattle.std.proofs.Common.{◌≡◌, ℕ, ◌+◌, ◌-◌, ◌≤◌, drop, arith}
use Rattle.nr_model.specs.Strings.{bits_of}
use Rattle.nr_strings.proofs.Counted.{counted_between, set_bits_bound}
use Rattle.nr_strings.proofs.counts.ones_between.Goals as goal

pub overflow_sub-result : goal.overflow_sub-result
overflow_sub-result c =
    omega (arith, counted_between c.args.bytes.now c.args.start c.args.end _ _ c.requires.order c.ones_before.ensures c.ones_before-2.ensures)

below : (n k m start end : ℕ) → n ≡ k + m → m ≤ end - start → n - k ≤ end
below n k m start end is within = omega (arith, is, within)

pub returns-clause-bound : goal.returns-clause-bound
returns-clause-bound c =
    below _ _ _ c.args.start c.args.end
    (counted_between c.args.bytes.now c.args.start c.args.end _ _ c.requires.order c.ones_before.ensures c.ones_before-2.ensures)
    (set_bits_bound (drop c.args.start (bits_of c.args.bytes.now)) (c.args.end - c.args.start))
