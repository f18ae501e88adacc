use Rattle.std.proofs.Common.{◌+◌, get_or, ap, sym, ◌∙◌, arith}
use Rattle.std.specs.Int.Count.{ones as ones_of_number}
use Rattle.nr_strings.proofs.Counted.{ones_more, ones_of_byte}
use Rattle.nr_strings.proofs.counts.ones_of.Goals as goal

pub overflow_add-count : goal.overflow_add-count
overflow_add-count c =
    omega (arith, c.loop-byte.invariant.bound, ones_of_byte _ (c.type_inv.bytes c.loop-byte.byte-index).fits, c.loop-byte-test.true, c.requires)

pub loop-byte-preserved : goal.loop-byte-preserved
loop-byte-preserved c =
    let text = c.args.bytes.now in
    let n = c.loop-byte.byte-index in
    record {
      count = ap (λ k. k + ones_of_number (get_or text n 0)) c.loop-byte.invariant.count ∙ sym (ones_more text n 0 c.loop-byte-test.true (c.type_inv.bytes n).fits);
      bound = omega (arith, c.loop-byte.invariant.bound, ones_of_byte _ (c.type_inv.bytes n).fits);
    }
