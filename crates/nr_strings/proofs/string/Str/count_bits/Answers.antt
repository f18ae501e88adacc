use Rattle.std.proofs.Common.{◌∙◌, ◌-◌, ap, drop, take, rules}
use Rattle.nr_model.specs.Bytes.{Bytes}
use Rattle.nr_model.specs.Strings.{bits_of, set_bits}
use Rattle.nr_strings.proofs.Counted.{counted_range}
use Rattle.nr_strings.proofs.string.Str.count_bits.Goals as goal

pub returns-clause-count : goal.returns-clause-count
returns-clause-count c =
    counted_range c.args.self.now c.args.first c.args.last c.len-len.result c.start_of-start.result c.end_of-end.result _ c.len-len.ensures (search rules) (search rules)
    (c.ones_between.ensures.count ∙ ap (λ (bytes : Bytes). set_bits (take (c.end_of-end.result - c.start_of-start.result) (drop c.start_of-start.result (bits_of bytes)))) c.bytes.ensures)
