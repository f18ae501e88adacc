use Rattle.std.proofs.Common.{◌-◌, refl, ap, ◌∙◌}
use Rattle.nr_strings.proofs.InPlace.{next_of, more_of, computed_all}
use Rattle.nr_strings.proofs.joins.invert.Goals as goal

pub loop-byte-preserved : goal.loop-byte-preserved
loop-byte-preserved c =
    let text = c.args.bytes.now in
    let n = c.loop-byte.byte-index in
    more_of (λ byte. 255 - byte) text text c.loop-byte.bytes n _ 0 c.loop-byte.invariant refl c.loop-byte-test.true
    (ap (λ byte. 255 - byte) (next_of (λ byte. 255 - byte) text text c.loop-byte.bytes n 0 c.loop-byte.invariant refl c.loop-byte-test.true))

pub returns : goal.returns
returns c =
    c.loop-byte.invariant ∙ computed_all (λ byte. 255 - byte) c.args.bytes.now c.args.bytes.now c.loop-byte.byte-index refl c.loop-byte-test.false
