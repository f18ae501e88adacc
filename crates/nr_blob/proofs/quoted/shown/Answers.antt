use Rattle.std.proofs.Common.{arith, sym}
use Rattle.std.proofs.lemmas.List.{take_all, length-take}
use Rattle.nr_blob.proofs.quoted.shown.Goals as goal

pub slice_bounds-result-end : goal.slice_bounds-result-end
slice_bounds-result-end c = omega (arith, length-take 128 c.args.word.now)

pub returns-then-word-le-MOST_QUOTED_BYTES : goal.returns-then-word-le-MOST_QUOTED_BYTES
returns-then-word-le-MOST_QUOTED_BYTES c = sym (take_all 128 c.args.word.now c.if-word-le-MOST_QUOTED_BYTES.true)
