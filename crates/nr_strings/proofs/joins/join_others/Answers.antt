use Rattle.std.proofs.Common.{ap, sym, ◌∙◌, arith, ◌<◌, length, get_or, zip}
use Rattle.nr_strings.specs.Joins.{function_of}
use Rattle.nr_strings.proofs.InPlace.{of_both, both_at, length-both, next_of, more_of, computed_all}
use Rattle.nr_strings.proofs.joins.join_others.Goals as goal

pub loop-index-preserved : goal.loop-index-preserved
loop-index-preserved c =
    let text = c.args.bytes.now in
    let others = c.args.others.now in
    let f = function_of c.args.operation in
    let n = c.loop-index.index in
    let same = length-both text others c.requires in
    let within : n < length text = omega (arith, c.requires, c.loop-index-test.true) in
    let read = next_of (of_both f) (zip text others) text c.loop-index.bytes n 0 c.loop-index.invariant same within in
    more_of (of_both f) (zip text others) text c.loop-index.bytes n c.joined.result (0, 0) c.loop-index.invariant same within
    (c.joined.ensures ∙ ap (λ byte. f byte (get_or others n 0)) read ∙ ap (of_both f) (sym (both_at text others n c.requires within)))

pub returns : goal.returns
returns c =
    let text = c.args.bytes.now in
    let others = c.args.others.now in
    c.loop-index.invariant
    ∙ computed_all (of_both (function_of c.args.operation)) (zip text others) text c.loop-index.index (length-both text others c.requires) (omega (arith, c.requires, c.loop-index-test.false))
