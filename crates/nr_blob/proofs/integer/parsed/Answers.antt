use Rattle.std.proofs.Common.{◌∙◌}
use Rattle.nr_blob.proofs.Integers.{no_value, of_none, of_some, parse_is_value}
use Rattle.nr_blob.proofs.integer.parsed.Goals as goal

pub returns-in_err-ok : goal.returns-in_err-ok
returns-in_err-ok c =
    let refused = of_none _ _ _ c.from_utf8.ensures.cases c.in_err-ok.ensures.value in
    c.from_residual.ensures ∙ no_value c.args.text.now c.requires refused.1.0

pub returns : goal.returns
returns c =
    let read = of_some _ _ _ _ c.from_utf8.ensures.cases c.in_ok-ok.ensures.value in
    c.ok-2.ensures.value ∙ parse_is_value c.args.text.now c.parse.result c.requires (rw read.0 at c.parse.ensures.value.0)
