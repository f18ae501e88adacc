use Rattle.std.proofs.Common.{◌∙◌, ap, sym, ◌++◌, ◌∷◌, []}
use Rattle.nr_lists.proofs.Packed.{last_within, last_left, last_cut}
use Rattle.nr_lists.proofs.few.take_last.Goals as goal

pub overflow_sub-bytes : goal.overflow_sub-bytes
overflow_sub-bytes c =
    last_within c.args.lens.now.now c.in-Some.others.now c.args.bytes.now.now c.from.result
    (c.in-Some.ensures.cases.0 ∙ ap (λ n. c.in-Some.others.now ++ n ∷ []) (sym c.from.ensures)) c.requires

pub returns-clause-item : goal.returns-clause-item
returns-clause-item c =
    last_cut c.args.lens.now.now c.in-Some.others.now c.args.bytes.now.now c.split_at.result.0.now c.split_at.result.1.now c.from.result
    (c.in-Some.ensures.cases.0 ∙ ap (λ n. c.in-Some.others.now ++ n ∷ []) (sym c.from.ensures)) c.requires c.split_at.ensures.front c.split_at.ensures.back

pub returns-clause-whole : goal.returns-clause-whole
returns-clause-whole c =
    last_left c.args.lens.now.now c.in-Some.others.now c.args.bytes.now.now c.split_at.result.0.now c.from.result
    (c.in-Some.ensures.cases.0 ∙ ap (λ n. c.in-Some.others.now ++ n ∷ []) (sym c.from.ensures)) c.requires c.split_at.ensures.front
