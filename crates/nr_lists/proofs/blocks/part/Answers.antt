use Rattle.std.proofs.Common.{◌∙◌, ap, List, length, []}
use Rattle.std.proofs.lemmas.List.{get_or_read}
use Rattle.nr_model.specs.Bytes.{Bytes}
use Rattle.nr_lists.proofs.Around.{ends_there, split_first, split_others}
use Rattle.nr_lists.proofs.blocks.part.Goals as goal

pub returns-then-place-len-clause-first : goal.returns-then-place-len-clause-first
returns-then-place-len-clause-first c =
    ends_there c.args.blocks.now.items c.args.block c.args.place c.requires.block
    (c.if-place-len.true ∙ c.len.ensures.len
    ∙ ap (λ (b : List Bytes). length b) (get_or_read c.args.blocks.now.items c.args.block c.index.result.now c.requires.block c.index.ensures []))

pub returns-clause-first : goal.returns-clause-first
returns-clause-first c = split_first c.args.blocks.now.items c.split.new.blocks.items c.args.block c.args.place c.requires.block c.in_ok-split.ensures.ok

pub returns-clause-others : goal.returns-clause-others
returns-clause-others c = split_others c.args.blocks.now.items c.split.new.blocks.items c.args.block c.args.place c.requires.block c.in_ok-split.ensures.ok
