use Rattle.std.proofs.Common.{◌∙◌, ap, List, drop}
use Rattle.std.proofs.lemmas.List.{get_or_read}
use Rattle.nr_model.specs.Bytes.{Bytes}
use Rattle.nr_lists.proofs.Around.{split_is}
use Rattle.nr_lists.proofs.blocks.split.Goals as goal

pub returns-clause-ok : goal.returns-clause-ok
returns-clause-ok c =
    split_is c.args.blocks.now.items c.insert.new.self.items c.cut.new.blocks.items c.args.block c.args.place c.in_ok-others.others c.requires.block
    (c.in_ok-others.ensures ∙ ap (λ (b : List Bytes). drop c.args.place b) (get_or_read c.args.blocks.now.items c.args.block c.index.result.now c.requires.block c.index.ensures _))
    c.in_ok-insert.ensures.items c.cut.ensures
