use Rattle.std.proofs.Common.{◌∙◌, sym}
use Rattle.nr_lists.proofs.Around.{last_apart}
use Rattle.nr_lists.proofs.block.Block.take_last.Goals as goal

pub returns-clause-ok : goal.returns-clause-ok
returns-clause-ok c =
    last_apart c.args.self.now c.cut.new.self c.len-len.result c.in_ok-item.item c.len-len.ensures.len c.len-len.ensures.some
    (sym c.get.ensures ∙ c.in_ok-item.ensures) c.cut.ensures
