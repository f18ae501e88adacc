use Rattle.std.proofs.Common.{◌∙◌}
use Rattle.nr_packs.proofs.Sites.{within, front_is, back_is}
use Rattle.nr_packs.proofs.packed.places.parted.Goals as goal

pub overflow_sub-bytes : goal.overflow_sub-bytes
overflow_sub-bytes c = within c.args.bytes.now c.behind-after.result.now c.args.place c.requires c.behind-after.ensures

pub returns-clause-before : goal.returns-clause-before
returns-clause-before c = c.split_at.ensures.front ∙ front_is c.args.bytes.now c.behind-after.result.now c.args.place c.requires c.behind-after.ensures

pub returns-clause-after : goal.returns-clause-after
returns-clause-after c = c.split_at.ensures.back ∙ back_is c.args.bytes.now c.behind-after.result.now c.args.place c.requires c.behind-after.ensures
