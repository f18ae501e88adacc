use Rattle.std.proofs.Common.{ap, length, ◌∙◌, arith}
use Rattle.nr_packs.proofs.Sites.{behind_it, stored_behind}
use Rattle.nr_packs.proofs.packed.places.ends_of.Goals as goal

pub parted-requires-2 : goal.parted-requires-2
parted-requires-2 c = stored_behind c.args.bytes.now c.parted.result.1.now c.args.place c.parted.ensures.after

pub returns-clause-behind : goal.returns-clause-behind
returns-clause-behind c =
    let same = ap length (c.parted-2.ensures.after ∙ behind_it c.args.bytes.now c.parted.result.1.now c.args.place c.parted.ensures.after) in
    omega (arith, same, c.parted.ensures.all, c.parted-2.ensures.all)
