use Rattle.std.proofs.Common.{rules, arith, ◌≡◌, length, ap, set, ◌∙◌}
use Rattle.nr_ordered.specs.Lists.{renumbered}
use Rattle.nr_ordered.specs.Blocks.{lens_in, items_in}
use Rattle.nr_ordered.proofs.Holding.{many_items, numbered_anew}
use Rattle.nr_ordered.proofs.block.Block.set.Goals as goal

pub set_number-requires : goal.set_number-requires
set_number-requires c =
    let b = c.self.inside in
    omega (arith, c.requires, many_items (lens_in b.lens) b.bytes.items b.numbers.items c.self.invariant.whole.paired, ap length c.self.view_is)

pub returns : goal.returns
returns c =
    let b = c.self.inside in
    let lens = lens_in b.lens in
    let is : c.set_number.new.numbers.items ≡ set b.numbers.items c.args.place c.args.number = search (rules, c.set_number.ensures) in
    ap (items_in lens b.bytes.items) is ∙ numbered_anew lens b.bytes.items b.numbers.items c.args.place c.args.number c.self.invariant.whole.paired
    ∙ ap (λ xs. renumbered xs c.args.place c.args.number) c.self.view_is
