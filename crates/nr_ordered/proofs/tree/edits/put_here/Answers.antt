use Rattle.std.proofs.Common.{rules, arith, ◌≡◌, ◌∷◌, ◌++◌, ap, length, take, drop, length-append, length-take, length-drop, ◌∙◌}
use Rattle.std.specs.List.{insert}
use Rattle.nr_ordered.specs.Lists.{Item}
use Rattle.nr_ordered.proofs.tree.edits.put_here.Goals as goal

pub with_first-requires : goal.with_first-requires
with_first-requires c =
    let block = c.args.node.now.block in
    let place = c.args.place in
    let item : Item = (c.args.bytes.now, c.args.number) in
    let put : c.split.new.block ++ c.in_ok-behind.behind.value.block ≡ insert block place item = search (rules, c.in_ok-behind.ensures.ok) in
    let size = ap length put ∙ length-append (take place block) (item ∷ drop place block) in
    omega (
      arith,
      c.requires.within,
      c.requires.fits,
      size,
      length-append c.split.new.block c.in_ok-behind.behind.value.block,
      length-take place block,
      length-drop place block,
      ap (λ d. length d.0) c.replace-right.ensures.value,
    )
