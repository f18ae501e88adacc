use Rattle.std.proofs.Common.{◌≡◌, ◌≤◌, ◌∙◌, ap, length, take, arith}
use Rattle.nr_lists.specs.Packed.{total}
use Rattle.nr_lists.specs.Small.{lens_in}
use Rattle.nr_lists.proofs.Laid.{at_till, cut_whole, cut_read}
use Rattle.nr_lists.proofs.small.take_out.Goals as goal

pub remove_range-requires-clause-range : goal.remove_range-requires-clause-range
remove_range-requires-clause-range c =
    let lens_are : c.parts.result.0.now ≡ lens_in c.args.block.now.items = c.parts.ensures.lens ∙ ap lens_in c.deref.ensures.value in
    let order : c.offset-from.result ≤ c.offset-to.result =
    at_till c.args.block.now.items c.args.start c.args.end c.offset-from.result c.offset-to.result (length c.parts.result.0.now) c.requires.laid c.requires.range
    c.requires.within (c.offset-from.ensures.offset ∙ ap (λ ls. total (take c.args.start ls)) lens_are)
    (c.offset-to.ensures.offset ∙ ap (λ ls. total (take c.args.end ls)) lens_are) (ap length lens_are) in
    omega (arith, order)

pub returns-clause-laid : goal.returns-clause-laid
returns-clause-laid c =
    let lens_are : c.parts.result.0.now ≡ lens_in c.args.block.now.items = c.parts.ensures.lens ∙ ap lens_in c.deref.ensures.value in
    cut_whole c.args.block.now.items c.args.start c.args.end c.offset-from.result c.offset-to.result (length c.parts.result.0.now) c.requires.laid c.requires.range
    c.requires.within (c.offset-from.ensures.offset ∙ ap (λ ls. total (take c.args.start ls)) lens_are)
    (c.offset-to.ensures.offset ∙ ap (λ ls. total (take c.args.end ls)) lens_are) (ap length lens_are) c.remove_range.new.items.items c.shrink_to_fit.new.self.items
    c.remove_range.ensures (c.shrink_to_fit.ensures.items ∙ c.remove_range-2.ensures)

pub returns-clause-items : goal.returns-clause-items
returns-clause-items c =
    let lens_are : c.parts.result.0.now ≡ lens_in c.args.block.now.items = c.parts.ensures.lens ∙ ap lens_in c.deref.ensures.value in
    cut_read c.args.block.now.items c.args.start c.args.end c.offset-from.result c.offset-to.result (length c.parts.result.0.now) c.requires.laid c.requires.range
    c.requires.within (c.offset-from.ensures.offset ∙ ap (λ ls. total (take c.args.start ls)) lens_are)
    (c.offset-to.ensures.offset ∙ ap (λ ls. total (take c.args.end ls)) lens_are) (ap length lens_are) c.remove_range.new.items.items c.shrink_to_fit.new.self.items
    c.remove_range.ensures (c.shrink_to_fit.ensures.items ∙ c.remove_range-2.ensures)
