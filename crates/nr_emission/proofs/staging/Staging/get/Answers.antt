use Rattle.std.proofs.Common.{rules, ◌≡◌, ◌<◌, length, slice_index_or, ap, sym, ◌∙◌, arith}
use Rattle.std.proofs.lemmas.List.{length-map}
use Rattle.nr_emission.specs.Staged.{written_in}
use Rattle.nr_emission.specs.declared.staging.Staged.TheVariants.{Reply}
use Rattle.nr_emission.proofs.Held.{reply_within}
use Rattle.nr_emission.proofs.staging.Staging.get.Goals as goal

-- src/staging.rt:73:77
pub overflow_add-result : goal.overflow_add-result
overflow_add-result c =
    let long : length c.args.self.now ≡ length c.self.inside.staged.items =
    ap length (sym c.self.view_is) ∙ length-map c.self.inside.staged.items (written_in c.self.inside.bytes.items) in
    let below : c.args.index < length c.self.inside.staged.items = omega (arith, c.requires, long) in
    let is : slice_index_or c.self.inside.staged.items c.args.index c.index.result.now ≡ Reply c.in-Reply.conn c.in-Reply.from c.in-Reply.len = search rules in
    let within = reply_within c.self.inside.bytes.items c.self.inside.staged.items c.args.index c.index.result.now c.in-Reply.conn c.in-Reply.from c.in-Reply.len c.self.invariant.within below is in
    search rules

-- src/staging.rt:73:58
pub slice_bounds-result-end : goal.slice_bounds-result-end
slice_bounds-result-end c =
    let long : length c.args.self.now ≡ length c.self.inside.staged.items =
    ap length (sym c.self.view_is) ∙ length-map c.self.inside.staged.items (written_in c.self.inside.bytes.items) in
    let below : c.args.index < length c.self.inside.staged.items = omega (arith, c.requires, long) in
    let is : slice_index_or c.self.inside.staged.items c.args.index c.index.result.now ≡ Reply c.in-Reply.conn c.in-Reply.from c.in-Reply.len = search rules in
    let within = reply_within c.self.inside.bytes.items c.self.inside.staged.items c.args.index c.index.result.now c.in-Reply.conn c.in-Reply.from c.in-Reply.len c.self.invariant.within below is in
    search rules
