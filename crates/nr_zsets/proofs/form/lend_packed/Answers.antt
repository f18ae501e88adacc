use Rattle.std.proofs.Common.{sym, ◌∙◌, map}
use Rattle.std.proofs.lemmas.List.{length-map}
use Rattle.nr_ordered.specs.Lists.{shown}
use Rattle.nr_zsets.specs.Lists.{told_ends}
use Rattle.nr_zsets.specs.Forms.{item_of, items_in}
use Rattle.nr_zsets.proofs.Walks.{turned}
use Rattle.nr_zsets.proofs.form.lend_packed.Goals as goal

pub returns : goal.returns
returns c =
    turned c.args.direction c.args.from c.args.to c.len-len.result c.ends_told-low.result (items_in c.args.pairs.now) (map shown c.in_ok-lent.lent.items)
    (map shown c.turn.new.lent.items) (c.len-len.ensures.len ∙ sym (length-map c.args.pairs.now item_of))
    (c.ends_told-low.ensures.ends ∙ (λ i. told_ends c.args.direction (c.min.ensures i) (c.min-2.ensures i) c.len-len.result)) c.in_ok-lent.ensures c.turn.ensures
