use Rattle.std.proofs.Common.{ap, sym, ◌∙◌, map}
use Rattle.nr_model.specs.SortedSets.{told_in}
use Rattle.nr_ordered.specs.Lists.{shown}
use Rattle.nr_zsets.proofs.Walks.{seen_reversed}
use Rattle.nr_zsets.proofs.form.turn.Goals as goal

pub returns-in-Descending : goal.returns-in-Descending
returns-in-Descending c =
    seen_reversed shown c.args.lent.now.items c.reverse.new.self.items c.reverse.ensures.items
    ∙ ap (λ direction. told_in direction (map shown c.args.lent.now.items)) (sym c.in-Descending.is)
