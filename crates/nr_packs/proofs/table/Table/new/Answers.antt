use Rattle.std.proofs.Common.{◌++◌, ◌∷◌, [], ◌∙◌}
use Rattle.nr_packs.proofs.Tabled.{table_none}
use Rattle.nr_packs.proofs.table.Table.new.Goals as goal

pub invariant_of-result : goal.invariant_of-result
invariant_of-result c =
    (table_none c.args.keys c.push.new.self.items c.new-2.result.entries
    (c.in_ok-push.ensures.items ∙ (λ i. c.new-packs.ensures.items i ++ c.new.ensures i ∷ [])) c.new-2.ensures.empty).0
