use Rattle.nr_packs.proofs.Tabled.{table_taken}
use Rattle.std.proofs.Common.{rules, ℕ, cond, ◌∙◌, ap, subst, sym}
use Rattle.nr_packs.specs.Tables.{IsTable}
use Rattle.nr_packs.proofs.table.Table.remove.Goals as goal

pub invariant_of-self : goal.invariant_of-self
invariant_of-self c =
    subst (IsTable c.self.inside.keys c.self.inside.level c.take_in-was_there.new.packs.items c.take_in-was_there.new.long.entries)
    (sym (c.picked-self-inside.ensures ∙ ap (λ (n : ℕ). cond c.take_in-was_there.result n c.self.inside.len) (search rules)))
    (table_taken c.self.inside.keys c.self.inside.level c.self.inside.len c.self.inside.packs.items c.take_in-was_there.new.packs.items c.self.inside.long.entries
    c.take_in-was_there.new.long.entries c.args.field.now c.take_in-was_there.result c.self.invariant c.take_in-was_there.ensures.stored c.take_in-was_there.ensures.taken
    c.take_in-was_there.ensures.there)
