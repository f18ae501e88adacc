use Rattle.std.proofs.Common.{◌∙◌, ap, sym, subst, not}
use Rattle.std.specs.FinMap as map
use Rattle.nr_packs.specs.Tables.{IsTable, seen}
use Rattle.nr_packs.proofs.Tabled.{table_grown, table_put, on_err}
use Rattle.nr_packs.proofs.table.Table.insert.Goals as goal

pub invariant_of-self : goal.invariant_of-self
invariant_of-self c =
    (table_grown c.self.inside.keys c.self.inside.level c.grow.new.level c.self.inside.len c.self.inside.packs.items c.grow.new.packs.items c.self.inside.long.entries c.self.invariant
    c.grow.ensures.spread c.grow.ensures.same).0

pub returns-in_err-grow-clause-err : goal.returns-in_err-grow-clause-err
returns-in_err-grow-clause-err c =
    on_err c.from_residual-in_err-grow.result
    ((table_grown c.self.inside.keys c.self.inside.level c.grow.new.level c.self.inside.len c.self.inside.packs.items c.grow.new.packs.items c.self.inside.long.entries c.self.invariant
    c.grow.ensures.spread c.grow.ensures.same).1 ∙ c.self.view_is)

pub invariant_of-self-in_err-is_new : goal.invariant_of-self-in_err-is_new
invariant_of-self-in_err-is_new c =
    subst (λ packs. IsTable c.self.inside.keys c.grow.new.level packs c.put_in.new.long.entries c.self.inside.len) (sym c.in_err-is_new.ensures.packs)
    (subst (λ long. IsTable c.self.inside.keys c.grow.new.level c.grow.new.packs.items long c.self.inside.len) (sym c.in_err-is_new.ensures.long)
    (table_grown c.self.inside.keys c.self.inside.level c.grow.new.level c.self.inside.len c.self.inside.packs.items c.grow.new.packs.items c.self.inside.long.entries c.self.invariant
    c.grow.ensures.spread c.grow.ensures.same).0)

pub returns-in_err-is_new-clause-err : goal.returns-in_err-is_new-clause-err
returns-in_err-is_new-clause-err c =
    on_err c.from_residual-in_err-is_new.result
    ((λ i. seen (c.in_err-is_new.ensures.packs i) (c.in_err-is_new.ensures.long i))
    ∙ (table_grown c.self.inside.keys c.self.inside.level c.grow.new.level c.self.inside.len c.self.inside.packs.items c.grow.new.packs.items c.self.inside.long.entries c.self.invariant
    c.grow.ensures.spread c.grow.ensures.same).1 ∙ c.self.view_is)

pub invariant_of-self-2 : goal.invariant_of-self-2
invariant_of-self-2 c =
    let grown = table_grown c.self.inside.keys c.self.inside.level c.grow.new.level c.self.inside.len c.self.inside.packs.items c.grow.new.packs.items c.self.inside.long.entries c.self.invariant
    c.grow.ensures.spread c.grow.ensures.same in
    subst (IsTable c.self.inside.keys c.grow.new.level c.put_in.new.packs.items c.put_in.new.long.entries) (sym c.picked-self-inside.ensures)
    (table_put c.self.inside.keys c.grow.new.level c.self.inside.len c.in_ok-more.more c.grow.new.packs.items c.put_in.new.packs.items c.self.inside.long.entries c.put_in.new.long.entries
    c.args.field.now c.args.value.now c.in_ok-is_new.is_new grown.0 c.in_ok-is_new.ensures.stored c.in_ok-is_new.ensures.put c.in_ok-is_new.ensures.new c.in_ok-more.ensures.more.0 c.in_ok-more.ensures.more.1)

pub returns-clause-new : goal.returns-clause-new
returns-clause-new c =
    c.in_ok-is_new.ensures.new
    ∙ ap (λ hash. not (map.contains_key hash c.args.field.now))
    ((table_grown c.self.inside.keys c.self.inside.level c.grow.new.level c.self.inside.len c.self.inside.packs.items c.grow.new.packs.items c.self.inside.long.entries c.self.invariant
    c.grow.ensures.spread c.grow.ensures.same).1 ∙ c.self.view_is)

pub returns-clause-ok : goal.returns-clause-ok
returns-clause-ok c =
    c.in_ok-is_new.ensures.put
    ∙ ap (λ hash. map.insert hash c.args.field.now c.args.value.now)
    ((table_grown c.self.inside.keys c.self.inside.level c.grow.new.level c.self.inside.len c.self.inside.packs.items c.grow.new.packs.items c.self.inside.long.entries c.self.invariant
    c.grow.ensures.spread c.grow.ensures.same).1 ∙ c.self.view_is)
