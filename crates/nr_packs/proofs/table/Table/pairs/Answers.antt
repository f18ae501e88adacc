use Rattle.std.proofs.Common.{◌++◌, subst, sym}
use Rattle.nr_packs.specs.Rows.{AreApart}
use Rattle.nr_packs.specs.Tables.{pairs_of}
use Rattle.nr_packs.proofs.Apart.{apart_stored}
use Rattle.nr_packs.proofs.table.Table.pairs.Goals as goal

pub list-requires : goal.list-requires
list-requires c =
    subst (λ packs. AreApart (pairs_of packs ++ c.self.inside.long.entries)) (sym c.deref.ensures.value)
    (apart_stored c.self.inside.keys c.self.inside.level c.self.inside.packs.items c.self.inside.long.entries c.self.invariant.stored)
