use Rattle.std.proofs.Common.{◌∙◌, ap, sym, is_some, subst}
use Rattle.std.specs.BTreeMap.{is_at}
use Rattle.std.specs.FinMap as map
use Rattle.nr_model.specs.Keyspace.{byte_cmp}
use Rattle.nr_hashes.specs.Forms.{entries_of}
use Rattle.nr_packs.specs.Orders.{AreInOrder}
use Rattle.nr_packs.proofs.Placed.{rises_remove}
use Rattle.nr_hashes.proofs.Seen.{get_seen, removed_seen}
use Rattle.nr_hashes.proofs.hash.Hash.remove.Goals as goal

pub invariant_of-self : goal.invariant_of-self
invariant_of-self c = subst AreInOrder (sym c.remove.ensures.removed) (rises_remove (is_at (byte_cmp c.args.field.now)) (entries_of c.self.inside.form) c.self.invariant)

pub returns-clause-there : goal.returns-clause-there
returns-clause-there c =
    c.remove.ensures.there ∙ ap is_some (sym (get_seen (entries_of c.self.inside.form) c.self.invariant c.args.field.now))
    ∙ ap (λ hash. map.contains_key hash c.args.field.now) c.self.view_is

pub returns-clause-removed : goal.returns-clause-removed
returns-clause-removed c =
    removed_seen (entries_of c.self.inside.form) (entries_of c.remove.new.self) c.args.field.now c.self.invariant c.remove.ensures.removed
    ∙ ap (λ hash. map.remove hash c.args.field.now) c.self.view_is
