use Rattle.std.proofs.Common.{◌∙◌, ap, sym, is_some, not, subst}
use Rattle.std.specs.Map.{lookup}
use Rattle.std.specs.BTreeMap.{is_at}
use Rattle.std.specs.FinMap as map
use Rattle.nr_model.specs.Keyspace.{byte_cmp}
use Rattle.nr_hashes.specs.Forms.{entries_of}
use Rattle.nr_packs.specs.Orders.{AreInOrder}
use Rattle.nr_packs.proofs.Placed.{rises_insert}
use Rattle.nr_hashes.proofs.Seen.{get_seen, inserted_seen, is_new}
use Rattle.nr_hashes.proofs.hash.Hash.insert.Goals as goal

pub invariant_of-self : goal.invariant_of-self
invariant_of-self c = subst AreInOrder (sym c.in_err-is_new.ensures.err) c.self.invariant

pub invariant_of-self-2 : goal.invariant_of-self-2
invariant_of-self-2 c = subst AreInOrder (sym c.in_ok-is_new.ensures.put) (rises_insert c.args.field.now c.args.value.now (entries_of c.self.inside.form) c.self.invariant)

pub returns-clause-new : goal.returns-clause-new
returns-clause-new c =
    let es = entries_of c.self.inside.form in
    let k = c.args.field.now in
    c.in_ok-is_new.ensures.new ∙ is_new (lookup (is_at (byte_cmp k)) es) ∙ ap (λ found. not (is_some found)) (sym (get_seen es c.self.invariant k))
    ∙ ap (λ hash. not (map.contains_key hash k)) c.self.view_is

pub returns-clause-ok : goal.returns-clause-ok
returns-clause-ok c =
    let es = entries_of c.self.inside.form in
    inserted_seen es (entries_of c.insert.new.self) c.args.field.now c.args.value.now c.self.invariant
    (subst AreInOrder (sym c.in_ok-is_new.ensures.put) (rises_insert c.args.field.now c.args.value.now es c.self.invariant)) c.in_ok-is_new.ensures.put
    ∙ ap (λ hash. map.insert hash c.args.field.now c.args.value.now) c.self.view_is
