use Rattle.std.proofs.Common.{◌++◌, ap, sym, ◌∙◌, refl}
use Rattle.std.specs.FinMap as map
use Rattle.nr_model.specs.Hashes.{Hash}
use Rattle.nr_packs.specs.Packed.{Entries, entries_in}
use Rattle.nr_packs.proofs.Copied.{copied_more}
use Rattle.nr_hashes.proofs.Seen.{no_entries}
use Rattle.nr_hashes.proofs.form.table_of.Goals as goal

pub loop-field-init : goal.loop-field-init
loop-field-init c =
    let none = ap (λ (hash : Hash). map.entries hash) c.in_ok-table.ensures ∙ no_entries in
    let left = c.into_iter-field-iterator.ensures.into_iter_gives ∙ c.packed-field-items.ensures in
    λ i. none i ++ left i

pub loop-field-preserved : goal.loop-field-preserved
loop-field-preserved c =
    copied_more (entries_in c.args.pairs.now) (map.entries c.loop-field.table) (map.entries c.put_copy.new.pairs) c.next.new.self c.in-Some.field.now c.in-Some.value.now
    c.in-Some.field.now c.in-Some.value.now c.requires
    (ap (λ (es : Entries). map.entries c.loop-field.table ++ es) (sym c.in-Some.ensures.steps) ∙ c.loop-field.invariant) refl refl c.in_ok-put_copy.ensures
