use Rattle.std.proofs.Common.{◌++◌, ap, sym, ◌∙◌, refl}
use Rattle.nr_packs.specs.Packed.{Entries}
use Rattle.nr_packs.proofs.Copied.{copied_more}
use Rattle.nr_packs.proofs.table.copy_long.Goals as goal

pub loop-field-preserved : goal.loop-field-preserved
loop-field-preserved c =
    copied_more c.args.pairs.now.entries c.loop-field.copied.entries c.put_copy.new.pairs.entries c.next.new.self c.in-Some.field.now c.in-Some.value.now
    c.in-Some.field.now c.in-Some.value.now c.requires
    (ap (λ (es : Entries). c.loop-field.copied.entries ++ es) (sym c.in-Some.ensures.steps) ∙ c.loop-field.invariant) refl refl c.in_ok-put_copy.ensures
