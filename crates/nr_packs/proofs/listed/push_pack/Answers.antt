use Rattle.std.proofs.Common.{◌++◌, ◌∷◌, [], ap, sym, ◌∙◌, append_assoc}
use Rattle.std.proofs.lemmas.List.{append-nil, map-append}
use Rattle.nr_model.specs.Bytes.{Bytes}
use Rattle.nr_packs.specs.Packed.{Entries, entries_in}
use Rattle.nr_packs.specs.Rows.{pairs_in, pair_of}
use Rattle.nr_packs.proofs.Reading.{first_in, none_in, shorter}
use Rattle.nr_packs.proofs.listed.push_pack.Goals as goal

pub loop-field-smaller : goal.loop-field-smaller
loop-field-smaller c = shorter c.loop-field.rest.now (c.in-Some.field.now, c.in-Some.value.now, c.in-Some.behind.now) (sym c.in-Some.ensures)

pub loop-field-preserved : goal.loop-field-preserved
loop-field-preserved c =
    let left = entries_in c.in-Some.behind.now in
    let pair : Bytes × Bytes = (c.in-Some.field.now, c.in-Some.value.now) in
    ap (λ rows. pairs_in rows ++ left) c.in_ok-push.ensures.items
    ∙ ap (λ es. es ++ left) (map-append pair_of c.loop-field.rows.items _)
    ∙ append_assoc (pairs_in c.loop-field.rows.items) (pair ∷ []) left
    ∙ ap (λ (es : Entries). pairs_in c.loop-field.rows.items ++ es) (sym (first_in c.loop-field.rest.now (c.in-Some.field.now, c.in-Some.value.now, c.in-Some.behind.now) (sym c.in-Some.ensures)))
    ∙ c.loop-field.invariant

pub returns : goal.returns
returns c =
    sym (append-nil (pairs_in c.loop-field.rows.items))
    ∙ ap (λ (es : Entries). pairs_in c.loop-field.rows.items ++ es) (sym (none_in c.loop-field.rest.now (sym c.in_default.ensures))) ∙ c.loop-field.invariant
