use Rattle.std.proofs.Common.{ℕ, ◌/◌, ◌%◌, [], ◌∷◌, length, refl, ap, ◌∙◌}
use Rattle.std.proofs.lemmas.List.{length-set}
use Rattle.std.specs.Prelude.{slice_set}
use Rattle.nr_model.specs.Bytes.{Bytes}
use Rattle.nr_model.specs.Strings.{overwritten, with_bit, byte_at}
use Rattle.nr_strings.proofs.Written.{set_padded, all_of}
use Rattle.nr_strings.proofs.edits.set_bit.Goals as goal

pub returns-clause-ok : goal.returns-clause-ok
returns-clause-ok c =
    let index = c.args.offset / 8 in
    let text = c.args.text.now.items in
    let grown = c.grow.new.bytes.items in
    let lent = c.as_mut_slice.result.now in
    let written = slice_set lent index c.changed.result in
    let byte_is = c.byte_or_zero-byte.ensures ∙ ap (λ (b : Bytes). byte_at b index) (c.as_slice.ensures) in
    all_of (length grown) written grown refl (length-set lent index c.changed.result ∙ ap length c.as_mut_slice.ensures.value)
    ∙ ap (λ (b : Bytes). slice_set b index c.changed.result) (c.as_mut_slice.ensures.value ∙ c.in_ok-grow.ensures.ok)
    ∙ set_padded index c.changed.result text
    ∙ ap (λ (v : ℕ). overwritten index (v ∷ []) text) (c.changed.ensures ∙ ap (λ (b : ℕ). with_bit b (c.args.offset % 8) c.args.value) byte_is)
