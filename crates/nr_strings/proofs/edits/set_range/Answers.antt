use Rattle.std.proofs.Common.{◌≡◌, ◌+◌, ◌≤◌, ◌++◌, length, take, drop, refl, ap, sym, ◌∙◌, subst}
use Rattle.nr_model.specs.Bytes.{Bytes}
use Rattle.nr_model.specs.Strings.{padded}
use Rattle.nr_strings.proofs.Written.{over_padded, all_of, same_length, length_padded}
use Rattle.nr_strings.proofs.edits.set_range.Goals as goal

pub returns-clause-ok : goal.returns-clause-ok
returns-clause-ok c =
    let offset = c.args.offset in
    let written = c.args.written.now in
    let text = c.args.text.now.items in
    let grown = c.grow.new.bytes.items in
    let padded_is : grown ≡ padded (offset + length written) text = c.in_ok-grow.ensures.ok in
    let fits : offset + length written ≤ length grown = subst (λ (b : Bytes). offset + length written ≤ length b) (sym padded_is) (length_padded (offset + length written) text) in
    let over = c.overwrite.ensures ∙ ap (λ (b : Bytes). take offset b ++ written ++ drop (offset + length written) b) c.as_mut_slice.ensures.value in
    all_of (length grown) c.overwrite.new.bytes grown refl (ap length over ∙ same_length offset written grown fits)
    ∙ over
    ∙ ap (λ (b : Bytes). take offset b ++ written ++ drop (offset + length written) b) padded_is
    ∙ over_padded offset written text
