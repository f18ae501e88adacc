use Rattle.std.proofs.Common.{◌≡◌, ◌∙◌, ◌+◌, ℕ, ap, sym, subst, take, drop, length, arith}
use Rattle.std.specs.List.{remove}
use Rattle.nr_model.specs.Bytes.{Bytes}
use Rattle.nr_packs.specs.Packed.{Entries, packed, entries_in, IsPacked}
use Rattle.nr_packs.proofs.Kept.{read_back}
use Rattle.nr_packs.proofs.Sites.{cut_at, cut_at_kept}
use Rattle.nr_packs.proofs.packed.Packed.remove_at.Goals as goal

pub invariant_of-self : goal.invariant_of-self
invariant_of-self c =
    let bytes = c.self.inside.block.1 in
    let new = c.cut.new.self.1 in
    let place = c.args.place in
    let long : length (entries_in bytes) ≡ length c.args.self.now = ap (λ (es : Entries). length es) c.self.view_is in
    let cut = cut_at bytes new place c.ends_of-start.result.0 c.ends_of-start.result.1 c.self.invariant.stored
    (c.ends_of-start.ensures.start ∙ ap (λ (bytes : Bytes). length (packed (take place (entries_in bytes)))) c.pairs.ensures.pairs)
    (ap (λ (bytes : Bytes). c.ends_of-start.result.1 + length (packed (drop (place + 1) (entries_in bytes)))) (sym c.pairs.ensures.pairs)
    ∙ c.ends_of-start.ensures.behind ∙ ap (λ (bytes : Bytes). length bytes) c.pairs.ensures.pairs)
    (ap (λ (b : ℕ × Bytes). b.1) c.cut.ensures) in
    subst (λ (n : ℕ). IsPacked n new) (sym (ap (λ (b : ℕ × Bytes). b.0) c.cut.ensures))
    (cut_at_kept c.self.inside.block.0 bytes new place c.self.invariant cut (omega (arith, long, c.requires)))

pub returns : goal.returns
returns c =
    let bytes = c.self.inside.block.1 in
    let new = c.cut.new.self.1 in
    let place = c.args.place in
    let cut = cut_at bytes new place c.ends_of-start.result.0 c.ends_of-start.result.1 c.self.invariant.stored
    (c.ends_of-start.ensures.start ∙ ap (λ (bytes : Bytes). length (packed (take place (entries_in bytes)))) c.pairs.ensures.pairs)
    (ap (λ (bytes : Bytes). c.ends_of-start.result.1 + length (packed (drop (place + 1) (entries_in bytes)))) (sym c.pairs.ensures.pairs)
    ∙ c.ends_of-start.ensures.behind ∙ ap (λ (bytes : Bytes). length bytes) c.pairs.ensures.pairs)
    (ap (λ (b : ℕ × Bytes). b.1) c.cut.ensures) in
    read_back new (remove (entries_in bytes) place) cut ∙ ap (λ (es : Entries). remove es place) c.self.view_is
