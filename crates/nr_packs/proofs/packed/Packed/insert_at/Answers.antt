use Rattle.std.proofs.Common.{◌≡◌, ◌∙◌, ◌+◌, ℕ, ap, take, drop, length, arith}
use Rattle.std.specs.List.{insert}
use Rattle.nr_model.specs.Bytes.{Bytes}
use Rattle.nr_packs.specs.Packed.{Entries, packed, entries_in}
use Rattle.nr_packs.proofs.Kept.{read_back}
use Rattle.nr_packs.proofs.Sites.{put_at, put_at_kept}
use Rattle.nr_packs.proofs.packed.Packed.insert_at.Goals as goal

pub invariant_of-self : goal.invariant_of-self
invariant_of-self c =
    let bytes = c.self.inside.block.1 in
    let new = c.in_ok-block.block.1 in
    let place = c.args.place in
    let long : length (entries_in bytes) ≡ length c.args.self.now = ap (λ (es : Entries). length es) c.self.view_is in
    let put = put_at bytes new c.parted.result.0.now c.parted.result.1.now c.args.field.now c.args.value.now place (ap (λ (b : ℕ × Bytes). b.1) c.in_ok-block.ensures)
    (c.parted.ensures.before ∙ ap (λ (bytes : Bytes). packed (take place (entries_in bytes))) c.pairs.ensures.pairs)
    (c.parted.ensures.after ∙ ap (λ (bytes : Bytes). packed (drop place (entries_in bytes))) c.pairs.ensures.pairs) in
    put_at_kept c.self.inside.block.0 c.in_ok-block.block.0 bytes new c.args.field.now c.args.value.now place c.self.invariant put
    (ap (λ (b : ℕ × Bytes). b.0) c.in_ok-block.ensures ∙ ap (λ n. n + 1) c.count-count.ensures.count)
    (omega (arith, long, c.self.invariant.counted, c.requires.few)) (omega (arith, long, c.requires.within)) c.requires.field c.requires.value

pub returns-clause-ok : goal.returns-clause-ok
returns-clause-ok c =
    let bytes = c.self.inside.block.1 in
    let new = c.in_ok-block.block.1 in
    let place = c.args.place in
    let put = put_at bytes new c.parted.result.0.now c.parted.result.1.now c.args.field.now c.args.value.now place (ap (λ (b : ℕ × Bytes). b.1) c.in_ok-block.ensures)
    (c.parted.ensures.before ∙ ap (λ (bytes : Bytes). packed (take place (entries_in bytes))) c.pairs.ensures.pairs)
    (c.parted.ensures.after ∙ ap (λ (bytes : Bytes). packed (drop place (entries_in bytes))) c.pairs.ensures.pairs) in
    read_back new (insert (entries_in bytes) place (c.args.field.now, c.args.value.now)) put
    ∙ ap (λ (es : Entries). insert es place (c.args.field.now, c.args.value.now)) c.self.view_is
