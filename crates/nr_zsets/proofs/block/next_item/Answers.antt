use Rattle.std.proofs.Common.{◌≡◌, ◌∷◌, rules, w64, to_z, of_z, ap, sym, ◌∙◌}
use Rattle.nr_packs.specs.Packed.{Entries, entries_in}
use Rattle.nr_packs.proofs.Reading.{none_in, first_in}
use Rattle.nr_ordered.specs.Lists.{Item}
use Rattle.nr_zsets.specs.Forms.{items_in, score_in}
use Rattle.nr_zsets.proofs.block.next_item.Goals as goal

pub returns-in_default : goal.returns-in_default
returns-in_default c =
    let none = ap (λ (es : Entries). items_in es) (none_in c.args.bytes.now.now (sym c.in_default.ensures)) in
    (none, none)

pub returns : goal.returns
returns c =
    let others = items_in (entries_in c.in-Some.others.now) in
    let is : to_z w64 (of_z w64 c.score_in.result) ≡ score_in c.in-Some.score.now = search (rules, c.score_in.ensures) in
    ap (λ (es : Entries). items_in es)
    (first_in c.args.bytes.now.now (c.in-Some.member.now, c.in-Some.score.now, c.in-Some.others.now) (sym c.in-Some.ensures))
    ∙ (λ i. let item : Item = (c.in-Some.member.now, sym is i) in item ∷ others)
