use Rattle.std.proofs.Common.{◌≡◌, ap, ◌∙◌, rules, w64, to_z, of_z}
use Rattle.std.specs.List.{insert}
use Rattle.nr_model.specs.Bytes.{Bytes}
use Rattle.nr_packs.specs.Packed.{Entries}
use Rattle.nr_ordered.specs.Lists.{Item}
use Rattle.nr_zsets.specs.Forms.{item_of, items_in, score_in}
use Rattle.nr_zsets.proofs.Walks.{map-insert}
use Rattle.nr_zsets.proofs.block.put.Goals as goal

pub returns-clause-put : goal.returns-clause-put
returns-clause-put c =
    let score = ap (λ (bytes : Bytes). score_in bytes) c.split_at.ensures.back ∙ c.spell-start.ensures.spelled in
    let same : to_z w64 (of_z w64 c.args.score) ≡ c.args.score = search rules in
    let put : c.insert_at.new.self ≡ insert c.args.pairs.now c.args.place (c.args.member.now, c.split_at.result.1.now) = search (rules, c.in_ok-insert_at.ensures.ok) in
    ap (λ (es : Entries). items_in es) put
    ∙ map-insert item_of c.args.pairs.now c.args.place (c.args.member.now, c.split_at.result.1.now)
    ∙ (λ i. let item : Item = (c.args.member.now, (score ∙ same) i) in insert (items_in c.args.pairs.now) c.args.place item)
