use Rattle.std.proofs.Common.{◌≡◌, Some, true, false, rules, w64, to_z, of_z, ap, sym, ◌∙◌}
use Rattle.std.specs.Prelude.{find}
use Rattle.nr_packs.specs.Packed.{Entries, entries_in}
use Rattle.nr_packs.proofs.Reading.{none_in, first_in, shorter}
use Rattle.nr_ordered.specs.Lists.{Item}
use Rattle.nr_zsets.specs.Forms.{items_in, score_in}
use Rattle.nr_zsets.proofs.Walks.{finds, finds_later, finds_none}
use Rattle.nr_zsets.proofs.block.first.Goals as goal

pub returns-then-passes : goal.returns-then-passes
returns-then-passes g c =
    let test = g.T.Test.passing c.args.test.now in
    let item : Item = (c.in-Some.member.now, score_in c.in-Some.score.now) in
    let is = ap (λ (es : Entries). items_in es)
    (first_in c.loop-member.rest.now (c.in-Some.member.now, c.in-Some.score.now, c.in-Some.others.now) (sym c.in-Some.ensures)) in
    let told : c.passes.result ≡ test (c.in-Some.member.now, c.score_in.result) = search (rules, c.passes.ensures) in
    let read : c.score_in.result ≡ score_in c.in-Some.score.now = search (rules, c.score_in.ensures) in
    let own : test item ≡ true = (λ i. let seen : Item = (c.in-Some.member.now, sym read i) in test seen) ∙ sym told ∙ c.if-passes.true in
    let same : to_z w64 (of_z w64 c.score_in-then-passes.result) ≡ score_in c.in-Some.score.now = search (rules, c.score_in-then-passes.ensures) in
    (λ i. let lent : Item = (c.in-Some.member.now, same i) in Some lent)
    ∙ finds test (items_in (entries_in c.loop-member.rest.now)) item (items_in (entries_in c.in-Some.others.now))
    (find test (items_in c.args.pairs.now)) is own c.loop-member.invariant

pub loop-member-smaller : goal.loop-member-smaller
loop-member-smaller g c = shorter c.loop-member.rest.now (c.in-Some.member.now, c.in-Some.score.now, c.in-Some.others.now) (sym c.in-Some.ensures)

pub loop-member-preserved : goal.loop-member-preserved
loop-member-preserved g c =
    let test = g.T.Test.passing c.args.test.now in
    let item : Item = (c.in-Some.member.now, score_in c.in-Some.score.now) in
    let is = ap (λ (es : Entries). items_in es)
    (first_in c.loop-member.rest.now (c.in-Some.member.now, c.in-Some.score.now, c.in-Some.others.now) (sym c.in-Some.ensures)) in
    let told : c.passes.result ≡ test (c.in-Some.member.now, c.score_in.result) = search (rules, c.passes.ensures) in
    let read : c.score_in.result ≡ score_in c.in-Some.score.now = search (rules, c.score_in.ensures) in
    let own : test item ≡ false = (λ i. let seen : Item = (c.in-Some.member.now, sym read i) in test seen) ∙ sym told ∙ c.if-passes.false in
    finds_later test (items_in (entries_in c.loop-member.rest.now)) item (items_in (entries_in c.in-Some.others.now))
    (find test (items_in c.args.pairs.now)) is own c.loop-member.invariant

pub returns : goal.returns
returns g c =
    let none = ap (λ (es : Entries). items_in es) (none_in c.loop-member.rest.now (sym c.in_default.ensures)) in
    finds_none (g.T.Test.passing c.args.test.now) (items_in (entries_in c.loop-member.rest.now)) (find (g.T.Test.passing c.args.test.now) (items_in c.args.pairs.now)) none c.loop-member.invariant
