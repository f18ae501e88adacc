use Rattle.std.proofs.Common.{◌≡◌, ◌∷◌, ◌++◌, [], ap, ◌∙◌, arith, rules, map, ◌<◌, w64, to_z, of_z}
use Rattle.std.proofs.lemmas.List.{map-append}
use Rattle.nr_ordered.specs.Lists.{Item, part, shown}
use Rattle.nr_zsets.specs.Forms.{items_in}
use Rattle.nr_zsets.proofs.Walks.{part_passes, part_lends}
use Rattle.nr_zsets.proofs.block.lend.Goals as goal

pub loop-member-preserved-then-passed-gt0 : goal.loop-member-preserved-then-passed-gt0
loop-member-preserved-then-passed-gt0 c =
    let item : Item = (c.in-Some.member.now, c.in-Some.score) in
    let more : 0 < c.loop-member.left = omega (arith, c.if-left-eq0.false) in
    part_passes c.loop-member.member-iterator item c.next.new.self c.loop-member.passed c.loop-member.left (map shown c.loop-member.lent.items)
    (part c.args.from c.args.to (items_in c.args.pairs.now)) c.in-Some.ensures.steps more c.if-passed-gt0.true c.loop-member.invariant

pub loop-member-preserved : goal.loop-member-preserved
loop-member-preserved c =
    let item : Item = (c.in-Some.member.now, c.in-Some.score) in
    let more : 0 < c.loop-member.left = omega (arith, c.if-left-eq0.false) in
    let same : to_z w64 (of_z w64 c.in-Some.score) ≡ c.in-Some.score = search rules in
    part_lends c.loop-member.member-iterator item c.next.new.self c.loop-member.passed c.loop-member.left (map shown c.loop-member.lent.items)
    (map shown c.push.new.self.items) (part c.args.from c.args.to (items_in c.args.pairs.now)) c.in-Some.ensures.steps more c.if-passed-gt0.false
    (ap (map shown) c.in_ok-push.ensures.items ∙ map-append shown c.loop-member.lent.items _
    ∙ (λ i. let lent : Item = (c.in-Some.member.now, same i) in map shown c.loop-member.lent.items ++ lent ∷ [])) c.loop-member.invariant
