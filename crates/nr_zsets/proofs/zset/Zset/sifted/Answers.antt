use Rattle.std.proofs.Common.{◌+◌, ◌++◌, [], ◌∷◌, take, drop, map, ap, sym, ◌∙◌, arith}
use Rattle.std.proofs.lemmas.List.{map-append}
use Rattle.nr_model.specs.SortedSets.{ranked, told_in, between}
use Rattle.nr_zbounds.specs.Ranges.{seen_bounds}
use Rattle.nr_ordered.specs.Lists.{shown}
use Rattle.nr_zsets.specs.Scores.{held_at}
use Rattle.nr_ordered.proofs.Parts.{length-told}
use Rattle.nr_zsets.proofs.Ranges.{sift_begins, sift_skips, sift_finds, sift_passes, sift_lends, sift_ends}
use Rattle.nr_zsets.proofs.Ranked.{length-ranked}
use Rattle.nr_zsets.proofs.zset.Zset.sifted.Goals as goal

pub loop-place-init : goal.loop-place-init
loop-place-init c =
    ap (λ items. map shown items ++ take c.limited-left.result (drop c.args.offset (between (seen_bounds c.args.bounds.now) (told_in c.args.direction (ranked c.args.self.now)))))
    c.new-lent.ensures.items
    ∙ sift_begins c.args.direction (seen_bounds c.args.bounds.now) c.args.offset c.limited-left.result c.len-len.result c.args.count (ranked c.args.self.now)
    (c.len-len.ensures.len ∙ sym (length-ranked c.args.self.now)) c.limited-left.ensures.limited

pub loop-place-preserved-in_default : goal.loop-place-preserved-in_default
loop-place-preserved-in_default c =
    let bounds = seen_bounds c.args.bounds.now in
    let xs = ranked c.args.self.now in
    let none = c.in_default.ensures ∙ ap (λ k. held_at bounds k xs) c.told.ensures.place in
    ap (λ zs. map shown c.loop-place.lent.items ++ take c.loop-place.left (drop c.loop-place.passed zs))
    (sift_skips c.args.direction bounds xs c.loop-place.place c.len-len.result (c.len-len.ensures.len ∙ sym (length-ranked c.args.self.now))
    c.loop-place-test.true none)
    ∙ c.loop-place.invariant

pub loop-place-preserved-then-passed-gt0 : goal.loop-place-preserved-then-passed-gt0
loop-place-preserved-then-passed-gt0 c =
    let bounds = seen_bounds c.args.bounds.now in
    let xs = ranked c.args.self.now in
    let found = c.in-Some.ensures ∙ ap (λ k. held_at bounds k xs) c.told.ensures.place in
    sift_passes (map shown c.loop-place.lent.items) c.loop-place.left c.loop-place.passed (shown c.in-Some.item)
    (between bounds (drop (c.loop-place.place + 1) (told_in c.args.direction xs))) (between bounds (drop c.loop-place.place (told_in c.args.direction xs))) _
    c.if-passed-gt0.true
    (sift_finds c.args.direction bounds xs c.loop-place.place c.len-len.result (c.len-len.ensures.len ∙ sym (length-ranked c.args.self.now))
    c.loop-place-test.true (shown c.in-Some.item) found)
    c.loop-place.invariant

pub loop-place-preserved : goal.loop-place-preserved
loop-place-preserved c =
    let bounds = seen_bounds c.args.bounds.now in
    let xs = ranked c.args.self.now in
    let found = c.in-Some.ensures ∙ ap (λ k. held_at bounds k xs) c.told.ensures.place in
    let more = ap (map shown) c.in_ok-push.ensures.items ∙ map-append shown c.loop-place.lent.items (c.in-Some.item ∷ []) in
    sift_lends (map shown c.loop-place.lent.items) (map shown c.push.new.self.items) c.loop-place.left c.loop-place.passed (shown c.in-Some.item)
    (between bounds (drop (c.loop-place.place + 1) (told_in c.args.direction xs))) (between bounds (drop c.loop-place.place (told_in c.args.direction xs))) _
    c.if-passed-gt0.false (omega (arith, c.if-left-eq0.false))
    (sift_finds c.args.direction bounds xs c.loop-place.place c.len-len.result (c.len-len.ensures.len ∙ sym (length-ranked c.args.self.now))
    c.loop-place-test.true (shown c.in-Some.item) found)
    more c.loop-place.invariant

pub returns : goal.returns
returns c =
    let ys = told_in c.args.direction (ranked c.args.self.now) in
    sift_ends (map shown c.loop-place.lent.items) c.loop-place.left c.loop-place.passed c.loop-place.place (seen_bounds c.args.bounds.now) ys _
    (omega (arith, c.loop-place-test.false, length-told c.args.direction (ranked c.args.self.now), length-ranked c.args.self.now, c.len-len.ensures.len))
    c.loop-place.invariant
