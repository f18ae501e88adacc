use Rattle.std.proofs.Common.{◌∙◌, ap, sym, inl, inr, arith}
use Rattle.nr_lists.specs.Matches.{place_from}
use Rattle.nr_lists.proofs.TakenOut.{one_stays, one_goes, all_thinned}
use Rattle.nr_lists.proofs.matches.thinned.Goals as goal
use Rattle.nr_lists.proofs.matches.thinned.Goals.{else-taken-most-via-then-taken-most+else-is_at, else-taken-most-via-else-taken-most}

pub loop-seen-preserved-then-is_at : goal.loop-seen-preserved-then-is_at
loop-seen-preserved-then-is_at c =
    one_goes c.args.end c.args.most c.loop-seen.taken c.loop-seen.seen c.place_from-place.result c.args.bytes.now c.args.block c.loop-seen.block
    (omega (arith, c.loop-seen-test.true, c.len.ensures.len))
    (c.place_from-place.ensures.place ∙ ap (λ n. place_from c.args.end n c.loop-seen.seen) c.len-in-loop-seen.ensures.len) c.loop-seen.invariant
    c.cut.new.self c.if-taken-most.true (sym c.if-is_at.ensures) c.cut.ensures

pub loop-seen-preserved : goal.loop-seen-preserved
loop-seen-preserved c =
    one_stays c.args.end c.args.most c.loop-seen.taken c.loop-seen.seen c.place_from-place.result c.args.bytes.now c.args.block c.loop-seen.block
    (omega (arith, c.loop-seen-test.true, c.len.ensures.len))
    (c.place_from-place.ensures.place ∙ ap (λ n. place_from c.args.end n c.loop-seen.seen) c.len-in-loop-seen.ensures.len) c.loop-seen.invariant
    (elim c.else-taken-most.branch [
      | else-taken-most-via-then-taken-most+else-is_at w ↦ inr (sym w.is_at.ensures ∙ w.if-is_at.false)
      | else-taken-most-via-else-taken-most w ↦ inl w.if-taken-most.false
    ])

pub returns : goal.returns
returns c =
    all_thinned c.args.end c.args.most c.loop-seen.taken c.loop-seen.seen c.args.bytes.now c.args.block c.loop-seen.block
    (omega (arith, c.loop-seen-test.false, c.len.ensures.len)) (omega (arith, c.len.ensures.len, c.len.ensures.some)) c.loop-seen.invariant
