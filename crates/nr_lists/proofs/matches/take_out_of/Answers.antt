use Rattle.std.proofs.Common.{◌<◌, ◌∙◌, ap, sym, inl, inr, length, arith}
use Rattle.nr_lists.specs.Matches.{place_from}
use Rattle.nr_lists.proofs.TakenOut.{one_stays, one_goes, one_fewer}
use Rattle.nr_lists.proofs.matches.take_out_of.Goals as goal
use Rattle.nr_lists.proofs.matches.take_out_of.Goals.{else-taken-most-via-then-taken-most+else-is_there, else-taken-most-via-else-taken-most}

pub loop-seen-preserved-then-is_there : goal.loop-seen-preserved-then-is_there
loop-seen-preserved-then-is_there c =
    let within : c.loop-seen.seen < length c.loop-seen.items = omega (arith, c.loop-seen-test.true, c.len.ensures.len) in
    let at = c.place_from-place.ensures.place ∙ ap (λ n. place_from c.args.end n c.loop-seen.seen) c.len-in-loop-seen.ensures.len in
    record {
      thins = one_goes c.args.end c.args.most c.loop-seen.taken c.loop-seen.seen c.place_from-place.result c.args.bytes.now c.args.items.now c.loop-seen.items
          within at c.loop-seen.invariant.thins c.cut.new.self c.if-taken-most.true (sym c.if-is_there.ensures) c.cut.ensures;
      count = one_fewer c.loop-seen.items c.cut.new.self c.place_from-place.result c.loop-seen.taken (length c.args.items.now)
          (omega (arith, c.place_from-place.ensures.bound, c.len-in-loop-seen.ensures.len)) c.cut.ensures c.loop-seen.invariant.count;
    }

pub loop-seen-preserved : goal.loop-seen-preserved
loop-seen-preserved c =
    record {
      thins = one_stays c.args.end c.args.most c.loop-seen.taken c.loop-seen.seen c.place_from-place.result c.args.bytes.now c.args.items.now c.loop-seen.items
          (omega (arith, c.loop-seen-test.true, c.len.ensures.len))
          (c.place_from-place.ensures.place ∙ ap (λ n. place_from c.args.end n c.loop-seen.seen) c.len-in-loop-seen.ensures.len) c.loop-seen.invariant.thins
          (elim c.else-taken-most.branch [
            | else-taken-most-via-then-taken-most+else-is_there w ↦ inr (sym w.is_there.ensures ∙ w.if-is_there.false)
            | else-taken-most-via-else-taken-most w ↦ inl w.if-taken-most.false
          ]);
      count = c.loop-seen.invariant.count;
    }
