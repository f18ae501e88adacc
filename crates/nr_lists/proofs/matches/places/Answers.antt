use Rattle.std.proofs.Common.{◌≡◌, ◌<◌, ◌+◌, length, take, ap, sym, ◌∙◌, rules, arith}
use Rattle.std.specs.List.{enumerate_from}
use Rattle.nr_model.specs.Lists.{seen_from, end_of, passed_over}
use Rattle.nr_lists.specs.Matches.{limit_of, place_from}
use Rattle.nr_lists.proofs.Placed.{Finds, found_in, enough_found, all_found, other_found, one_passed, one_found, next_looked_at, all_places, looked_at_all, item_seen, seen_less, none_seen}
use Rattle.nr_lists.proofs.matches.places.Goals as goal
use Rattle.nr_lists.proofs.matches.places.Goals.{then-is+then-to_pass-gt0, then-is+else-to_pass-gt0+in_ok-push, else-is}

pub returns-then-len-count : goal.returns-then-len-count
returns-then-len-count c =
    let items = c.args.walk in
    let long : c.args.len ≡ length items = c.requires in
    let end = c.end_of-end.result in
    let end_is : end ≡ end_of c.args.rank = search rules in
    let pass_is : c.passed_over-to_pass.result ≡ passed_over c.args.rank = search rules in
    let all = take c.limit-looked_at.result (seen_from end (enumerate_from 0 items)) in
    enough_found c.args.bytes.now c.limit-count.result c.loop-seen.to_pass c.loop-seen.seen all c.loop-seen.places.items
    (found_in c.args.bytes.now c.limit-count.result c.passed_over-to_pass.result all)
    (omega (arith, c.if-len-count.true, c.len.ensures, c.loop-seen.places.ok)) c.loop-seen.invariant.finds
    ∙ all_places c.args.rank c.args.count c.args.most c.args.bytes.now items end c.passed_over-to_pass.result c.limit-count.result c.limit-looked_at.result
    end_is pass_is (c.limit-count.ensures.limit ∙ ap (limit_of c.args.count) long) (c.limit-looked_at.ensures.limit ∙ ap (limit_of c.args.most) long)

pub returns : goal.returns
returns c =
    let items = c.args.walk in
    let long : c.args.len ≡ length items = c.requires in
    let end = c.end_of-end.result in
    let end_is : end ≡ end_of c.args.rank = search rules in
    let pass_is : c.passed_over-to_pass.result ≡ passed_over c.args.rank = search rules in
    let all = take c.limit-looked_at.result (seen_from end (enumerate_from 0 items)) in
    all_found c.args.bytes.now c.limit-count.result c.loop-seen.to_pass c.loop-seen.seen all c.loop-seen.places.items
    (found_in c.args.bytes.now c.limit-count.result c.passed_over-to_pass.result all)
    (omega (arith, c.loop-seen-test.false, looked_at_all end items c.limit-looked_at.result (omega (arith, c.limit-looked_at.ensures.bound, long)))) c.loop-seen.invariant.finds
    ∙ all_places c.args.rank c.args.count c.args.most c.args.bytes.now items end c.passed_over-to_pass.result c.limit-count.result c.limit-looked_at.result
    end_is pass_is (c.limit-count.ensures.limit ∙ ap (limit_of c.args.count) long) (c.limit-looked_at.ensures.limit ∙ ap (limit_of c.args.most) long)

pub loop-seen-preserved : goal.loop-seen-preserved
loop-seen-preserved c =
    let items = c.args.walk in
    let bytes = c.args.bytes.now in
    let end = c.end_of-end.result in
    let looked_at = c.limit-looked_at.result in
    let all = take looked_at (seen_from end (enumerate_from 0 items)) in
    let whole = found_in bytes c.limit-count.result c.passed_over-to_pass.result all in
    let long : c.args.len ≡ length items = c.requires in
    let place = place_from end (length items) c.loop-seen.seen in
    let read = c.in-Some.item.now in
    let within : c.loop-seen.seen < length items = omega (arith, c.loop-seen-test.true, c.limit-looked_at.ensures.bound, long) in
    let more = seen_from end c.take.new.self in
    let next = next_looked_at end items looked_at c.loop-seen.seen read (omega (arith, c.loop-seen-test.true)) (omega (arith, c.limit-looked_at.ensures.bound, long))
    (item_seen end items more c.loop-seen.seen read within (sym c.loop-seen.invariant.left ∙ c.in-Some.ensures.item)) in
    let left = seen_less end items c.loop-seen.walk more c.loop-seen.seen read c.loop-seen.invariant.left c.in-Some.ensures.item in
    let finds : Finds bytes c.limit-count.result c.if-is.to_pass (c.loop-seen.seen + 1) all c.if-is.places.items whole =
    elim c.if-is.branch [
      | then-is+then-to_pass-gt0 w ↦ rw (w.to_pass-is, w.places-is)
          (one_passed bytes c.loop-seen.seen place read all next c.limit-count.result c.loop-seen.to_pass c.loop-seen.places.items whole c.loop-seen.invariant.finds
          (sym c.is.ensures ∙ w.if-is.true) (omega (arith, w.if-to_pass-gt0.true)))
      | then-is+else-to_pass-gt0+in_ok-push w ↦ rw (w.to_pass-is, w.places-is, w.in_ok-push.ensures.items, w.place_from.ensures.place ∙ ap (λ n. place_from end n c.loop-seen.seen) long)
          (one_found bytes c.loop-seen.seen place read all next c.limit-count.result c.loop-seen.to_pass c.loop-seen.places.items whole c.loop-seen.invariant.finds
          (sym c.is.ensures ∙ w.if-is.true) (omega (arith, w.if-to_pass-gt0.false))
          (omega (arith, c.loop-seen.invariant.finds.few, c.if-len-count.false, c.len.ensures, c.loop-seen.places.ok)))
      | else-is w ↦ rw (w.to_pass-is, w.places-is)
          (other_found bytes c.loop-seen.seen place read all next c.limit-count.result c.loop-seen.to_pass c.loop-seen.places.items whole c.loop-seen.invariant.finds
          (sym c.is.ensures ∙ w.if-is.false))
    ] in
    record { finds = finds; left = left }

pub returns-in_default : goal.returns-in_default
returns-in_default c =
    let items = c.args.walk in
    let ended = none_seen c.end_of-end.result items c.loop-seen.walk c.loop-seen.seen c.in_default.ensures.none c.loop-seen.invariant.left in
    absurd (omega (arith, ended, c.loop-seen-test.true, c.limit-looked_at.ensures.bound, c.requires))
