use Rattle.std.proofs.Common.{◌≤◌, length, ap, sym, ◌∙◌, arith, map}
use Rattle.std.proofs.lemmas.List.{length-map, map_push}
use Rattle.nr_model.specs.Sets.{listed}
use Rattle.nr_sets.proofs.Chosen.{enough_chosen, all_chosen, one_chosen, within_limit}
use Rattle.std.specs.Map.Iter.{deref}
use Rattle.nr_sets.proofs.several.common.Goals as goal

pub returns-then-len-limit : goal.returns-then-len-limit
returns-then-len-limit c =
    let all = c.in_ok-member-items in
    let long : length (listed c.args.walked.now) ≤ c.len.result = omega (arith, ap length all.ensures.members, all.ensures.len, c.len.ensures.len) in
    enough_chosen _ c.limit-limit.result _ c.loop-member.member-iterator _
    (omega (arith, length-map c.loop-member.members.items deref, c.loop-member.members.ok, c.len-in-loop-member.ensures, c.if-len-limit.true))
    c.loop-member.invariant
    ∙ sym (c.limit-limit.ensures _ (within_limit _ (listed c.args.walked.now) c.len.result long))

pub loop-member-preserved : goal.loop-member-preserved
loop-member-preserved c =
    one_chosen _ c.limit-limit.result _ _ c.loop-member.member-iterator c.in-Some.member.now c.next.new.self _ c.in-Some.ensures.steps
    (sym c.in_ok-both_have.ensures ∙ c.if-not-branch.false)
    (omega (arith, length-map c.loop-member.members.items deref, c.loop-member.members.ok, c.len-in-loop-member.ensures, c.if-len-limit.false, c.loop-member.invariant.few))
    (ap (map deref) c.in_ok-push.ensures.items ∙ map_push deref c.loop-member.members.items c.in-Some.member) c.loop-member.invariant

pub returns : goal.returns
returns c =
    let all = c.in_ok-member-items in
    let long : length (listed c.args.walked.now) ≤ c.len.result = omega (arith, ap length all.ensures.members, all.ensures.len, c.len.ensures.len) in
    all_chosen _ c.limit-limit.result _ c.loop-member.member-iterator _ c.in-None.ensures.steps.0 c.loop-member.invariant
    ∙ sym (c.limit-limit.ensures _ (within_limit _ (listed c.args.walked.now) c.len.result long))
