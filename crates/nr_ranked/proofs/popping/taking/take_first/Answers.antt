use Rattle.std.proofs.Common.{rules, ◌≡◌, ◌+◌, ◌++◌, ℤ, Option, to_z, of_z, w64, map, ap, sym, ◌∙◌, subst, arith}
use Rattle.std.specs.Prelude.{IfSome, IfNone}
use Rattle.std.specs.Option.{option_to_list}
use Rattle.std.specs.FinMap as finmap
use Rattle.nr_model.specs.SortedSets.{Scored, ranked, told_in}
use Rattle.nr_model.specs.Commands.SortedSets.{with_score}
use Rattle.nr_resp.specs.Seen.{reply_of}
use Rattle.nr_ranked.proofs.Taken.{IsTaken, one_taken, one_is_left, emptied}
use Rattle.nr_ranked.proofs.popping.taking.take_first.Goals as goal

pub returns-in_default-clause-replies : goal.returns-in_default-clause-replies
returns-in_default-clause-replies c =
    let some = one_is_left c.loop.counter c.args.count c.args.direction c.args.zset.now c.loop.zset (map reply_of c.loop.replies.items) c.loop-test.true c.requires.within c.loop.invariant in
    let none = subst (λ (popped : Option Scored). IfNone popped (c.loop.zset ≡ finmap.empty)) c.in_default.is c.in_ok-popped.ensures.none in
    absurd (omega (arith, some, emptied c.loop.zset none))

pub returns-in_default-clause-left : goal.returns-in_default-clause-left
returns-in_default-clause-left c =
    let some = one_is_left c.loop.counter c.args.count c.args.direction c.args.zset.now c.loop.zset (map reply_of c.loop.replies.items) c.loop-test.true c.requires.within c.loop.invariant in
    let none = subst (λ (popped : Option Scored). IfNone popped (c.loop.zset ≡ finmap.empty)) c.in_default.is c.in_ok-popped.ensures.none in
    absurd (omega (arith, some, emptied c.loop.zset none))

pub loop-preserved : goal.loop-preserved
loop-preserved c =
    let same : to_z w64 (of_z w64 c.in-Some.score) ≡ c.in-Some.score = search rules in
    let told = c.in_ok-popped.ensures.told
    ∙ ap (λ (popped : Option Scored). option_to_list popped ++ told_in c.args.direction (ranked c.pop_first.new.self)) c.in-Some.is in
    let removed = subst (λ (popped : Option Scored). IfSome popped (λ item. c.pop_first.new.self ≡ finmap.remove c.loop.zset item.0)) c.in-Some.is
    c.in_ok-popped.ensures.removed in
    rw c.in_ok-push_scored.ensures
    (subst (λ (score : ℤ). IsTaken (c.loop.counter + 1) c.args.direction c.args.zset.now c.pop_first.new.self (map reply_of c.loop.replies.items ++ with_score (c.in-Some.member, score))) (sym same)
    (one_taken c.loop.counter c.args.direction c.args.zset.now c.loop.zset c.pop_first.new.self (map reply_of c.loop.replies.items) (c.in-Some.member, c.in-Some.score)
    told removed c.loop.invariant))
