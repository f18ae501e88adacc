use Rattle.std.proofs.Common.{◌≡◌, false, rules, map}
use Rattle.std.specs.Prelude.{IfErr}
use Rattle.nr_model.specs.Commands.Shape.{refusal}
use Rattle.nr_model.specs.declared.refused.Refused.TheVariants.{ScoreRange}
use Rattle.nr_resp.specs.Failures.{IfRefused}
use Rattle.nr_resp.proofs.Refusals.{refused_weaker}
use Rattle.nr_ranked.specs.Storing.{scores_in}
use Rattle.nr_ranked.specs.Sums.{kept_by, is_right}
use Rattle.nr_ranked.proofs.StoringSums.{built_end, right_end, wrong_end}
use Rattle.nr_ranked.proofs.storing.joining.built.Goals as goal

pub returns-in_err-build_one-clause-refused : goal.returns-in_err-build_one-clause-refused
returns-in_err-build_one-clause-refused c =
    let keeps = kept_by c.args.joining (map scores_in c.args.held.now) in
    let wrong : IfErr c.from_residual.result (λ failure. IfRefused failure (λ error.
    (error ≡ refusal ScoreRange) × (is_right keeps (c.in-Some.member.now.now, c.in-Some.sum.now) ≡ false))) = search rules in
    refused_weaker c.from_residual.result _ _
    (λ error is. (
      is.0,
      wrong_end keeps c.args.sums.now.entries c.loop-member.member-iterator c.next.new.self (c.in-Some.member.now, c.in-Some.sum.now) c.in-Some.ensures.steps
          c.into_iter-member-iterator.ensures.into_iter_gives.5 c.loop-member.invariant.right is.1,
    )) wrong

pub returns-clause-built : goal.returns-clause-built
returns-clause-built c =
    built_end (kept_by c.args.joining (map scores_in c.args.held.now)) c.args.sums.now.entries c.loop-member.member-iterator c.loop-member.zset c.in-None.ensures.steps.0
    c.into_iter-member-iterator.ensures.into_iter_gives.5 c.loop-member.invariant.built

pub returns-clause-scores : goal.returns-clause-scores
returns-clause-scores c =
    let keeps = kept_by c.args.joining (map scores_in c.args.held.now) in
    let rises = c.into_iter-member-iterator.ensures.into_iter_gives.5 in
    right_end keeps c.args.sums.now.entries c.loop-member.member-iterator c.loop-member.zset c.in-None.ensures.steps.0 rises
    (built_end keeps c.args.sums.now.entries c.loop-member.member-iterator c.loop-member.zset c.in-None.ensures.steps.0 rises c.loop-member.invariant.built)
    c.loop-member.invariant.right
