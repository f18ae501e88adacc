use Rattle.std.proofs.Common.{arith, rules}
use Rattle.nr_glob.proofs.Walking.{walked_on, walked_to_star, walked_whole, walked_less}
use Rattle.nr_glob.proofs.walk_segment.Goals as goal

pub returns-then-first-eq42-clause-walk : goal.returns-then-first-eq42-clause-walk
returns-then-first-eq42-clause-walk c =
    walked_to_star c.args.pattern.now c.args.text.now c.loop-rest.rest.now c.loop-rest.left.now c.loop-rest.invariant.walked
    c.in-len1-up.len_at_least c.if-first-eq42.true

pub loop-rest-preserved : goal.loop-rest-preserved
loop-rest-preserved c = record {
  walked = walked_on _ _ _ _ _ _ _ c.loop-rest.invariant.walked c.in-len1-up.len_at_least c.first_single.ensures.part c.in-Some.ensures.step;
  less_pattern = omega arith;
  less_text = omega (arith, c.in-Some.ensures.shorter);
}

pub returns-then-is_empty-clause-walk : goal.returns-then-is_empty-clause-walk
returns-then-is_empty-clause-walk c =
    walked_whole c.args.pattern.now c.args.text.now c.loop-rest.rest.now c.loop-rest.left.now c.loop-rest.invariant.walked c.in_default.len_below (search rules)

pub returns-else-is_empty-clause-walk : goal.returns-else-is_empty-clause-walk
returns-else-is_empty-clause-walk c =
    walked_less c.args.pattern.now c.args.text.now c.loop-rest.rest.now c.loop-rest.left.now c.loop-rest.invariant.walked c.in_default.len_below (search rules)
