use Rattle.std.proofs.Common.{◌<◌, ◌≤◌, length, take, subst, arith, le_trans}
use Rattle.std.specs.List.{All}
use Rattle.std.proofs.lemmas.List.{take_all, length-take-le}
use Rattle.std.proofs.lemmas.List.Elements.{All-more, All-weaker, All-map}
use Rattle.nr_packs.specs.Rows.{Row, pair_of, Begins}
use Rattle.nr_packs.proofs.Headed.{begins_less, begins_so}
use Rattle.nr_packs.proofs.heads.front_with.Goals as goal

pub loop-row-preserved : goal.loop-row-preserved
loop-row-preserved c =
    let first = c.args.first.now in
    let within : c.loop-row.row-index < length c.args.rows.now = omega arith in
    record {
      within = le_trans c.common-count.ensures.less c.loop-row.invariant.within;
      begin = All-more (λ (row : Row). Begins (take c.common-count.result first) (pair_of row)) c.args.rows.now c.loop-row.row-index _ within
          (All-weaker (λ (row : Row). Begins (take c.loop-row.count first) (pair_of row)) (λ (row : Row). Begins (take c.common-count.result first) (pair_of row))
          (λ row begins. begins_less c.common-count.result c.loop-row.count first (pair_of row) c.common-count.ensures.less begins) (take c.loop-row.row-index c.args.rows.now)
          c.loop-row.invariant.begin)
          (begins_so c.common-count.result first _ c.common-count.ensures.same);
    }

pub returns-clause-front : goal.returns-clause-front
returns-clause-front c =
    let first = c.args.first.now in
    let end : length c.args.rows.now ≤ c.loop-row.row-index = omega arith in
    record {
      front = take c.loop-row.count first;
      long = length-take-le c.loop-row.count first c.loop-row.invariant.within;
      begin = All-map (Begins (take c.loop-row.count first)) pair_of c.args.rows.now
          (subst (All (λ (row : Row). Begins (take c.loop-row.count first) (pair_of row))) (take_all c.loop-row.row-index c.args.rows.now end) c.loop-row.invariant.begin);
    }
