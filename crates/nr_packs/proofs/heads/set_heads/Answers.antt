use Rattle.std.proofs.Common.{◌∙◌, ◌<◌, length, arith}
use Rattle.std.proofs.lemmas.List.Elements.{AllWithin-more_set}
use Rattle.nr_packs.specs.Rows.{IsHeaded}
use Rattle.nr_packs.proofs.Headed.{pairs_numbered}
use Rattle.nr_packs.proofs.heads.set_heads.Goals as goal

pub loop-row-preserved : goal.loop-row-preserved
loop-row-preserved c =
    let within : c.loop-row.row-index < length c.loop-row.rows = omega arith in
    record {
      same = pairs_numbered c.loop-row.rows c.loop-row.row-index c.head_of-row.result _ ∙ c.loop-row.invariant.same;
      heads = AllWithin-more_set c.loop-row.rows c.loop-row.row-index _ within (IsHeaded c.args.skip) c.loop-row.invariant.heads
          (record { bytes = c.head_of-row.ensures.bytes; number = c.head_of-row.ensures.head });
    }
