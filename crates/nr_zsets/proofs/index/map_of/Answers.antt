use Rattle.std.proofs.Common.{◌-◌, arith}
use Rattle.nr_zsets.specs.Forms.{items_of}
use Rattle.nr_zsets.specs.Scores.{scores_of}
use Rattle.nr_zsets.proofs.Indexed.{mapped_more}
use Rattle.nr_zsets.proofs.index.map_of.Goals as goal

pub loop-place-preserved : goal.loop-place-preserved
loop-place-preserved c =
    mapped_more (items_of c.args.form.now) (c.loop-place.place - 1) c.loop-place.place (scores_of c.loop-place.scores.entries) _
    c.in_ok-insert_item.ensures (omega (arith, c.loop-place-test.true)) c.loop-place.invariant
