-- One step more was written.
use Rattle.std.proofs.Common.{ap, ◌∙◌}
use Rattle.nr_entry.specs.Jobs.{connection_of}
use Rattle.nr_service.proofs.Feeding.{left_first, left_then, one_then, others_then, taken_then}
use Rattle.nr_service.proofs.Heard.{heard_then}
use Rattle.nr_service.proofs.writing.write_on.Goals as goal

pub returns-then-next-eq0-clause-served : goal.returns-then-next-eq0-clause-served
returns-then-next-eq0-clause-served g c = one_then _ _ _ _ _ _ _ _ _ _ _ _ c.loop-left.invariant.served c.write_some-next.ensures.served

pub loop-left-preserved : goal.loop-left-preserved
loop-left-preserved g c = record {
  served = one_then _ _ _ _ _ _ _ _ _ _ _ _ c.loop-left.invariant.served c.write_some-next.ensures.served;
  conn = c.write_some-next.ensures.conn ∙ c.loop-left.invariant.conn;
  fell = c.write_some-next.ensures.fell ∙ c.loop-left.invariant.fell;
  heard = heard_then _ _ _ _ _ _ _ c.loop-left.invariant.heard c.write_some-next.ensures.heard;
  others = others_then _ _ _ _ _ (ap connection_of c.loop-left.invariant.conn) c.loop-left.invariant.others c.write_some-next.ensures.others;
  left = left_then (g.A.Backend.kept c.loop-left.answers) (g.A.Backend.kept c.write_some-next.new.answers) _ _ _ _ _
      (ap connection_of c.loop-left.invariant.conn) c.loop-left.invariant.left
      c.write_some-next.ensures.kept c.write_some-next.ensures.left;
  taken = taken_then _ _ _ _ _ (left_first (g.A.Backend.kept c.loop-left.answers) (g.A.Backend.kept c.write_some-next.new.answers) _ _ _ _ _
      (ap connection_of c.loop-left.invariant.conn) c.loop-left.invariant.left c.write_some-next.ensures.kept c.write_some-next.ensures.left)
      c.write_some-next.ensures.most c.loop-left.invariant.taken;
}

pub returns-then-next-eq0-clause-heard : goal.returns-then-next-eq0-clause-heard
returns-then-next-eq0-clause-heard g c = heard_then _ _ _ _ _ _ _ c.loop-left.invariant.heard c.write_some-next.ensures.heard
