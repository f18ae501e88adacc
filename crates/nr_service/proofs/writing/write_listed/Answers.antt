-- One more was served.
use Rattle.std.proofs.Common.{List, arith, refl, sym, ◌∙◌, subst}
use Rattle.std.specs.List.{IsDistinct}
use Rattle.nr_model.specs.Items.{Connection, same_connection}
use Rattle.nr_service.proofs.Heard.{all_as_before, all_then}
use Rattle.nr_service.proofs.Served.{serves_none, serves_then}
use Rattle.nr_service.proofs.Sending.{sent_more}
use Rattle.nr_service.proofs.writing.write_listed.Goals as goal

pub loop-visit-init : goal.loop-visit-init
loop-visit-init g c = record {
  served = serves_none _ _ _ _ _ _ _ _;
  same = refl;
  heard = all_as_before _ _;
  all = refl;
  sent = λ all rests apart k client low high. absurd (omega arith);
}

pub loop-visit-preserved : goal.loop-visit-preserved
loop-visit-preserved g c = record {
  served = serves_then _ _ _ _ _ _ _ _ _ _ _ _ c.loop-visit.invariant.served c.write_at.ensures.served;
  same = c.write_at.ensures.same ∙ c.loop-visit.invariant.same;
  heard = all_then _ _ _ _ c.loop-visit.invariant.heard c.write_at.ensures.heard;
  all = c.write_at.ensures.all ∙ c.loop-visit.invariant.all;
  sent = λ all rests apart.
      let distinct = subst (λ (l : List Connection). IsDistinct same_connection l) (sym c.loop-visit.invariant.same) apart in
      sent_more _ _ c.loop-visit.visit _ _ _ _ _ _ (c.place-place.ensures (c.loop-visit.invariant.all ∙ all))
      (omega (arith, c.loop-visit-test.true, c.count-visit-end.ensures all, c.loop-visit.auto.clients)) rests distinct c.write_at.ensures.sent
      (c.loop-visit.invariant.sent all (c.write_at.ensures.sent.calm rests) apart);
}

pub returns-clause-sent : goal.returns-clause-sent
returns-clause-sent g c = λ all rests apart k client high.
    c.loop-visit.invariant.sent all rests (subst (λ (l : List Connection). IsDistinct same_connection l) c.loop-visit.invariant.same apart) k client (omega arith)
    (omega (arith, high, c.loop-visit-test.false, c.count-visit-end.ensures all, c.loop-visit.auto.clients))
