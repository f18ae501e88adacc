-- One more was served.
use Rattle.std.proofs.Common.{◌≡◌, Bool, true, false, [], refl, sym, ◌∙◌, subst, true≢false}
use Rattle.std.specs.Bool.{OnTrue}
use Rattle.nr_service.specs.Readings.{IsFedAmong}
use Rattle.nr_service.specs.Steps.{Serves}
use Rattle.nr_service.proofs.Left.{leaves_then, leaves_weaker, on_err}
use Rattle.nr_service.proofs.Heard.{all_as_before, all_then}
use Rattle.nr_service.proofs.Served.{serves_none, serves_then, serves_weaker}
use Rattle.nr_service.proofs.reading.read_listed.Goals as goal

pub loop-visit-init : goal.loop-visit-init
loop-visit-init g c = record { served = serves_none _ _ _ _ _ _ _ _; same = refl; heard = all_as_before _ _; all = refl }

pub loop-visit-preserved : goal.loop-visit-preserved
loop-visit-preserved g c = record {
  served = serves_then _ _ _ _ _ _ _ _ _ _ _ _ c.loop-visit.invariant.served
      (subst (λ (all : _). Serves g.S.Stream.received g.S.Stream.sent g.S.Stream.course g.A.Backend.is_past g.A.Backend.kept (IsFedAmong c.args.moment all) [] c.loop-visit.answers c.read_at.new.answers c.loop-visit.clients c.read_at.new.clients)
      c.loop-visit.invariant.same c.in_ok-read_at.ensures.ok);
  same = c.read_at.ensures.same ∙ c.loop-visit.invariant.same;
  heard = all_then _ _ _ _ c.loop-visit.invariant.heard c.read_at.ensures.heard;
  all = c.read_at.ensures.all ∙ c.loop-visit.invariant.all;
}

pub returns-in_err-read_at-clause-err : goal.returns-in_err-read_at-clause-err
returns-in_err-read_at-clause-err g c =
    on_err c.from_residual.result _
    (leaves_then _ _ _ _ _ _ _ _ _ _ _ _ _ c.loop-visit.invariant.served
    (leaves_weaker _ _ _ _ _ _ _ _ _ _ _ _ (λ feeding never. absurd never) c.in_err-read_at.ensures.err))

pub returns-in_err-read_at-clause-same : goal.returns-in_err-read_at-clause-same
returns-in_err-read_at-clause-same g c = c.read_at.ensures.same ∙ c.loop-visit.invariant.same

pub returns-in_err-read_at-clause-heard : goal.returns-in_err-read_at-clause-heard
returns-in_err-read_at-clause-heard g c = all_then _ _ _ _ c.loop-visit.invariant.heard c.read_at.ensures.heard

pub returns-then-not-may_read-clause-heard : goal.returns-then-not-may_read-clause-heard
returns-then-not-may_read-clause-heard g c = all_as_before _ _

pub returns-then-not-may_read-clause-ok : goal.returns-then-not-may_read-clause-ok
returns-then-not-may_read-clause-ok g c = serves_none _ _ _ _ _ _ _ _

pub returns-clause-ok : goal.returns-clause-ok
returns-clause-ok g c =
    serves_weaker _ _ _ _ _ _ _ _ _ _ _ (λ feeding fed. (rests _ _ c.if-not-may_read.false c.may_read.ensures, fed)) c.loop-visit.invariant.served
  where
    rests : (result : Bool) (P : Type 0) → result ≡ true → OnTrue result P → P
    rests true P is p = p
    rests false P is p = absurd (true≢false (sym is))
