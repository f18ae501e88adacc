-- One more may have been accepted.
use Rattle.std.proofs.Common.{◌+◌, arith, refl}
use Rattle.nr_service.proofs.Arrived.{arrives_none, arrives_then, arrives_within, until_then}
use Rattle.nr_service.proofs.Heard.{opens_none, opens_then}
use Rattle.nr_service.proofs.Left.{on_err}
use Rattle.nr_service.proofs.Served.{accepts_none, accepts_then}
use Rattle.nr_service.proofs.accepting.accept_each.Goals as goal

pub loop-init : goal.loop-init
loop-init g c = record { accepts = accepts_none _ _ _ _ _ _ _; arrives = arrives_none _ _ _ _ _ _ _ _ refl; opens = opens_none _ _ }

pub loop-preserved : goal.loop-preserved
loop-preserved g c = record {
  accepts = accepts_then _ _ _ _ _ _ _ _ _ _ _ c.loop.invariant.accepts c.in_ok-more.ensures.ok;
  arrives = arrives_then _ _ _ c.loop.counter 1 (c.loop.counter + 1) _ _ _ _ _ _ _ _ _ _ _ _ (omega arith) c.loop.invariant.arrives
      c.in_ok-more.ensures.arrives;
  opens = opens_then _ _ _ _ c.loop.invariant.opens c.in_ok-more.ensures.heard;
}

pub returns-then-not-more-clause-ok : goal.returns-then-not-more-clause-ok
returns-then-not-more-clause-ok g c = accepts_then _ _ _ _ _ _ _ _ _ _ _ c.loop.invariant.accepts c.in_ok-more.ensures.ok

pub returns-then-not-more-clause-arrives : goal.returns-then-not-more-clause-arrives
returns-then-not-more-clause-arrives g c =
    arrives_then _ _ _ c.loop.counter 1 _ _ _ _ _ _ _ _ _ _ _ _ _ (omega (arith, c.loop-test.true)) c.loop.invariant.arrives
    c.in_ok-more.ensures.arrives

pub returns-clause-arrives : goal.returns-clause-arrives
returns-clause-arrives g c =
    arrives_within _ _ _ c.loop.counter _ _ _ _ _ _ _ _ _ (omega (arith, c.loop-test.false, c.loop.auto.counter-end)) c.loop.invariant.arrives

pub returns-in_err-more-clause-err : goal.returns-in_err-more-clause-err
returns-in_err-more-clause-err g c =
    on_err c.from_residual.result _
    (until_then _ _ _ _ _ _ _ _ _ c.loop.counter _ _ _ _ _ _ _ _ _ _ _ _ (omega (arith, c.loop-test.true)) c.loop.invariant.accepts
    c.loop.invariant.arrives c.in_err-more.ensures.err)

pub returns-then-not-more-clause-heard : goal.returns-then-not-more-clause-heard
returns-then-not-more-clause-heard g c = opens_then _ _ _ _ c.loop.invariant.opens c.in_ok-more.ensures.heard
