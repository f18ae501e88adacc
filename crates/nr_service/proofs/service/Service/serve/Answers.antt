-- One turn more, and how it ends.
use Rattle.std.proofs.Common.{arith, refl}
use Rattle.nr_service.proofs.Chained.{none_taken, one_held, one_taken, takes_none_left, takes_none_told, takes_one_more}
use Rattle.nr_service.proofs.service.Service.serve.Goals as goal

pub loop-asked-init : goal.loop-asked-init
loop-asked-init g c = record { turns = omega arith; taken = none_taken _ _ _ _ _ refl; serving = λ first setup s. s }

pub loop-asked-preserved-in-Hold : goal.loop-asked-preserved-in-Hold
loop-asked-preserved-in-Hold g c = record {
  turns = let low = c.loop-asked.invariant.turns in omega arith;
  taken = one_held _ _ _ _ _ _ _ _ _ c.loop-asked.invariant.taken refl c.in-Hold.ensures;
  serving = c.loop-asked.invariant.serving;
}

pub loop-asked-preserved : goal.loop-asked-preserved
loop-asked-preserved g c = record {
  turns = let low = c.loop-asked.invariant.turns in omega arith;
  taken = one_taken _ _ g.A.Backend.falls _ _ _ _ _ _ _ _ c.loop-asked.invariant.taken refl c.in-On.ensures c.in_default.ensures.turned
      c.in_default.ensures.goes_on;
  serving = λ first setup s. c.in_default.ensures.ok first setup (c.loop-asked.invariant.serving first setup s);
}

pub returns-in-Stop-clause-turns : goal.returns-in-Stop-clause-turns
returns-in-Stop-clause-turns g c = takes_none_told _ _ _ _ _ _ _ _ _ _ _ c.loop-asked.invariant.taken refl c.in-Stop.ensures

pub returns-in-Err-clause-turns : goal.returns-in-Err-clause-turns
returns-in-Err-clause-turns g c =
    let so_far = c.loop-asked.invariant.taken in
    takes_one_more _ _ _ _ _ _ _ _ _ _ _ _ _ so_far refl c.in-On.ensures (c.in-Err.ensures.ended _ so_far.enough)

pub returns-clause-turns : goal.returns-clause-turns
returns-clause-turns g c =
    takes_none_left _ _ _ _ _ _ _ _ _ _ c.loop-asked.invariant.taken (omega (arith, c.loop-asked-test.false, c.loop-asked.auto.asked-end))
