use Rattle.std.proofs.Common.{◌≡◌, drop}
use Rattle.nr_model.specs.Names.{after_subscribe}
use Rattle.nr_session.proofs.mode.subscribe.Given as goal

abbrev pub invariant-loop-name : goal.invariant-loop-name
invariant-loop-name l = after_subscribe l.kind l.held (drop l.name-index l.names) ≡ after_subscribe l.fn.kind l.fn.held l.fn.names
