use Rattle.std.proofs.Common.{◌≡◌, drop}
use Rattle.std.specs.Prelude.{fold}
use Rattle.nr_model.specs.Names.{unsubscribed}
use Rattle.nr_session.proofs.mode.unsubscribe.Given as goal

abbrev pub invariant-loop-name : goal.invariant-loop-name
invariant-loop-name l = fold (unsubscribed l.kind) l.held (drop l.name-index l.names) ≡ fold (unsubscribed l.fn.kind) l.fn.held l.fn.names
