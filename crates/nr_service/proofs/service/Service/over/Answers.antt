-- No client is served yet.
use Rattle.std.proofs.Common.{refl, rules}
use Rattle.nr_service.proofs.Turns.{begun}
use Rattle.nr_service.proofs.service.Service.over.Goals as goal

pub returns-clause-serving : goal.returns-clause-serving
returns-clause-serving g c = begun _ _ _ _ _ _ _ _ c.args.answers c.args.clock (search rules) refl refl refl
