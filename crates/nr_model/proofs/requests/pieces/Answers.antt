use Rattle.nr_model.proofs.Fronts.{request_extends}
use Rattle.nr_model.proofs.Cuts.{cut_law, rest_law, step_law, fuel_law}
use Rattle.nr_model.proofs.requests.pieces.Goals as goal

pub returns-clause-cut : goal.returns-clause-cut
returns-clause-cut c = cut_law

pub returns-clause-rest : goal.returns-clause-rest
returns-clause-rest c = rest_law

pub returns-clause-step : goal.returns-clause-step
returns-clause-step c = step_law

pub returns-clause-fuel : goal.returns-clause-fuel
returns-clause-fuel c = fuel_law

pub returns-clause-front : goal.returns-clause-front
returns-clause-front c = request_extends
