use Rattle.std.proofs.Common.{sym, ◌∙◌}
use Rattle.nr_test_parts.proofs.Taken.{last_of}
use Rattle.nr_test_parts.proofs.client.Client.take_in.Goals as goal

pub accept-requires-clause-emitted : goal.accept-requires-clause-emitted
accept-requires-clause-emitted g c =
    (last_of c.args.turn.pieces.items c.pop.new.self.items c.args.turn.token c.in-Some.token c.pop.result c.in-Some-pop.handed (sym c.take.ensures.value ∙ c.in-Some.is)
    c.pop.ensures.items c.in-Some-pop.is c.requires).1.emitted
