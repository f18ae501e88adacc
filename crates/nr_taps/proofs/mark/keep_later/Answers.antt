use Rattle.std.proofs.Common.{◌≡◌, Some, refl, sym}
use Rattle.nr_log_end.specs.declared.standing.Standing.{Standing}
use Rattle.nr_node.specs.Sound.{IsSound}
use Rattle.nr_taps.proofs.Marks.{adopts_first, adopts_held, held_has, met_held, met_none}
use Rattle.nr_taps.proofs.mark.keep_later.Goals as goal

pub adopt-requires-clause-node : goal.adopt-requires-clause-node
adopt-requires-clause-node g c =
    sym (held_has (λ (s : Standing). s.node ≡ c.args.token.standing.node) c.args.held.now c.in-Some.last c.in-Some.is c.requires.node)

pub adopt-requires-clause-idle : goal.adopt-requires-clause-idle
adopt-requires-clause-idle g c = ((held_has IsSound c.args.held.now c.in-Some.last c.in-Some.is c.requires.sound.1).idle, c.requires.sound.0.idle)

pub returns-in-Some-clause-adopted : goal.returns-in-Some-clause-adopted
returns-in-Some-clause-adopted g c =
    adopts_held c.args.held.now (Some c.adopt.new.self) c.in-Some.last c.args.token c.adopt.new.self c.in-Some.is refl c.adopt.ensures.later

pub returns-in-Some-clause-met : goal.returns-in-Some-clause-met
returns-in-Some-clause-met g c = met_held c.args.held.now c.in-Some.last c.args.token.standing c.in-Some.is c.adopt.ensures.of_one_log

pub returns-in-None-clause-adopted : goal.returns-in-None-clause-adopted
returns-in-None-clause-adopted g c = adopts_first c.args.held.now c.args.token.standing c.in-None.is

pub returns-in-None-clause-met : goal.returns-in-None-clause-met
returns-in-None-clause-met g c = met_none c.args.held.now c.args.token.standing c.in-None.is
