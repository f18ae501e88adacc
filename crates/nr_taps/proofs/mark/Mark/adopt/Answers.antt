use Rattle.std.proofs.Common.{◌≡◌, Some, sym, subst}
use Rattle.std.specs.Prelude.{IfSome}
use Rattle.nr_log_end.specs.declared.standing.Standing.{Standing}
use Rattle.nr_node.specs.Sound.{IsSound}
use Rattle.nr_taps.specs.Marks.{Adopts, MarkState}
use Rattle.nr_taps.specs.Taps.{HaveMet, standing_of}
use Rattle.nr_taps.proofs.Marks.{adopts_has, still_sound}
use Rattle.nr_taps.proofs.mark.Mark.adopt.Goals as goal

pub keep_later-requires-clause-sound : goal.keep_later-requires-clause-sound
keep_later-requires-clause-sound g c = (c.requires.sound, c.self.invariant)

pub keep_later-requires-clause-node : goal.keep_later-requires-clause-node
keep_later-requires-clause-node g c =
    subst (λ (m : MarkState). IfSome m.standing (λ (s : Standing). s.node ≡ c.args.token.standing.node)) (sym c.self.view_is) c.requires.node

pub invariant_of-self : goal.invariant_of-self
invariant_of-self g c =
    adopts_has IsSound still_sound (standing_of c.self.inside.token) (standing_of c.keep_later.new.held) c.args.token.standing c.self.invariant c.requires.sound
    c.keep_later.ensures.adopted

pub returns-clause-adopted : goal.returns-clause-adopted
returns-clause-adopted g c =
    subst (λ (m : MarkState). Adopts m.standing c.args.token.standing (standing_of c.keep_later.new.held)) c.self.view_is c.keep_later.ensures.adopted

pub returns-clause-met : goal.returns-clause-met
returns-clause-met g c = subst (λ (m : MarkState). HaveMet m.standing (Some c.args.token.standing)) c.self.view_is c.keep_later.ensures.met
