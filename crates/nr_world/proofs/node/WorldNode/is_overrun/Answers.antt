use Rattle.std.proofs.Common.{Bool, get_or, ap, sym, ◌∙◌}
use Rattle.std.specs.Prelude.{not, ◌&&◌}
use Rattle.nr_replica.specs.Members.{fresh_member}
use Rattle.nr_world.specs.BySerial.{closed_session}
use Rattle.nr_world.proofs.Connects.{overrun_is}
use Rattle.nr_world.proofs.node.WorldNode.is_overrun.Goals as goal

pub returns-then-is_cut : goal.returns-then-is_cut
returns-then-is_cut c =
    let none = fresh_member (record { node = 0; serial = 0 }) 0 0 in
    ap not (c.fell.ensures closed_session)
    ∙ sym (ap (λ (b : Bool). b && not (get_or c.args.self.now.sessions c.args.serial closed_session).fell) (sym (c.is_cut.ensures none) ∙ c.if-is_cut.true))
    ∙ overrun_is c.args.self.now c.args.serial closed_session none c.requires.clients c.requires.is_there

pub returns-else-is_cut : goal.returns-else-is_cut
returns-else-is_cut c =
    let none = fresh_member (record { node = 0; serial = 0 }) 0 0 in
    c.if-is_cut.false
    ∙ sym (ap (λ (b : Bool). b && not (get_or c.args.self.now.sessions c.args.serial closed_session).fell) (sym (c.is_cut.ensures none) ∙ c.if-is_cut.false))
    ∙ overrun_is c.args.self.now c.args.serial closed_session none c.requires.clients c.requires.is_there
