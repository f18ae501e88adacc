use Rattle.std.proofs.Common.{rules, ◌≡◌, None, Some, refl}
use Rattle.nr_script.proofs.Played.{stands_new, stands_seen, again_seen}
use Rattle.nr_script.proofs.player.Player.take.Goals as goal

pub returns-in_ok-write_ok-in-None-clause-stands : goal.returns-in_ok-write_ok-in-None-clause-stands
returns-in_ok-write_ok-in-None-clause-stands c =
    let none : c.args.self.now.world ≡ None = search rules in
    stands_new c.args.step.now c.args.self.now.world c.args.self.now.opened _ c.in_ok-set_up-in-None.field-0 c.args.out.now.items
    c.write_ok.new.out.items none refl c.in_ok-set_up-in-None.ensures.ok (search rules) c.in_ok-write_ok-in-None.ensures.ok

pub returns-in-Some-clause-stands : goal.returns-in-Some-clause-stands
returns-in-Some-clause-stands c =
    stands_seen c.act.result c.args.step.now _ _ c.in-Some.world c.act.new.world (record { world = Some c.act.new.world; opened = c.act.new.opened })
    c.args.out.now.items c.act.new.out.items c.self.view_is c.in-Some.is refl c.act.ensures.setup c.act.ensures.acted

pub returns-in-Some-clause-bad : goal.returns-in-Some-clause-bad
returns-in-Some-clause-bad c = λ is. again_seen c.args.step.now _ _ c.in-Some.world c.self.view_is c.in-Some.is (c.act.ensures.bad is)
