use Rattle.std.proofs.Common.{rules, ◌≡◌, Some, to_z, of_z, w64, ap, sym, ◌∙◌, refl}
use Rattle.std.specs.FinMap as map
use Rattle.nr_model.specs.Keyspace.{live, key_of}
use Rattle.nr_model.specs.Commands.Keys.{is_met}
use Rattle.nr_keyspace.specs.Redated.{redated_until}
use Rattle.nr_key_commands.proofs.Redated.{not_there, not_met, is_redated}
use Rattle.nr_key_commands.proofs.keys.deadlines.redate.Goals as goal

pub returns-in_default : goal.returns-in_default
returns-in_default g c =
    not_there g.T.Touched.after c.args.now c.args.keyspace.now c.args.database c.args.conditions c.args.deadline c.args.touched.now
    (live c.args.keyspace.now c.args.now) c.args.name.now c.args.name.now refl c.requires c.in_default.ensures

pub returns-then-not-are_met : goal.returns-then-not-are_met
returns-then-not-are_met g c =
    let same : to_z w64 (of_z w64 c.args.deadline) ≡ c.args.deadline = search rules in
    not_met g.T.Touched.after c.args.now c.args.keyspace.now c.args.database c.args.conditions c.args.deadline c.args.touched.now
    (live c.args.keyspace.now c.args.now) c.args.name.now c.args.name.now refl c.requires c.in-Some.before c.in-Some.ensures
    (sym (c.if-not-are_met.ensures ∙ ap (is_met c.args.conditions c.in-Some.before) same))

pub returns : goal.returns
returns g c =
    let old = c.args.keyspace.now in
    let key = key_of c.args.database c.args.name.now in
    let same : to_z w64 (of_z w64 c.args.deadline) ≡ c.args.deadline = search rules in
    is_redated g.T.Touched.after c.args.now old c.args.database c.args.conditions c.args.deadline c.args.touched.now
    (live old c.args.now) c.args.name.now c.args.name.now refl c.requires c.in-Some.before c.hold_until.new.keyspace c.touch.new.self c.in-Some.ensures
    (sym (c.if-not-are_met.ensures ∙ ap (is_met c.args.conditions c.in-Some.before) same))
    (c.in_ok-hold_until.ensures ∙ ap (λ deadline. redated_until c.args.now old key (map.get old key) (Some deadline)) same)
    c.in_ok-touch.ensures
