use Rattle.std.proofs.Common.{rules, refl}
use Rattle.nr_members.proofs.SetMoves.{live_taken, failed_taken, failed_put, carried_is}
use Rattle.nr_members.proofs.sets.moving.carry.Goals as goal

pub insert-requires : goal.insert-requires
insert-requires g c =
    live_taken c.args.keyspace.now c.take.new.keyspace c.args.database c.args.source.now c.from_ref-members.result.now c.in_ok-take.field-0 c.args.now c.requires.live
    c.in_ok-take.ensures.changed

pub returns-in_err-take : goal.returns-in_err-take
returns-in_err-take g c held others at_source at_target =
    failed_taken g.T.Touched.after c.args.keyspace.now c.take.new.keyspace c.args.database c.args.source.now c.args.member.now c.from_ref-members.result.now held c.args.touched.now c.args.touched.now _
    c.from_residual.result at_source c.from_ref-members.ensures.value c.from_residual.ensures.0 (search rules)

pub returns-in_err-count : goal.returns-in_err-count
returns-in_err-count g c held others at_source at_target =
    failed_put g.T.Touched.after c.args.keyspace.now c.take.new.keyspace c.insert.new.keyspace c.args.database c.args.source.now c.args.target.now c.args.member.now
    c.from_ref-members.result.now held others c.in_ok-take.field-0 c.args.touched.now c.args.touched.now _ c.from_residual-in_err-count.result c.requires.apart at_source at_target
    c.from_ref-members.ensures.value c.in_ok-take.ensures.changed c.from_residual-in_err-count.ensures.0 (search rules)

pub returns : goal.returns
returns g c held others at_source at_target =
    carried_is g.T.Touched.after c.args.keyspace.now c.take.new.keyspace c.insert.new.keyspace c.args.database c.args.source.now c.args.target.now c.args.member.now
    c.from_ref-members.result.now held others c.in_ok-take.field-0 c.in_ok-count.count c.args.touched.now c.touch.new.self c.tell.new.touched _ refl
    c.from_ref-members.ensures.value c.requires.apart at_source at_target c.in_ok-take.ensures.changed c.in_ok-count.ensures.changed c.in_ok-touch.ensures c.in_ok-tell.ensures.touched
