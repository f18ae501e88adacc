use Rattle.nr_crew.proofs.Together.{one_out, same_out}
use Rattle.nr_crew.proofs.running.keep_replica.Goals as goal

pub returns-then-is_err : goal.returns-then-is_err
returns-then-is_err g c = λ own out. same_out own _ _ _ _ c.make_room.ensures.marks c.make_room.ensures.replicas out

pub returns-in_default : goal.returns-in_default
returns-in_default g c = λ own out. same_out own _ _ _ _ c.make_room.ensures.marks c.make_room.ensures.replicas out

pub returns : goal.returns
returns g c = λ own out.
    one_out own _ _ _ _ c.in-Some.token.standing c.of.result c.in-Some.replica c.of.ensures c.push_reserved.ensures.items c.push_reserved-2.ensures.items
    c.in-Some.ensures.0 (same_out own _ _ _ _ c.make_room.ensures.marks c.make_room.ensures.replicas out)
