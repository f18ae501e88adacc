use Rattle.std.proofs.Common.{rules, sym, ap, ◌∙◌, ◌∷◌, Some}
use Rattle.atomic_table.specs.Table.{rest}
use Rattle.nr_oplog.proofs.Calls.{lift_loads, lift_took}
use Rattle.nr_oplog.proofs.log.Oplog.lift.Goals as goal

pub load-requires : goal.load-requires
load-requires g c = (search rules, search rules, search (rules, lift_loads))

pub exchange-requires : goal.exchange-requires
exchange-requires g c =
    let q = c.requires in
    let took = (lift_took _ _ c.args.self.now.table.shared.table_id.slots c.stamp_word-word.result c.args.seat.now.me c.load.new.seat.me c.args.node c.args.passed c.load.result
    q.seat.1 q.seat.2 q.next.0 c.if-load-passed.false c.load.ensures.2).1 in
    let has = ap (λ m. m.1) took.1 in (search rules, (Some took.0, has ∙ (λ i. (sym c.slot.ensures i, Some took.0) ∷ sym (ap rest has) i)))
