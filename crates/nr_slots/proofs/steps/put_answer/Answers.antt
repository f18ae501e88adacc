use Rattle.std.proofs.Common.{rules, sym, ap, subst, set, Some, None}
use Rattle.nr_slots.specs.declared.view.Parcel.TheVariants.{Answered}
use Rattle.nr_slots.specs.declared.view.CombinerPast.{CombinerPast}
use Rattle.nr_slots.specs.Plays.{desk_at}
use Rattle.nr_slots.proofs.Calls.{reach_loads, reply_stores, reached_now, replied_now, exchanged, desk_now, replied_after}
use Rattle.nr_slots.proofs.CombinerSteps.{to_reach}
use Rattle.nr_slots.proofs.steps.put_answer.Goals as goal

pub load-requires : goal.load-requires
load-requires c = let q = c.requires in let m = c.args.seat.now.me in
    (search rules, search rules, reach_loads _ _ _ c.args.worker q.worker.1 m.0.desks m.0.looks q.worker.2 m c.args.answer (λ i. (q.worker.3 i, q.seat.2 i)) q.loose q.lifted)

pub store-requires : goal.store-requires
store-requires c = let q = c.requires in let m = c.args.seat.now.me in let w = c.args.worker in
    let took = reached_now w m c.load.new.seat.me c.args.words.now.key c.args.words.now.table_id.slots m.0.desks m.0.looks (λ i. (q.worker.3 i, q.seat.2 i)) c.load.ensures.2 in
    let now = exchanged c.load.new.seat.me c.exchange.new.seat.me _ _ None (Some (Answered c.args.answer)) took c.exchange.ensures.3 in
    let d = to_reach (desk_at m.0.desks w) in
    let r = desk_now c.args.words.now.key w q.worker.1 m.0.desks q.worker.2 d in (
      search rules,
      search rules,
      reply_stores _ _ _ w q.worker.1 (set m.0.desks w d) m.0.looks r.0 c.exchange.new.seat.me c.args.answer now (ap (λ (z : CombinerPast). z.grip) r.1)
          (subst (λ (z : CombinerPast). Rattle.nr_slots.specs.Names.IsForLast c.args.answer z.lifted z.answered) (sym r.1) q.lifted),
    )

pub returns-clause-view : goal.returns-clause-view
returns-clause-view c = let q = c.requires in let m = c.args.seat.now.me in let w = c.args.worker in
    let took = reached_now w m c.load.new.seat.me c.args.words.now.key c.args.words.now.table_id.slots m.0.desks m.0.looks (λ i. (q.worker.3 i, q.seat.2 i)) c.load.ensures.2 in
    let now = exchanged c.load.new.seat.me c.exchange.new.seat.me _ _ None (Some (Answered c.args.answer)) took c.exchange.ensures.3 in
    replied_after c.args.words.now.key w q.worker.1 m.0.desks m.0.looks q.worker.2 c.args.answer c.store.new.seat.me
    (replied_now w c.exchange.new.seat.me c.store.new.seat.me c.args.words.now.key c.args.words.now.table_id.slots (set m.0.desks w (to_reach (desk_at m.0.desks w))) m.0.looks c.args.answer now c.store.ensures.2)
