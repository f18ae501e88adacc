use Rattle.std.proofs.Common.{rules, refl, Some, None}
use Rattle.nr_slots.specs.declared.view.Parcel.TheVariants.{Posted}
use Rattle.nr_slots.proofs.Calls.{put_loads, put_stores, placed_now, exchanged}
use Rattle.nr_slots.proofs.WorkerSteps.{to_place}
use Rattle.nr_slots.proofs.steps.put_batch.Goals as goal

pub load-requires : goal.load-requires
load-requires c = let q = c.requires in let m = c.args.seat.now.me in
    (search rules, search rules, put_loads _ _ _ c.args.worker q.worker.1 m m.0.lane m.0.noted (λ i. (q.worker.2 i, q.seat.2 i)) q.empty)

pub store-requires : goal.store-requires
store-requires c = let q = c.requires in let m = c.args.seat.now.me in let w = c.args.worker in
    let took = placed_now w m c.load.new.seat.me m.0.lane m.0.noted (λ i. (q.worker.2 i, q.seat.2 i)) c.load.ensures.2 in
    let now = exchanged c.load.new.seat.me c.exchange.new.seat.me _ _ None (Some (Posted c.args.batch)) took c.exchange.ensures.3 in
    (search rules, search rules, put_stores _ _ _ w q.worker.1 c.exchange.new.seat.me (to_place m.0.lane) m.0.noted c.args.batch now refl)
