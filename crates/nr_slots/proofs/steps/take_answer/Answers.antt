use Rattle.std.proofs.Common.{rules, refl, ◌≡◌, Some, None}
use Rattle.nr_slots.specs.declared.view.Parcel.TheVariants.{Answered}
use Rattle.nr_slots.proofs.Calls.{look_loads, clear_stores, found_answer, cleared_now, can_exchange, was_there, exchanged, collected_after}
use Rattle.nr_slots.proofs.WorkerSteps.{to_fetch}
use Rattle.nr_slots.proofs.steps.take_answer.Goals as goal

pub load-requires : goal.load-requires
load-requires c = let q = c.requires in let m = c.args.seat.now.me in
    (search rules, search rules, look_loads _ _ _ c.args.worker q.worker.1 m m.0.lane m.0.noted (λ i. (q.worker.2 i, q.seat.2 i)) q.still)

pub exchange-parcel-requires : goal.exchange-parcel-requires
exchange-parcel-requires c = let q = c.requires in let m = c.args.seat.now.me in let w = c.args.worker in
    let f = found_answer w m c.load.new.seat.me m.0.lane m.0.noted c.load.result (λ i. (q.worker.2 i, q.seat.2 i)) c.load.ensures.2 c.if-load-ne-READY.false in
    (search rules, can_exchange c.load.new.seat.me _ _ (Some (Answered f.0)) f.2)

pub store-requires : goal.store-requires
store-requires c = let q = c.requires in let m = c.args.seat.now.me in let w = c.args.worker in
    let f = found_answer w m c.load.new.seat.me m.0.lane m.0.noted c.load.result (λ i. (q.worker.2 i, q.seat.2 i)) c.load.ensures.2 c.if-load-ne-READY.false in
    let now = exchanged c.load.new.seat.me c.exchange-parcel.new.seat.me _ _ (Some (Answered f.0)) None f.2 c.exchange-parcel.ensures.3 in
    (search rules, search rules, clear_stores _ _ _ w q.worker.1 c.exchange-parcel.new.seat.me (to_fetch f.0 m.0.lane) m.0.noted f.0 now refl)

pub returns-clause-view : goal.returns-clause-view
returns-clause-view c = let q = c.requires in let m = c.args.seat.now.me in let w = c.args.worker in
    let f = found_answer w m c.load.new.seat.me m.0.lane m.0.noted c.load.result (λ i. (q.worker.2 i, q.seat.2 i)) c.load.ensures.2 c.if-load-ne-READY.false in
    let now = exchanged c.load.new.seat.me c.exchange-parcel.new.seat.me _ _ (Some (Answered f.0)) None f.2 c.exchange-parcel.ensures.3 in
    let is = was_there c.load.new.seat.me _ _ (Some (Answered f.0)) c.exchange-parcel.result f.2 c.exchange-parcel.ensures.2 in
    let there : c.exchange-parcel.result ≡ Some (Answered c.in-Some-Answered.answer) = search rules in
    collected_after w m.0.lane m.0.noted f.0 c.in-Some-Answered.answer c.exchange-parcel.result c.store.new.seat.me is there f.1 (cleared_now w c.exchange-parcel.new.seat.me c.store.new.seat.me (to_fetch f.0 m.0.lane) m.0.noted now c.store.ensures.2)
