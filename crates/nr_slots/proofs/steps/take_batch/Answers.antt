use Rattle.std.proofs.Common.{rules, ◌∙◌, ap, set, Some, None, [], ◌∷◌, ◌++◌}
use Rattle.nr_slots.specs.declared.view.Parcel.TheVariants.{Posted}
use Rattle.nr_slots.specs.declared.view.CombinerPast.{CombinerPast}
use Rattle.nr_slots.specs.declared.view.Found.TheVariants.{Batch as FoundBatch}
use Rattle.nr_slots.specs.Rule.{combiner_view}
use Rattle.nr_slots.specs.Plays.{desk_at}
use Rattle.nr_slots.specs.Steps.{with_lift}
use Rattle.nr_slots.proofs.Calls.{seek_loads, lift_loads, found_batch, missed_batch, lifted_now, can_exchange, was_there, exchanged, desk_now, lifted_after, same_batch}
use Rattle.nr_slots.proofs.CombinerSteps.{to_seek}
use Rattle.nr_slots.proofs.steps.take_batch.Goals as goal

pub load-requires : goal.load-requires
load-requires c = let q = c.requires in let m = c.args.seat.now.me in
    (search rules, search rules, seek_loads _ _ _ c.args.worker q.worker.1 m.0.desks m.0.looks q.worker.2 m (λ i. (q.worker.3 i, q.seat.2 i)) q.loose.0 q.loose.1)

pub returns-then-load-ne-OFFERED-clause-view : goal.returns-then-load-ne-OFFERED-clause-view
returns-then-load-ne-OFFERED-clause-view c = let q = c.requires in let m = c.args.seat.now.me in
    missed_batch c.args.worker m c.load.new.seat.me c.args.words.now.key c.args.words.now.table_id.slots m.0.desks m.0.looks c.load.result (λ i. (q.worker.3 i, q.seat.2 i)) c.load.ensures.2 c.if-load-ne-OFFERED.true

pub exchange-parcel-requires : goal.exchange-parcel-requires
exchange-parcel-requires c = let q = c.requires in let m = c.args.seat.now.me in let w = c.args.worker in
    let f = found_batch w m c.load.new.seat.me c.args.words.now.key c.args.words.now.table_id.slots m.0.desks m.0.looks c.load.result (λ i. (q.worker.3 i, q.seat.2 i)) c.load.ensures.2 c.if-load-ne-OFFERED.false in
    (search rules, can_exchange c.load.new.seat.me _ _ (Some (Posted f.0)) f.1)

pub load-requires-2 : goal.load-requires-2
load-requires-2 c = let q = c.requires in let m = c.args.seat.now.me in let w = c.args.worker in
    let f = found_batch w m c.load.new.seat.me c.args.words.now.key c.args.words.now.table_id.slots m.0.desks m.0.looks c.load.result (λ i. (q.worker.3 i, q.seat.2 i)) c.load.ensures.2 c.if-load-ne-OFFERED.false in
    let now = exchanged c.load.new.seat.me c.exchange-parcel.new.seat.me _ _ (Some (Posted f.0)) None f.1 c.exchange-parcel.ensures.3 in
    let d = to_seek f.0 (desk_at m.0.desks w) in
    let r = desk_now c.args.words.now.key w q.worker.1 m.0.desks q.worker.2 d in
    (search rules, search rules, lift_loads _ _ _ w q.worker.1 (set m.0.desks w d) (m.0.looks ++ FoundBatch w ∷ []) r.0 c.exchange-parcel.new.seat.me now (ap (λ (z : CombinerPast). z.grip) r.1))

pub batch_of-requires : goal.batch_of-requires
batch_of-requires c = let q = c.requires in let m = c.args.seat.now.me in let w = c.args.worker in
    let f = found_batch w m c.load.new.seat.me c.args.words.now.key c.args.words.now.table_id.slots m.0.desks m.0.looks c.load.result (λ i. (q.worker.3 i, q.seat.2 i)) c.load.ensures.2 c.if-load-ne-OFFERED.false in
    (f.0, was_there c.load.new.seat.me _ _ (Some (Posted f.0)) c.exchange-parcel.result f.1 c.exchange-parcel.ensures.2)

pub returns-clause-view : goal.returns-clause-view
returns-clause-view c = let q = c.requires in let m = c.args.seat.now.me in let w = c.args.worker in
    let f = found_batch w m c.load.new.seat.me c.args.words.now.key c.args.words.now.table_id.slots m.0.desks m.0.looks c.load.result (λ i. (q.worker.3 i, q.seat.2 i)) c.load.ensures.2 c.if-load-ne-OFFERED.false in
    let now = exchanged c.load.new.seat.me c.exchange-parcel.new.seat.me _ _ (Some (Posted f.0)) None f.1 c.exchange-parcel.ensures.3 in
    let is = was_there c.load.new.seat.me _ _ (Some (Posted f.0)) c.exchange-parcel.result f.1 c.exchange-parcel.ensures.2 in
    let after = lifted_after c.args.words.now.key w q.worker.1 m.0.desks (m.0.looks ++ FoundBatch w ∷ []) q.worker.2 f.0 c.load-2.new.seat.me
    (lifted_now w c.exchange-parcel.new.seat.me c.load-2.new.seat.me c.args.words.now.key c.args.words.now.table_id.slots (set m.0.desks w (to_seek f.0 (desk_at m.0.desks w))) (m.0.looks ++ FoundBatch w ∷ []) now c.load-2.ensures.2) in
    let same = same_batch f.0 c.batch_of.result c.exchange-parcel.result is c.batch_of.ensures in
    after ∙ ap (λ b. (combiner_view c.args.words.now.key (with_lift w b m.0.desks) (m.0.looks ++ FoundBatch w ∷ []), [])) same
