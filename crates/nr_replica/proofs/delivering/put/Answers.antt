use Rattle.std.proofs.Common.{◌≡◌, ℕ, [], ◌∷◌, subst}
use Rattle.std.specs.Prelude.{Option, Some}
use Rattle.nr_model.specs.Queues.{Queue, received}
use Rattle.nr_replica.proofs.Giving.{put_received}
use Rattle.nr_replica.proofs.delivering.put.Goals as goal

pub returns-then-announce-clause-received : goal.returns-then-announce-clause-received
returns-then-announce-clause-received c =
    subst (λ (queue : Queue). (refused : Option ℕ) × (c.put_bytes.new.self ≡ received refused queue (c.args.bytes.now ∷ []))) (c.announce.ensures.open c.if-announce.true)
    (put_received c.put_bytes.result c.announce.new.outbox c.put_bytes.new.self c.args.bytes.now
    (c.put_bytes.ensures.taken, c.put_bytes.ensures.full, c.put_bytes.ensures.memory))

pub returns-else-announce-clause-received : goal.returns-else-announce-clause-received
returns-else-announce-clause-received c = (Some 0, c.announce.ensures.cut c.if-announce.false)
