-- A queue that holds its node up is one of a member.
use Rattle.std.proofs.Common.{◌≡◌, ℕ, ◌<◌, List, length, sym, subst, arith}
use Rattle.std.specs.Prelude.{Some}
use Rattle.nr_model.specs.Queues.{Queue}
use Rattle.nr_replica.specs.Backlogs.{IsBacklog, HasBacklog, HasBacklogAmong}
use Rattle.nr_replica.specs.Members.{Member, Queues, nobody, queue_at, members_of}
use Rattle.nr_replica.proofs.Listed.{members_length, open_at}

pub backlog_at : (serial opened : ℕ) (queues : Queues) (queue : Queue) → serial < opened → Some queue ≡ queue_at serial queues → IsBacklog queue
    → HasBacklogAmong opened queues
backlog_at serial opened queues queue within found waits = record { serial = serial; queue = queue; there = within; found = sym found; waits = waits }

pub backlog_seen : (node opened : ℕ) (workers : List ℕ) (queues : Queues) → opened ≡ length workers → HasBacklogAmong opened queues
    → HasBacklog (members_of node workers queues)
backlog_seen node opened workers queues all some =
    let within : some.serial < length workers = omega (arith, some.there, all) in
    let long = members_length node workers queues in
    let at = open_at node workers queues some.serial nobody some.queue within (sym some.found) in
    record {
      serial = some.serial;
      there = omega (arith, within, long);
      waits = subst (λ (m : Member). IsBacklog m.outbox) (sym at) some.waits;
    }
