-- What is kept of the connections of a worker for which much waits, and that so much waits for one that its node takes no entry in.
use Rattle.std.specs.Prelude.{◌≡◌, ◌<◌, ◌/◌, ◌+◌, min, ℕ, Bool, false, cond, ◌==◌, nat_lt, List, length, Option, Some, None, slice_index_or}
use Rattle.nr_model.specs.Queues.{Queue}
use Rattle.nr_replica.specs.declared.backlog.Backlog.{Backlog}
use Rattle.nr_replica.specs.Members.{Member, Queues, nobody, queue_at}

-- how much waits in a queue before its node stops for it: a sixteenth of what may, and a mebibyte where that is less
abbrev pub share_of : ℕ → ℕ
share_of limit = min (limit / 16) 1048576

-- more than that waits in a queue, and more may come
abbrev pub IsBacklog : Queue → Type 0
IsBacklog queue = (queue.cut ≡ false) × (share_of queue.limit < length queue.waiting)

-- there is such a queue
pub record HasBacklog (members : List Member) : Type 0 where
  pub serial : ℕ
  pub there : serial < length members
  pub waits : IsBacklog (slice_index_or members serial nobody).outbox

-- the same, as a node keeps its queues
pub record HasBacklogAmong (opened : ℕ) (queues : Queues) : Type 0 where
  pub serial : ℕ
  pub queue : Queue
  pub there : serial < opened
  pub found : queue_at serial queues ≡ Some queue
  pub waits : IsBacklog queue

-- what is kept of a worker at first
abbrev pub idle : Backlog
idle = record { marked = None; extra = 0; turns = 0; was_cut = false }

abbrev pub is_at : ℕ → Option ℕ → Bool
is_at serial None = false
is_at serial (Some marked) = marked == serial

-- something was handed out for a connection: where it is the one that is marked, one share may wait again, and no turn was held up
abbrev pub let_go_of : ℕ → Backlog → Backlog
let_go_of serial b = cond (is_at serial b.marked) (record b { marked = None; extra = 0; turns = 0 }) b

-- enough turns were held up: a share more may wait, 1,024 at most, as many as there are in the highest limit
abbrev pub with_more : Backlog → Backlog
with_more b = record b { extra = cond (nat_lt b.extra 1023) (b.extra + 1) b.extra; turns = 0 }
