-- What a close and a fall drop, and the job of the end that a close puts.
use Rattle.std.specs.Prelude.{ℕ, Bool, not, ◌&&◌, ◌||◌, cond, List, ◌++◌, flat_map, Option, Some, None, is_none, is_some, unwrap_or}
use Rattle.nr_model.specs.Asked.{own_jobs, first_number}
use Rattle.nr_model.specs.Entries.{Jobs}
use Rattle.nr_model.specs.Items.{Item, End}
use Rattle.nr_model.specs.Nodes.Steps.{posted_jobs}
use Rattle.nr_entry.specs.Jobs.{items_of}
use Rattle.nr_session.specs.SessionState.{SessionState}
use Rattle.nr_replica.specs.Members.{Member}
use Rattle.nr_world.specs.declared.worker.WorldWorker.{WorldWorker}
use Rattle.nr_world.specs.Served.{both}
use Rattle.nr_world.specs.Workers.{slot_seen}

-- what a node drops where it falls: the jobs that it has lifted, and those at its workers, posted and not posted
abbrev pub posted_at : List WorldWorker → Jobs
posted_at workers = flat_map (λ (worker : WorldWorker). posted_jobs (slot_seen worker.slot None)) workers

abbrev pub pending_at : List WorldWorker → Jobs
pending_at workers = flat_map (λ (worker : WorldWorker). items_of worker.pending.items) workers

abbrev pub dropped_of : Jobs → List WorldWorker → Jobs
dropped_of waiting workers = waiting ++ (posted_at workers ++ pending_at workers)

-- what the fall of its node leaves of a session
abbrev pub fallen_session : Option ℕ → Bool → SessionState → SessionState
fallen_session dropped is_cut session =
    record session { lost = cond (is_some session.lost) session.lost dropped; fell = session.fell || not is_cut }

abbrev pub session_after : Jobs → SessionState → Member → SessionState
session_after dropped session member =
    cond member.is_closed session (fallen_session (first_number (own_jobs member.outbox.connection dropped)) member.outbox.cut session)

abbrev pub sessions_after : Jobs → List SessionState → List Member → List SessionState
sessions_after dropped sessions members = both (session_after dropped) sessions members

-- the job of a session's end, where the first job that was dropped has this number
abbrev pub end_of : Option ℕ → ℕ → SessionState → Option Item
end_of dropped time session =
    cond (session.gave_end && is_none dropped) None
    (Some (record { connection = session.connection; number = unwrap_or dropped session.next; moment = time; deed = End None }))
