-- What a feed does to a session, and to the jobs that wait at its worker.
use Rattle.std.specs.Prelude.{◌≡◌, ℕ, ◌++◌}
use Rattle.nr_model.specs.Bytes.{Bytes}
use Rattle.nr_model.specs.Keyspace.{moment}
use Rattle.nr_model.specs.Entries.{Jobs}
use Rattle.nr_model.specs.Asked.{jobs_from}
use Rattle.nr_model.specs.Nodes.Steps.{fed_client, asked_next}
use Rattle.nr_session.specs.SessionState.{SessionState}
use Rattle.nr_replica.specs.Members.{Member}
use Rattle.nr_world.specs.Served.{client_seen}

-- the jobs that the bytes ask for wait behind the others
pub record IsFed (milliseconds : ℕ) (bytes : Bytes) (old new : SessionState) (before after : Jobs) : Type 0 where
  pub client : (member : Member) → client_seen new member ≡ fed_client (client_seen old member) bytes
  pub asked : (member : Member) → after ≡ before ++ jobs_from old.connection old.next (moment milliseconds) (asked_next (client_seen old member) bytes).deeds
  pub named : new.connection ≡ old.connection
  pub ends : new.ended ≡ new.gave_end
