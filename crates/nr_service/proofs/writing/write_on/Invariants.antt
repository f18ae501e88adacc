-- It was served so far, so many bytes are left of it, and of those that may be taken.
use Rattle.std.proofs.Common.{◌≡◌, ◌+◌, length}
use Rattle.nr_service.specs.Readings.{IsNeverFed}
use Rattle.nr_service.specs.Serving.{connection}
use Rattle.nr_service.specs.Silence.{IsHeard}
use Rattle.nr_service.specs.Steps.{ServesOne, settled_past}
use Rattle.nr_service.specs.Stories.{KeepsOthers, kept_bytes}
use Rattle.nr_service.proofs.writing.write_on.Given as goal

abbrev pub invariant-loop-left : goal.invariant-loop-left
invariant-loop-left g l = record {
  served : ServesOne g.S.Stream.received g.S.Stream.sent g.S.Stream.course (settled_past g.A.Backend.is_past g.A.Backend.is_settled) g.A.Backend.kept
      IsNeverFed l.fn.answers l.answers l.fn.client l.client;
  conn : l.client.conn ≡ l.fn.client.conn;
  fell : l.client.fell ≡ l.fn.client.fell;
  heard : IsHeard l.fn.moment l.fn.client.heard l.client.heard (g.S.Stream.sent l.fn.client.stream) (g.S.Stream.sent l.client.stream);
  others : KeepsOthers (connection l.fn.client) (g.A.Backend.kept l.fn.answers) (g.A.Backend.kept l.answers);
  left : l.left ≡ length (kept_bytes (g.A.Backend.kept l.answers (connection l.fn.client)));
  taken : l.left + l.fn.most ≡ l.fn.first.kept + l.most;
}

abbrev pub decreases-loop-left : goal.decreases-loop-left
decreases-loop-left g l = l.most
