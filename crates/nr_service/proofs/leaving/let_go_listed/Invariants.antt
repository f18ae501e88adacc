-- Those that are over were let go so far; and where all are looked at and nobody was let go, those behind go on.
use Rattle.std.proofs.Common.{◌≡◌, ◌≤◌, true, false, length}
use Rattle.std.specs.Prelude.{None}
use Rattle.std.specs.List.{AllWithin}
use Rattle.nr_service.specs.Leaving.{IsEnding, LetsGo}
use Rattle.nr_service.proofs.leaving.let_go_listed.Given as goal

abbrev pub invariant-loop-left : goal.invariant-loop-left
invariant-loop-left g l = record {
  gone : LetsGo g.S.Stream.received g.S.Stream.sent g.S.Stream.course g.A.Backend.is_past g.A.Backend.kept g.A.Backend.stands g.A.Backend.busy
      g.A.Backend.is_gone g.D.Poller.parted l.fn.bounds l.fn.answers l.answers l.fn.device l.device l.fn.clients.items l.clients.items;
  all : l.signs.is_all ≡ l.fn.signs.is_all;
  calm : l.signs.is_busy ≡ false → l.fn.signs.is_busy ≡ false;
  clients : l.signs.is_busy ≡ false → l.clients.items ≡ l.fn.clients.items;
  answers : l.signs.is_busy ≡ false → l.answers ≡ l.fn.answers;
  within : l.fn.signs.is_all ≡ true → l.left ≤ length l.fn.clients.items;
  each : l.fn.signs.is_all ≡ true → l.signs.is_busy ≡ false
      → AllWithin (λ client. IsEnding (g.A.Backend.kept l.fn.answers) (g.A.Backend.stands l.fn.answers) (g.A.Backend.busy l.fn.answers) l.fn.bounds client None)
      l.fn.clients.items l.left (length l.fn.clients.items);
}

abbrev pub decreases-loop-left : goal.decreases-loop-left
decreases-loop-left g l = l.left
