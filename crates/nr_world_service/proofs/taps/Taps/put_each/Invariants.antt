-- The pieces that are left stand the other way round.
use Rattle.std.proofs.Common.{length, map}
use Rattle.std.specs.Prelude.{reverse}
use Rattle.nr_world.specs.Seen.{handed_seen}
use Rattle.nr_world_service.proofs.Found.{IsKeeping}
use Rattle.nr_world_service.proofs.taps.Taps.put_each.Given as goal

abbrev pub invariant-loop-piece : goal.invariant-loop-piece
invariant-loop-piece l =
    IsKeeping (map handed_seen l.fn.handed.items) (map handed_seen (reverse l.handed.items)) l.fn.self.by_conn.entries l.self.by_conn.entries

abbrev pub decreases-loop-piece : goal.decreases-loop-piece
decreases-loop-piece l = length l.handed.items
