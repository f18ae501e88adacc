use Rattle.std.proofs.Common.{◌++◌, length}
use Rattle.nr_resp.specs.Frames.{frames_seen}
use Rattle.nr_resp.specs.Stream.{Reads}
use Rattle.nr_resp.specs.PartialRequest.{bytes_of, IsHeld}
use Rattle.nr_resp.proofs.reader.partial.PartialRequest.feed.Given as goal

abbrev pub invariant-loop-left : goal.invariant-loop-left
invariant-loop-left l = record {
  held : IsHeld l.self;
  reads : Reads (bytes_of l.fn.self ++ l.fn.piece) (bytes_of l.self ++ l.left) (frames_seen l.fn.frames.items) (frames_seen l.frames.items);
}

abbrev pub decreases-loop-left : goal.decreases-loop-left
decreases-loop-left l = length l.left
