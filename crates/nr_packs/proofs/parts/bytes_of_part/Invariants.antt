use Rattle.std.proofs.Common.{length}
use Rattle.nr_packs.specs.Tables.{belongs}
use Rattle.nr_packs.proofs.Walked.{IsTaken}
use Rattle.nr_packs.proofs.parts.bytes_of_part.Given as goal

abbrev pub invariant-loop-field : goal.invariant-loop-field
invariant-loop-field l = IsTaken (belongs l.keys l.level l.count l.place) l.bytes l.rest l.kept.items l.pairs

abbrev pub decreases-loop-field : goal.decreases-loop-field
decreases-loop-field l = length l.rest
