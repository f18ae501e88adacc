use Rattle.nr_zsets.specs.Scores.{scores_of}
use Rattle.nr_zsets.proofs.Mapped.{IsCopied}
use Rattle.nr_zsets.proofs.index.copy_scores.Given as goal

abbrev pub invariant-loop-member : goal.invariant-loop-member
invariant-loop-member l = IsCopied (scores_of l.fn.scores.entries) l.copied.entries l.member-iterator
