use Rattle.std.proofs.Common.{◌≡◌, drop}
use Rattle.nr_zsets.specs.Forms.{items_of}
use Rattle.nr_zsets.specs.Scores.{scores_of}
use Rattle.nr_zsets.proofs.index.map_of.Given as goal

-- those from a place on were put in
abbrev pub invariant-loop-place : goal.invariant-loop-place
invariant-loop-place l = scores_of l.scores.entries ≡ scores_of (drop l.place (items_of l.form))
