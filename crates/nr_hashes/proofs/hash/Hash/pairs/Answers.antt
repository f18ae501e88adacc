use Rattle.std.proofs.Common.{◌∙◌, ap, sym}
use Rattle.std.specs.FinMap as map
use Rattle.nr_hashes.specs.Forms.{entries_of}
use Rattle.nr_hashes.proofs.Seen.{entries_seen}
use Rattle.nr_hashes.proofs.hash.Hash.pairs.Goals as goal

pub returns : goal.returns
returns c = c.in_ok-pairs.ensures ∙ sym (entries_seen (entries_of c.self.inside.form) c.self.invariant) ∙ ap (λ hash. map.entries hash) c.self.view_is
