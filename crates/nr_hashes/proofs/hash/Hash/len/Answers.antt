use Rattle.std.proofs.Common.{◌∙◌, ap, sym}
use Rattle.std.specs.FinMap as map
use Rattle.nr_hashes.specs.Forms.{entries_of}
use Rattle.nr_hashes.proofs.Seen.{len_seen}
use Rattle.nr_hashes.proofs.hash.Hash.len.Goals as goal

pub returns-clause-len : goal.returns-clause-len
returns-clause-len c = c.len.ensures.len ∙ sym (len_seen (entries_of c.self.inside.form) c.self.invariant) ∙ ap map.len c.self.view_is
