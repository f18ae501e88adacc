use Rattle.std.proofs.Common.{◌∙◌, ap, sym}
use Rattle.std.specs.FinMap as map
use Rattle.nr_hashes.specs.Forms.{entries_of}
use Rattle.nr_hashes.proofs.Seen.{get_seen}
use Rattle.nr_hashes.proofs.hash.Hash.get.Goals as goal

pub returns : goal.returns
returns c =
    c.get.ensures ∙ sym (get_seen (entries_of c.self.inside.form) c.self.invariant c.args.field.now) ∙ ap (λ hash. map.get hash c.args.field.now) c.self.view_is
