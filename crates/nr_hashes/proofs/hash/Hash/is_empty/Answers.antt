use Rattle.std.proofs.Common.{◌∙◌, sym, eq-eqb}
use Rattle.std.proofs.lemmas.Bool.{eqb-true}
use Rattle.std.proofs.lemmas.List.{nil_from_length}
use Rattle.nr_hashes.specs.Forms.{entries_of}
use Rattle.nr_hashes.proofs.Seen.{none_seen, seen_none}
use Rattle.nr_hashes.proofs.hash.Hash.is_empty.Goals as goal

pub returns : goal.returns
returns c =
    let entries = entries_of c.self.inside.form in (
      λ empty. sym c.self.view_is ∙ none_seen entries (nil_from_length entries (sym c.len.ensures.len ∙ eqb-true c.len.result 0 empty)),
      λ none. eq-eqb c.len.result 0 (c.len.ensures.len ∙ seen_none entries c.self.invariant (c.self.view_is ∙ none)),
    )
