use Rattle.std.proofs.Common.{◌∙◌, ap, sym, eq-eqb}
use Rattle.std.proofs.lemmas.Bool.{eqb-true}
use Rattle.std.proofs.lemmas.List.{nil_from_length}
use Rattle.std.specs.FinSet as set
use Rattle.std.specs.Map.{keys_of}
use Rattle.nr_packs.specs.Packed.{Entries}
use Rattle.nr_sets.specs.Forms.{entries_of}
use Rattle.nr_model.specs.Keyspace.{byte_cmp}
use Rattle.nr_sets.proofs.Seen.{none_seen, counted_seen}
use Rattle.nr_sets.proofs.set.Set.is_empty.Goals as goal

pub returns : goal.returns
returns c =
    let entries = entries_of c.self.inside.form in (
      λ empty. sym c.self.view_is
          ∙ none_seen (keys_of entries) (ap (λ (es : Entries). keys_of es) (nil_from_length entries (sym c.len.ensures.len ∙ eqb-true c.len.result 0 empty))),
      λ none. eq-eqb c.len.result 0 (c.len.ensures.len ∙ sym (counted_seen entries c.self.invariant.ordered) ∙ ap set.len (c.self.view_is ∙ none) ∙ set.len-empty byte_cmp),
    )
