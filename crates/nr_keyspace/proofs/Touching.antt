-- Who is told of touched keys, one after the other.
use Rattle.std.proofs.Common.{List, ◌++◌, sym, ap, ◌∙◌}
use Rattle.std.proofs.lemmas.List.Sums.{fold-append}
use Rattle.std.specs.Prelude.{fold}
use Rattle.nr_model.specs.Keyspace.{Key}
use Rattle.nr_keyspace.specs.Touched.{Touches}

-- of some keys, and then of others
pub touches_more : {T : Type 0} (after : T → Key → T) (a b c : T) (xs ys : List Key) → Touches after a b xs → Touches after b c ys → Touches after a c (xs ++ ys)
touches_more after a b c xs ys p q = q ∙ ap (λ told. fold after told ys) p ∙ sym (fold-append after a xs ys)
