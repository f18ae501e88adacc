-- Words two by two.
use Rattle.std.specs.Prelude.{List, [], ◌∷◌}
use Rattle.nr_model.specs.Bytes.{Bytes}

-- keys with their texts, in turn; a last word alone is left out
abbrev pub couples : List Bytes → List (Bytes × Bytes)
couples [] = []
couples (name ∷ []) = []
couples (name ∷ text ∷ words) = (name, text) ∷ couples words
