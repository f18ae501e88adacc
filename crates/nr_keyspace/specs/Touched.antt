-- Whoever is told of touched keys, one after the other.
use Rattle.std.specs.Prelude.{◌≡◌, List, fold}
use Rattle.nr_model.specs.Keyspace.{Key}

-- it was told of these keys, and of no others, where it comes to this with one
abbrev pub Touches : {T : Type 0} → (T → Key → T) → T → T → List Key → Type 0
Touches after told told' keys = told' ≡ fold after told keys
