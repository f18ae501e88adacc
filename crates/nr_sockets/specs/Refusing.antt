-- What one too many is told.
use Rattle.std.specs.Prelude.{ℕ, List, [], ◌∷◌, ◌++◌, Option, take, codes}
use Rattle.std.specs.Io.KnownBytes.{Appends}

-- that there is no room for it
abbrev pub refusal : List ℕ
refusal = codes "-ERR max number of clients reached" ++ 13 ∷ 10 ∷ []

-- a writer took a beginning of that
abbrev pub IsTold : Option (List ℕ) → Option (List ℕ) → Type 0
IsTold old new = (count : ℕ) × Appends old new (take count refusal)
