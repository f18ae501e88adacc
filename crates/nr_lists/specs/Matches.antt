-- What is looked at, one item after another.
use Rattle.std.specs.Prelude.{ℕ, zero, suc, ◌-◌, min, List, [], ◌∷◌}
use Rattle.nr_model.specs.Bytes.{Bytes}
use Rattle.nr_model.specs.Lists.{seen_from, without_first}
use Rattle.nr_model.specs.declared.command.End.{End}
use Rattle.nr_model.specs.declared.command.End.TheVariants.{Left, Right}

-- a limit, or all where it is 0 or greater
abbrev pub limit_of : ℕ → ℕ → ℕ
limit_of zero all = all
limit_of (suc n) all = min (suc n) all

-- the place of what is looked at after so many from an end
abbrev pub place_from : End → ℕ → ℕ → ℕ
place_from Left len seen = seen
place_from Right len seen = len - 1 - seen

-- a block without the first so many that are this item, looked at from an end
abbrev pub thin : End → ℕ → Bytes → List Bytes → List Bytes
thin end most item block = seen_from end (without_first most item (seen_from end block))

-- a block that is not empty
abbrev pub some_of : List Bytes → List (List Bytes)
some_of [] = []
some_of (x ∷ xs) = (x ∷ xs) ∷ []
