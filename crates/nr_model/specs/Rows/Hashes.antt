-- Fields and their values, at some hashes.
use Rattle.std.specs.Prelude.{◌≡◌, [], ◌∷◌, Some, None}
use Rattle.std.specs.FinMap as map
use Rattle.nr_model.specs.Bytes.{Bytes}
use Rattle.nr_model.specs.Hashes.{Hash, in_turn}

-- f, g and two values
abbrev f : Bytes
f = 102 ∷ []

abbrev g : Bytes
g = 103 ∷ []

abbrev one : Bytes
one = 49 ∷ []

abbrev two : Bytes
two = 50 ∷ []

-- g, then f
abbrev both : Hash
both = map.insert (map.insert map.empty g two) f one

pub record HashRows : Type 0 where
  pub in_byte_order : in_turn both ≡ f ∷ one ∷ g ∷ two ∷ []
  pub again : in_turn (map.insert both g one) ≡ f ∷ one ∷ g ∷ one ∷ []
  pub found : map.get both g ≡ Some two
  pub gone : map.get (map.remove both f) f ≡ None
