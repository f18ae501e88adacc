-- One key taken out, if it is there.
use Rattle.std.specs.Prelude.{◌≡◌, Bool, cond, [], ◌∷◌}
use Rattle.std.specs.FinMap as map
use Rattle.nr_model.specs.Keyspace.{Key, Keyspace}
use Rattle.nr_keyspace.specs.Touched.{Touches}

-- it is taken out, and told of, exactly where it was there
pub record Removes {T : Type 0} (telling : T → Key → T) (removed : Bool) (before after : Keyspace) (told told' : T) (key : Key) : Type 0 where
  pub was_there : removed ≡ map.contains_key before key
  pub keyspace : after ≡ cond removed (map.remove before key) before
  pub touched : Touches telling told told' (cond removed (key ∷ []) [])
