-- How names of commands begin.
use Rattle.std.specs.Prelude.{ℕ, Bool, false, ◌==◌, [], ◌∷◌}
use Rattle.nr_model.specs.Bytes.{Bytes}

-- a word begins with a letter
abbrev pub begins_with : ℕ → Bytes → Bool
begins_with letter [] = false
begins_with letter (byte ∷ bytes) = byte == letter
