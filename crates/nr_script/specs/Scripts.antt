-- What a script prints: all of it, or what stood before its end.
use Rattle.std.specs.Prelude.{◌≡◌, ℕ, ◌+◌, List, ◌∷◌, ◌++◌, length, Option}
use Rattle.std.specs.Io.KnownBytes.{Appends}
use Rattle.nr_model.specs.Bytes.{Bytes}
use Rattle.nr_script.specs.declared.player.PlayError.{PlayError}
use Rattle.nr_script.specs.declared.player.PlayError.TheVariants as plays
use Rattle.nr_script.specs.declared.playing.ScriptError.{ScriptError}
use Rattle.nr_script.specs.declared.playing.ScriptError.TheVariants as scripts
use Rattle.nr_script.specs.Playing.{Played, ArePlayed, IsBad, begun}

-- a line that can't be taken ends a script by its number
abbrev pub ended_at : ℕ → PlayError → ScriptError
ended_at number plays.BadStep = scripts.BadStep number
ended_at number plays.Memory = scripts.Memory

-- a script was ended by the line of this number, which can't be taken, or by memory
abbrev pub IsEnded : ScriptError → ℕ → Bytes → Played → Type 0
IsEnded (scripts.BadStep n) number line last = (n ≡ number) × IsBad line last
IsEnded scripts.Memory number line last = Unit {0}
IsEnded scripts.Write number line last = ⊥

-- lines were played from the beginning on, and what they printed was written
pub record Prints (lines : List Bytes) (last : Played) (old new : Option Bytes) : Type 0 where
  pub printed : Bytes
  pub played : ArePlayed lines begun last printed
  pub appends : Appends old new printed

-- so were all lines
pub record PrintsAll (lines : List Bytes) (old new : Option Bytes) : Type 0 where
  pub last : Played
  pub prints : Prints lines last old new

-- those before the line of this number were, which can't be taken
pub record PrintsTo (number : ℕ) (lines : List Bytes) (old new : Option Bytes) : Type 0 where
  pub front : List Bytes
  pub line : Bytes
  pub behind : List Bytes
  pub are : lines ≡ front ++ line ∷ behind
  pub number_is : number ≡ length front + 1
  pub last : Played
  pub prints : Prints front last old new
  pub bad : IsBad line last

-- those before some line were
pub record PrintsFront (lines : List Bytes) (old new : Option Bytes) : Type 0 where
  pub front : List Bytes
  pub behind : List Bytes
  pub are : lines ≡ front ++ behind
  pub last : Played
  pub prints : Prints front last old new

-- what was written where a script ended before its last line; of a writer that failed nothing is known
abbrev pub EndsBy : ScriptError → List Bytes → Option Bytes → Option Bytes → Type 0
EndsBy (scripts.BadStep number) lines old new = PrintsTo number lines old new
EndsBy scripts.Memory lines old new = PrintsFront lines old new
EndsBy scripts.Write lines old new = Unit {0}
