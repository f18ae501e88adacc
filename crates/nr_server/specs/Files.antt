-- What a settings file gives, and what is told of one that is refused.
use Rattle.std.specs.Prelude.{◌≡◌, ◌⊎◌, List, ℕ, Some, None}
use Rattle.std.specs.Str.{IsUtf8}
use Rattle.toml.specs.Data.{Members}
use Rattle.toml.specs.Parse.{parse_document}
use Rattle.nr_config.specs.declared.error.ConfigError.{ConfigError}
use Rattle.nr_config.specs.declared.error.ConfigError.TheVariants as errors
use Rattle.nr_config.specs.declared.settings.Settings.{Settings}
use Rattle.nr_config.specs.declared.given.Given.{Given}
use Rattle.nr_config.specs.Faults.{Refuses, Sets}
use Rattle.nr_config.specs.Given.{BlamesFirstWord}
use Rattle.nr_config.specs.Keys.{HasNoFault}
use Rattle.nr_config.specs.Places.{IsPlaceIn}
use Rattle.nr_config.specs.declared.place.TextPlace.{TextPlace}
use Rattle.nr_server.specs.declared.fault.Fault.{Fault}
use Rattle.nr_server.specs.declared.fault.Fault.TheVariants as faults

-- the fault of the program that tells this error
abbrev pub IsOf : ConfigError → Fault → Type 0
IsOf (errors.NotToml place) fault = fault ≡ faults.NotToml place
IsOf (errors.UnknownKey key) fault = fault ≡ faults.UnknownKey key
IsOf (errors.BadValue key kind) fault = fault ≡ faults.BadValue key kind
IsOf errors.Memory fault = fault ≡ faults.Memory

-- the bytes are a text that is TOML without fault, and each setting is as it says, or at its default
pub record AreSet (bytes : List ℕ) (settings : Settings) : Type 0 where
  pub text : IsUtf8 bytes
  pub file : Members
  pub toml : parse_document bytes ≡ Some file
  pub faultless : HasNoFault file
  pub sets : Sets file settings

-- the bytes are no text, and this is told of them
abbrev pub IsNoText : List ℕ → Fault → Type 0
IsNoText bytes fault = (¬ (IsUtf8 bytes)) × ((place : TextPlace) × (fault ≡ faults.NotToml place) × IsPlaceIn bytes place)

-- what is told of bytes, or want of memory
abbrev pub IsToldOf : List ℕ → Fault → Type 0
IsToldOf bytes faults.Read = ⊥
IsToldOf bytes faults.Write = ⊥
IsToldOf bytes faults.Memory = Unit {0}
IsToldOf bytes (faults.BadStep line) = ⊥
IsToldOf bytes (faults.Script file why) = ⊥
IsToldOf bytes (faults.Settings file why) = ⊥
IsToldOf bytes (faults.NotToml place) = ((¬ (IsUtf8 bytes)) ⊎ (parse_document bytes ≡ None)) × IsPlaceIn bytes place
IsToldOf bytes (faults.UnknownKey key) = IsUtf8 bytes × Refuses bytes (errors.UnknownKey key)
IsToldOf bytes (faults.BadValue key kind) = IsUtf8 bytes × Refuses bytes (errors.BadValue key kind)
IsToldOf bytes (faults.CannotListen address why) = ⊥
IsToldOf bytes faults.Listener = ⊥
IsToldOf bytes faults.NoThread = ⊥

-- what is told of words in the place of settings, or want of memory
abbrev pub TellsOfWords : Given → Fault → Type 0
TellsOfWords given fault = (error : ConfigError) × BlamesFirstWord given error × IsOf error fault
