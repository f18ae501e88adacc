-- Which fault of a settings file is told, and what a file without one sets.
use Rattle.std.specs.Prelude.{◌≡◌, ℕ, false, List, [], ◌∷◌, map, Some, None, IfSome, true, codes, string_bytes}
use Rattle.std.specs.Ordering.{nat_cmp}
use Rattle.std.specs.Cmp.Lexicographic.{slice_cmp}
use Rattle.std.specs.declared.cmp.Ordering.TheVariants.{Less}
use Rattle.toml.specs.Data.{Data, Members, get_member}
use Rattle.toml.specs.Errors.{IsMemory}
use Rattle.toml.specs.Parse.{parse_document}
use Rattle.toml.specs.declared.de.error.Error.{Error}
use Rattle.nr_config.specs.Keys.{kind_of, is_allowed, addresses_or, number_or, truth_or}
use Rattle.nr_config.specs.Places.{IsPlaceIn}
use Rattle.nr_config.specs.declared.error.ConfigError.{ConfigError}
use Rattle.nr_config.specs.declared.error.ConfigError.TheVariants.{NotToml, UnknownKey, BadValue, Memory}
use Rattle.nr_config.specs.declared.settings.Settings.{Settings}

-- what is told of a key with its value, or want of memory
abbrev pub Blames : List ℕ → Data → ConfigError → Type 0
Blames key value (UnknownKey name) = (string_bytes name ≡ key) × (kind_of key ≡ None)
Blames key value (BadValue name kind) = (string_bytes name ≡ key) × (kind_of key ≡ Some kind) × (is_allowed key value ≡ false)
Blames key value (NotToml place) = ⊥
Blames key value Memory = Unit {0}

-- the file has this key with a value that it may not have, and no such key before it in byte order
pub record IsFirstFault (file : Members) (key : List ℕ) : Type 0 where
  pub value : Data
  pub there : get_member key file ≡ Some value
  pub refused : is_allowed key value ≡ false
  pub first : (other : List ℕ) → slice_cmp nat_cmp other key ≡ Less → IfSome (get_member other file) (λ found. is_allowed other found ≡ true)

-- what is told of a file that is TOML, or want of memory
abbrev pub BlamesFirst : Members → ConfigError → Type 0
BlamesFirst file (UnknownKey name) = IsFirstFault file (string_bytes name) × (kind_of (string_bytes name) ≡ None)
BlamesFirst file (BadValue name kind) = IsFirstFault file (string_bytes name) × (kind_of (string_bytes name) ≡ Some kind)
BlamesFirst file (NotToml place) = ⊥
BlamesFirst file Memory = Unit {0}

-- what is made of a refusal of the library
abbrev pub IsMadeOf : List ℕ → Error → ConfigError → Type 0
IsMadeOf text error (NotToml place) = (¬ (IsMemory error)) × IsPlaceIn text place
IsMadeOf text error (UnknownKey name) = ⊥
IsMadeOf text error (BadValue name kind) = ⊥
IsMadeOf text error Memory = IsMemory error

-- what is told of a text, or want of memory
abbrev pub Refuses : List ℕ → ConfigError → Type 0
Refuses text (NotToml place) = (parse_document text ≡ None) × IsPlaceIn text place
Refuses text (UnknownKey name) = (file : Members) × (parse_document text ≡ Some file) × BlamesFirst file (UnknownKey name)
Refuses text (BadValue name kind) = (file : Members) × (parse_document text ≡ Some file) × BlamesFirst file (BadValue name kind)
Refuses text Memory = Unit {0}

-- each setting is as the file says, or at its default
pub record Sets (file : Members) (settings : Settings) : Type 0 where
  pub listen : map string_bytes settings.listen.items ≡ addresses_or (codes "127.0.0.1:6379" ∷ []) (get_member (codes "listen") file)
  pub nodes : settings.nodes ≡ number_or 2 (get_member (codes "nodes") file)
  pub places : settings.places ≡ number_or 1024 (get_member (codes "places") file)
  pub workers : settings.workers ≡ number_or 2 (get_member (codes "workers") file)
  pub connections : settings.connections ≡ number_or 256 (get_member (codes "connections") file)
  pub queue_limit : settings.queue_limit ≡ number_or 67108864 (get_member (codes "queue_limit") file)
  pub tcp_keepalive : settings.tcp_keepalive ≡ number_or 300 (get_member (codes "tcp_keepalive") file)
  pub timeout : settings.timeout ≡ number_or 0 (get_member (codes "timeout") file)
  pub shutdown_seconds : settings.shutdown_seconds ≡ number_or 5 (get_member (codes "shutdown_seconds") file)
  pub revive : settings.revive ≡ truth_or true (get_member (codes "revive") file)
