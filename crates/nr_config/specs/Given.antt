-- What words of the command line make of the settings of a file.
use Rattle.std.specs.Prelude.{◌≡◌, ◌⊎◌, ◌<◌, ◌^◌, ℕ, List, [], ◌∷◌, map, Option, Some, None, codes, option_map, string_bytes}
use Rattle.std.specs.Str.Parse.{IsNumeral, digits_value, without_leading_plus}
use Rattle.nr_config.specs.Keys.{kind_of, IsWithin}
use Rattle.nr_config.specs.declared.error.ConfigError.{ConfigError}
use Rattle.nr_config.specs.declared.error.ConfigError.TheVariants.{NotToml, UnknownKey, BadValue, Memory}
use Rattle.nr_config.specs.declared.given.Given.{Given}
use Rattle.nr_config.specs.declared.keys.Kind.{Kind}
use Rattle.nr_config.specs.declared.settings.Settings.{Settings}

-- the word spells the number, in decimal digits, behind a plus or not
pub record IsNumberWord (word : List ℕ) (n : ℕ) : Type 0 where
  pub digits : IsNumeral 10 (without_leading_plus word)
  pub value : n ≡ digits_value 10 (without_leading_plus word)
  pub small : n < 2 ^ 64

-- the word spells the number, and the number is one that a setting of this kind may have
abbrev pub IsWordFor : Option Kind → List ℕ → ℕ → Type 0
IsWordFor kind word n = IsNumberWord word n × IsWithin n kind

-- the word spells no number that a setting of this kind may have
abbrev pub IsRefusedFor : Option Kind → List ℕ → Type 0
IsRefusedFor kind word = (n : ℕ) → ¬ IsWordFor kind word n

-- the number of a setting: the one that the word spells, where there is a word
abbrev pub IsGivenOr : ℕ → Option Kind → Option (List ℕ) → ℕ → Type 0
IsGivenOr number kind None n = n ≡ number
IsGivenOr number kind (Some word) n = IsWordFor kind word n

-- where there is a word, it spells a number that a setting of this kind may have
abbrev pub IsTaken : Option Kind → Option (List ℕ) → Type 0
IsTaken kind None = Unit {0}
IsTaken kind (Some word) = (n : ℕ) × IsWordFor kind word n

-- what is told of a word for the setting of this name, or want of memory
abbrev pub BlamesWord : List ℕ → List ℕ → ConfigError → Type 0
BlamesWord key word (NotToml place) = ⊥
BlamesWord key word (UnknownKey name) = (string_bytes name ≡ key) × (kind_of key ≡ None)
BlamesWord key word (BadValue name kind) = (string_bytes name ≡ key) × (kind_of key ≡ Some kind) × IsRefusedFor (kind_of key) word
BlamesWord key word Memory = Unit {0}

abbrev pub BlamesGiven : List ℕ → Option (List ℕ) → ConfigError → Type 0
BlamesGiven key None why = ⊥
BlamesGiven key (Some word) why = BlamesWord key word why

-- the addresses: the one that a word gives, where there is a word, in the place of all
abbrev pub given_or : List (List ℕ) → Option (List ℕ) → List (List ℕ)
given_or addresses None = addresses
given_or addresses (Some word) = word ∷ []

-- each setting is what its word says, where there is one, and else as it was
pub record Replaces (old : Settings) (given : Given) (new : Settings) : Type 0 where
  pub listen : map string_bytes new.listen.items ≡ given_or (map string_bytes old.listen.items) (option_map string_bytes given.listen)
  pub nodes : IsGivenOr old.nodes (kind_of (codes "nodes")) (option_map string_bytes given.nodes) new.nodes
  pub places : new.places ≡ old.places
  pub workers : IsGivenOr old.workers (kind_of (codes "workers")) (option_map string_bytes given.workers) new.workers
  pub connections : IsGivenOr old.connections (kind_of (codes "connections")) (option_map string_bytes given.connections) new.connections
  pub queue_limit : new.queue_limit ≡ old.queue_limit
  pub tcp_keepalive : new.tcp_keepalive ≡ old.tcp_keepalive
  pub timeout : new.timeout ≡ old.timeout
  pub shutdown_seconds : new.shutdown_seconds ≡ old.shutdown_seconds
  pub revive : new.revive ≡ old.revive

-- what is told of the first word that spells no number of its setting, or want of memory
abbrev pub BlamesFirstWord : Given → ConfigError → Type 0
BlamesFirstWord given why =
    let connections = option_map string_bytes given.connections in
    let nodes = option_map string_bytes given.nodes in
    let workers = option_map string_bytes given.workers in
    BlamesGiven (codes "connections") connections why
    ⊎ (IsTaken (kind_of (codes "connections")) connections
    × (BlamesGiven (codes "nodes") nodes why ⊎ (IsTaken (kind_of (codes "nodes")) nodes × BlamesGiven (codes "workers") workers why)))
