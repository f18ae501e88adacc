-- What is told of the first member that is not allowed is what is told of the file.
use Rattle.std.proofs.Common.{◌≡◌, ◌∙◌, ℕ, List, ◌∷◌, Some, None, String, Global, sym, false, string_bytes, ap}
use Rattle.std.specs.List.Sorted.{IsStrictlySortedBy}
use Rattle.std.specs.Map.{keys_of}
use Rattle.std.specs.String.{string_cmp}
use Rattle.toml.specs.Data.{Data, Members}
use Rattle.toml.specs.View.{view, members_view}
use Rattle.toml.specs.declared.value.Value.{Value}
use Rattle.nr_config.specs.Keys.{kind_of, is_allowed}
use Rattle.nr_config.specs.Faults.{Blames, BlamesFirst, IsFirstFault}
use Rattle.nr_config.specs.declared.error.ConfigError.{ConfigError}
use Rattle.nr_config.specs.declared.error.ConfigError.TheVariants.{NotToml, UnknownKey, BadValue, Memory}
use Rattle.nr_config.proofs.Firsts.{IsAscending, ascending, first_fault, is_first}

unknown_is_refused : (key : List ℕ) (value : Data) → kind_of key ≡ None → is_allowed key value ≡ false
unknown_is_refused key value e = rw e

first_told : (file : Members) (key name : List ℕ) (value : Data) → IsAscending file → first_fault is_allowed file ≡ Some (key, value) → name ≡ key → IsFirstFault file name
first_told file key name value ascends found same =
    let is = is_first is_allowed file key value ascends found in
    rw same (record { value = value; there = is.there; refused = is.refused; first = is.first })

told : (file : Members) (key : List ℕ) (value : Data) (why : ConfigError) → IsAscending file
    → (is_allowed key value ≡ false → first_fault is_allowed file ≡ Some (key, value)) → Blames key value why → BlamesFirst file why
told file key value (UnknownKey name) ascends found blames = (
  first_told file key (string_bytes name) value ascends (found (unknown_is_refused key value blames.1)) blames.0,
  ap kind_of blames.0 ∙ blames.1,
)
told file key value (BadValue name kind) ascends found blames =
    (first_told file key (string_bytes name) value ascends (found blames.2) blames.0, ap kind_of blames.0 ∙ blames.1)
told file key value (NotToml place) ascends found blames = blames
told file key value Memory ascends found blames = tt

-- the same at the entries of a table, where what is left of them has the first fault of all
pub told_at : (entries rest behind : List (String Global × Value)) (name : String Global) (value : Value) (key : List ℕ) (why : ConfigError)
    → IsStrictlySortedBy string_cmp (keys_of entries) → first_fault is_allowed (members_view rest) ≡ first_fault is_allowed (members_view entries)
    → rest ≡ (name, value) ∷ behind → key ≡ string_bytes name → Blames key (view value) why → BlamesFirst (members_view entries) why
told_at entries rest behind name value key why sorted same parts read blames =
    told (members_view entries) key (view value) why (ascending entries sorted)
    (λ refused. let here : is_allowed (string_bytes name) (view value) ≡ false = rw (← read) refused in
    sym same ∙ ap (λ left. first_fault is_allowed (members_view left)) parts ∙ rw (here, read))
    blames
