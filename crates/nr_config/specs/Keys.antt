-- The keys of a settings file, the values that they may have, and what is read from them.
use Rattle.std.specs.Prelude.{◌≡◌, ◌≤◌, ℕ, ℤ, pos, negsuc, Bool, true, false, ◌&&◌, ◌++◌, List, [], ◌∷◌, length, map, Option, Some, None, IfSome, is_some, option_map, option_and_then, String, Vec, if◌then◌else◌, nat_le, codes, bytes_eq, string_bytes, unwrap_or}
use Rattle.std.specs.Fmt.{decimal}
use Rattle.std.specs.Option.{option_map_or}
use Rattle.std.specs.declared.alloc.Global.{Global}
use Rattle.toml.specs.Data.{Data, array, boolean, integer, Items, no_items, item, Members, get_member, as_str}
use Rattle.nr_config.specs.declared.keys.Kind.{Kind}
use Rattle.nr_config.specs.declared.keys.Kind.TheVariants.{Addresses, Number, Switch}

-- what the value of the setting of this name has to be, where there is one
abbrev pub kind_of : List ℕ → Option Kind
kind_of name =
    if bytes_eq name (codes "connections") then Some (Number 1 1024)
    else if bytes_eq name (codes "listen") then Some Addresses
    else if bytes_eq name (codes "nodes") then Some (Number 1 8)
    else if bytes_eq name (codes "places") then Some (Number 2 65536)
    else if bytes_eq name (codes "queue_limit") then Some (Number 1024 1073741824)
    else if bytes_eq name (codes "revive") then Some Switch
    else if bytes_eq name (codes "shutdown_seconds") then Some (Number 0 3600)
    else if bytes_eq name (codes "tcp_keepalive") then Some (Number 0 86400)
    else if bytes_eq name (codes "timeout") then Some (Number 0 2147483)
    else if bytes_eq name (codes "workers") then Some (Number 1 16)
    else None

-- what a user is told of it
abbrev pub kind_text : Kind → List ℕ
kind_text Addresses = codes "an address and a port, or a list of them"
kind_text (Number least most) = codes "from " ++ (decimal least ++ (codes " to " ++ decimal most))
kind_text Switch = codes "true or false"

abbrev pub natural : ℤ → Option ℕ
natural (pos n) = Some n
natural (negsuc n) = None

-- the whole number that a value is
abbrev pub whole_number : Data → Option ℕ
whole_number (integer z) = natural z
whole_number _ = None

-- which of true and false a value is
abbrev pub truth : Data → Option Bool
truth (boolean b) = Some b
truth _ = None

abbrev pub nonempty : List ℕ → Option (List ℕ)
nonempty [] = None
nonempty (byte ∷ rest) = Some (byte ∷ rest)

-- the text that a value is, where it isn't empty
abbrev pub address_of : Data → Option (List ℕ)
address_of value = option_and_then nonempty (as_str value)

-- the texts that the items are, in their order, where each is a text that isn't empty
abbrev pub texts_of : Items → Option (List (List ℕ))
texts_of no_items = Some []
texts_of (item value rest) = option_and_then (λ text. option_map (λ texts. text ∷ texts) (texts_of rest)) (address_of value)

-- the texts, where there are 1 to 16
abbrev pub few : List (List ℕ) → Option (List (List ℕ))
few texts = if nat_le 1 (length texts) && nat_le (length texts) 16 then Some texts else None

-- the addresses that a list gives
abbrev pub list_of : Items → Option (List (List ℕ))
list_of items = option_and_then few (texts_of items)

-- the addresses that a value gives: those of a list, or one alone
abbrev pub addresses_of : Data → Option (List (List ℕ))
addresses_of (array items) = list_of items
addresses_of value = option_map (λ text. text ∷ []) (address_of value)

-- addresses as their bytes
abbrev pub bytes_of : Vec (String Global) Global → List (List ℕ)
bytes_of addresses = map string_bytes addresses.items

-- a setting of this kind may be at this number
abbrev pub is_within : ℕ → Kind → Bool
is_within n Addresses = false
is_within n (Number least most) = nat_le least n && nat_le n most
is_within n Switch = false

-- the value is of this kind
abbrev pub fits : Kind → Data → Bool
fits Addresses value = is_some (addresses_of value)
fits (Number least most) value = option_map_or (λ n. is_within n (Number least most)) (whole_number value) false
fits Switch value = is_some (truth value)

-- a settings file may have this key with this value
abbrev pub is_allowed : List ℕ → Data → Bool
is_allowed key value = option_map_or (λ kind. fits kind value) (kind_of key) false

-- each key of the file is a setting's, with a value that it may have
abbrev pub HasNoFault : Members → Type 0
HasNoFault file = (key : List ℕ) → IfSome (get_member key file) (λ value. is_allowed key value ≡ true)

-- what a setting is at: its value in the file, or the default where the file has none
abbrev pub number_or : ℕ → Option Data → ℕ
number_or default None = default
number_or default (Some value) = unwrap_or (whole_number value) default

abbrev pub truth_or : Bool → Option Data → Bool
truth_or default None = default
truth_or default (Some value) = unwrap_or (truth value) default

abbrev pub addresses_or : List (List ℕ) → Option Data → List (List ℕ)
addresses_or default None = default
addresses_or default (Some value) = unwrap_or (addresses_of value) default

-- the number is one that the setting of this name may have
abbrev pub IsWithin : ℕ → Option Kind → Type 0
IsWithin n (Some (Number least most)) = (least ≤ n) × (n ≤ most)
IsWithin n _ = ⊥

abbrev pub IsInRange : List ℕ → ℕ → Type 0
IsInRange name n = IsWithin n (kind_of name)
