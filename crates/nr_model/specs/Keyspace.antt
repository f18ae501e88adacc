-- Values, keys with their deadlines, and what of them is live at a moment.
use Rattle.std.specs.Prelude.{◌≡◌, ℕ, ◌^◌, Bool, true, List, filter, ◌==◌, Option, Some, None, ℤ, pos, int_lt, min, refl, ◌⊎◌, if◌then◌else◌}
use Rattle.std.specs.Prelude as prelude
use mathlib.Core.Logic.{inl, inr}
use Rattle.std.specs.declared.cmp.Ordering.{Ordering}
use Rattle.std.specs.Ordering.{nat_cmp, ordering_then}
use Rattle.std.specs.Cmp.Lexicographic.{slice_cmp}
use Rattle.std.specs.FinMap as map
use Rattle.std.specs.FinSet as set
use Rattle.std.specs.Coded.{Coded, code_by, coded×, coded⊎, coded_ℕ, coded_ℤ, coded_list, coded_option}
use Rattle.nr_model.specs.Bytes.{Bytes}

-- byte order: the first byte that differs decides, and a front comes before the whole
abbrev pub byte_cmp : Bytes → Bytes → Ordering
byte_cmp = slice_cmp nat_cmp

-- The value of a key: a string, a list, a hash, a set, or a sorted set as the map from member to score (Redis data types; whole scores own)
pub data Value : Type 0 where
  Text : Bytes → Value
  Items : List Bytes → Value
  Fields : map.FinMap byte_cmp Bytes → Value
  Members : set.FinSet byte_cmp → Value
  Scores : map.FinMap byte_cmp ℤ → Value

-- a key: its database, from 0 to 15, and its name
pub record Key : Type 0 where
  pub database : ℕ
  pub name : Bytes

abbrev pub key_of : ℕ → Bytes → Key
key_of database name = record { database = database; name = name }

abbrev pub how_many_databases : ℕ
how_many_databases = 16

-- of two databases each stands for the other
abbrev pub other_of : ℕ → ℕ → ℕ → ℕ
other_of a b database = if database == a then b else (if database == b then a else database)

abbrev pub exchanged : ℕ → ℕ → Key → Key
exchanged a b key = key_of (other_of a b key.database) key.name

-- by database, and then by name
abbrev pub key_cmp : Key → Key → Ordering
key_cmp a b = ordering_then (nat_cmp a.database b.database) (byte_cmp a.name b.name)

-- what a key holds: a value, and the millisecond from which it is gone, if there is one
pub record Stored : Type 0 where
  pub value : Value
  pub deadline : Option ℤ

abbrev pub Keyspace : Type 0
Keyspace = map.FinMap key_cmp Stored

-- Moments are milliseconds from 0 to 2^53; a greater one counts as 2^53 (own)
abbrev pub last_moment : ℕ
last_moment = 2 ^ 53

abbrev pub moment : ℕ → ℕ
moment milliseconds = min milliseconds last_moment

-- a key is live before its deadline, and gone at and after it (own; Redis: after it)
abbrev pub is_live_at : ℕ → Option ℤ → Bool
is_live_at now None = true
is_live_at now (Some deadline) = int_lt (pos now) deadline

abbrev pub is_stored_live : ℕ → Option Stored → Bool
is_stored_live now None = true
is_stored_live now (Some stored) = is_live_at now stored.deadline

-- what is live of what a key holds
abbrev pub only_live : ℕ → Option Stored → Option Stored
only_live now None = None
only_live now (Some stored) = if is_live_at now stored.deadline then Some stored else None

-- the keys that are live at a moment, with their values and deadlines
abbrev pub live : Keyspace → ℕ → Keyspace
live keyspace now = map.retain_keys keyspace (λ key. is_stored_live now (map.get keyspace key))

-- the names of a database's keys, in byte order
abbrev pub names_in : Keyspace → ℕ → List Bytes
names_in keyspace database = prelude.map (λ key. key.name) (filter (λ key. key.database == database) (map.keys keyspace))

-- Codes, by which a keyspace can be what contracts see of a type.
abbrev pub coded_bytes : Coded Bytes
coded_bytes = coded_list coded_ℕ

abbrev pub Values : Type 0
Values = Bytes ⊎ (List Bytes ⊎ (map.FinMap byte_cmp Bytes ⊎ (set.FinSet byte_cmp ⊎ map.FinMap byte_cmp ℤ)))

abbrev pub coded_values : Coded Values
coded_values = coded⊎ coded_bytes (coded⊎ (coded_list coded_bytes)
    (coded⊎ (map.code coded_bytes coded_bytes) (coded⊎ (set.code coded_bytes) (map.code coded_bytes coded_ℤ))))

abbrev pub values_of : Value → Values
values_of (Text bytes) = inl bytes
values_of (Items items) = inr (inl items)
values_of (Fields fields) = inr (inr (inl fields))
values_of (Members members) = inr (inr (inr (inl members)))
values_of (Scores scores) = inr (inr (inr (inr scores)))

abbrev pub value_of : Values → Value
value_of (inl bytes) = Text bytes
value_of (inr (inl items)) = Items items
value_of (inr (inr (inl fields))) = Fields fields
value_of (inr (inr (inr (inl members)))) = Members members
value_of (inr (inr (inr (inr scores)))) = Scores scores

pub value_of-values_of : (value : Value) → value_of (values_of value) ≡ value
value_of-values_of (Text bytes) = refl
value_of-values_of (Items items) = refl
value_of-values_of (Fields fields) = refl
value_of-values_of (Members members) = refl
value_of-values_of (Scores scores) = refl

abbrev pub coded_value : Coded Value
coded_value = code_by Values coded_values values_of value_of value_of-values_of

abbrev pub coded_key : Coded Key
coded_key = code_by (ℕ × Bytes) (coded× coded_ℕ coded_bytes) (λ k. (k.database, k.name)) (λ p. record { database = p.0; name = p.1 }) (λ _. refl)

abbrev pub coded_stored : Coded Stored
coded_stored = code_by (Value × Option ℤ) (coded× coded_value (coded_option coded_ℤ)) (λ s. (s.value, s.deadline))
    (λ p. record { value = p.0; deadline = p.1 }) (λ _. refl)

abbrev pub coded_keyspace : Coded Keyspace
coded_keyspace = map.code coded_key coded_stored
