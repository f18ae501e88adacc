-- What keys hold as lists, hashes, sets and sorted sets (Redis data types): a missing key reads as the empty one, and one with nothing left in it is no key.
use Rattle.std.specs.Prelude.{ℕ, Bool, false, ◌==◌, List, length, Option, Some, None, Ok, ℤ, if◌then◌else◌}
use Rattle.std.specs.FinMap as map
use Rattle.std.specs.FinSet as set
use Rattle.nr_model.specs.Bytes.{Bytes}
use Rattle.nr_model.specs.Hashes.{Hash}
use Rattle.nr_model.specs.Sets.{Members}
use Rattle.nr_model.specs.SortedSets as sorted
use Rattle.nr_model.specs.Keyspace as keyspaces
use Rattle.nr_model.specs.Keyspace.{Key, key_of, Keyspace, Stored, Value, Text, Items, Fields, Scores}
use Rattle.nr_model.specs.Commands.Reading.{Read, fault, read_then}
use Rattle.nr_model.specs.declared.refused.Refused.TheVariants.{WrongType}

-- the items of a value, where it is a list
abbrev pub items_of : Value → Read (List Bytes)
items_of (Text text) = fault WrongType
items_of (Items items) = Ok items
items_of (Fields fields) = fault WrongType
items_of (keyspaces.Members members) = fault WrongType
items_of (Scores scores) = fault WrongType

-- its fields, where it is a hash
abbrev pub fields_of : Value → Read Hash
fields_of (Text text) = fault WrongType
fields_of (Items items) = fault WrongType
fields_of (Fields fields) = Ok fields
fields_of (keyspaces.Members members) = fault WrongType
fields_of (Scores scores) = fault WrongType

-- its members, where it is a set
abbrev pub members_of : Value → Read Members
members_of (Text text) = fault WrongType
members_of (Items items) = fault WrongType
members_of (Fields fields) = fault WrongType
members_of (keyspaces.Members members) = Ok members
members_of (Scores scores) = fault WrongType

-- its members with their scores, where it is a sorted set
abbrev pub scores_of : Value → Read sorted.Scores
scores_of (Text text) = fault WrongType
scores_of (Items items) = fault WrongType
scores_of (Fields fields) = fault WrongType
scores_of (keyspaces.Members members) = fault WrongType
scores_of (Scores scores) = Ok scores

-- what is stored, read so; none where there is no key
abbrev pub held_as : {A : Type 0} → (Value → Read A) → Option Stored → Read (Option A)
held_as read None = Ok None
held_as read (Some stored) = read_then (read stored.value) (λ a. Ok (Some a))

abbrev pub items_at : Keyspace → ℕ → Bytes → Read (Option (List Bytes))
items_at keyspace database name = held_as items_of (map.get keyspace (key_of database name))

abbrev pub fields_at : Keyspace → ℕ → Bytes → Read (Option Hash)
fields_at keyspace database name = held_as fields_of (map.get keyspace (key_of database name))

abbrev pub members_at : Keyspace → ℕ → Bytes → Read (Option Members)
members_at keyspace database name = held_as members_of (map.get keyspace (key_of database name))

abbrev pub scores_at : Keyspace → ℕ → Bytes → Read (Option sorted.Scores)
scores_at keyspace database name = held_as scores_of (map.get keyspace (key_of database name))

-- the deadline that a key has, if it is there and has one
abbrev pub deadline_of : Option Stored → Option ℤ
deadline_of None = None
deadline_of (Some stored) = stored.deadline

-- nothing is left in a value; a string may be empty
abbrev pub is_emptied : Value → Bool
is_emptied (Text text) = false
is_emptied (Items items) = length items == 0
is_emptied (Fields fields) = map.len fields == 0
is_emptied (keyspaces.Members members) = set.len members == 0
is_emptied (Scores scores) = map.len scores == 0

-- a key holds this from now on; with nothing left in it, it is no key
abbrev pub kept : Keyspace → Key → Stored → Keyspace
kept keyspace key stored = if is_emptied stored.value then map.remove keyspace key else map.insert keyspace key stored

-- a key holds this value from now on, under the deadline that it had
abbrev pub kept_under : Keyspace → Key → Value → Keyspace
kept_under keyspace key value = kept keyspace key (record { value = value; deadline = deadline_of (map.get keyspace key) })
