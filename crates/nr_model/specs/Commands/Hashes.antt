-- Hashes (Redis command reference, hash; listings in byte order: own).
use Rattle.std.specs.Prelude.{ℕ, ◌==◌, ◌%◌, Bool, true, false, List, [], ◌∷◌, length, map, fold, Option, Some, None, Ok, ℤ, pos, ◌-ℤ◌, if◌then◌else◌}
use Rattle.std.specs.Ordering.{int_eq}
use Rattle.std.specs.Fmt.{signed_decimal}
use Rattle.std.specs.FinMap as finmap
use Rattle.nr_model.specs.Bytes.{Bytes}
use Rattle.nr_model.specs.Numbers.{int_value}
use Rattle.nr_model.specs.Hashes.{Hash, in_turn}
use Rattle.nr_model.specs.Replies.{Reply, Int, Bulk, array}
use Rattle.nr_model.specs.Keyspace.{Key, key_of, Keyspace, Fields}
use Rattle.nr_model.specs.Commands.Shape.{Effect, unchanged, refusal, answered, performed}
use Rattle.nr_model.specs.Commands.Reading.{Read, fault, read_then, one_word, two_words, three_words, integer, integer_or}
use Rattle.nr_model.specs.Commands.Held.{fields_at, kept_under}
use Rattle.nr_model.specs.Commands.Strings.{or_empty, bulk_or_null, sum_of}
use Rattle.nr_model.specs.Commands.Texts.{ok}
use Rattle.nr_model.specs.declared.refused.Refused.{Refused}
use Rattle.nr_model.specs.declared.refused.Refused.TheVariants.{Syntax, HashNotAnInteger, HSetArity, HMSetArity}
use Rattle.nr_model.specs.declared.command.HashesLook.{HashesLook}
use Rattle.nr_model.specs.declared.command.HashesLook.TheVariants as looks
use Rattle.nr_model.specs.declared.command.HashesChange.{HashesChange}
use Rattle.nr_model.specs.declared.command.HashesChange.TheVariants as changes

-- a missing key reads as the hash without fields
abbrev pub or_none : Option Hash → Hash
or_none None = finmap.empty
or_none (Some fields) = fields

-- what a key holds as a hash
abbrev pub hash_at : Keyspace → ℕ → Bytes → Read Hash
hash_at keyspace database name = read_then (fields_at keyspace database name) (λ held. Ok (or_none held))

-- 1 where it is so
abbrev pub one_if : Bool → Reply
one_if true = Int (pos 1)
one_if false = Int (pos 0)

-- HGET key field: its value, or the null bulk
abbrev pub hget : Keyspace → ℕ → List Bytes → Reply
hget keyspace database words =
    answered (two_words words) (λ pair. answered (hash_at keyspace database pair.0) (λ fields. bulk_or_null (finmap.get fields pair.1)))

-- HMGET key field [field ..]: each one's value, or the null bulk
abbrev pub hmget : Keyspace → ℕ → List Bytes → Reply
hmget keyspace database [] = refusal Syntax
hmget keyspace database (name ∷ names) =
    answered (hash_at keyspace database name) (λ fields. array (map (λ field. bulk_or_null (finmap.get fields field)) names))

-- HLEN key: how many fields
abbrev pub hlen : Keyspace → ℕ → List Bytes → Reply
hlen keyspace database words =
    answered (one_word words) (λ name. answered (hash_at keyspace database name) (λ fields. Int (pos (finmap.len fields))))

-- HEXISTS key field
abbrev pub hexists : Keyspace → ℕ → List Bytes → Reply
hexists keyspace database words =
    answered (two_words words) (λ pair. answered (hash_at keyspace database pair.0) (λ fields. one_if (finmap.contains_key fields pair.1)))

-- HSTRLEN key field: how long its value is
abbrev pub hstrlen : Keyspace → ℕ → List Bytes → Reply
hstrlen keyspace database words =
    answered (two_words words) (λ pair.
    answered (hash_at keyspace database pair.0) (λ fields. Int (pos (length (or_empty (finmap.get fields pair.1))))))

-- HKEYS key, HVALS key, HGETALL key: fields, values, or each field and its value in turn
abbrev pub listed : (Hash → List Bytes) → Keyspace → ℕ → List Bytes → Reply
listed items keyspace database words =
    answered (one_word words) (λ name. answered (hash_at keyspace database name) (λ fields. array (map Bulk (items fields))))

-- a key that holds these fields from now on, under the deadline that it had
abbrev pub holding : Keyspace → Key → Hash → Reply → Effect
holding keyspace key fields reply = record { reply = reply; keyspace = kept_under keyspace key (Fields fields); touched = key ∷ [] }

-- a hash with more fields, each in front of its value; of a field that is named twice the last value holds
abbrev pub with_fields : Hash → List Bytes → Hash
with_fields fields [] = fields
with_fields fields (field ∷ []) = fields
with_fields fields (field ∷ value ∷ words) = with_fields (finmap.insert fields field value) words

-- a key, and fields in front of their values
pub record SetRequest : Type 0 where
  pub name : Bytes
  pub pairs : List Bytes

-- an odd number of words behind the key is refused so
abbrev pub set_request : Refused → List Bytes → Read SetRequest
set_request odd [] = fault Syntax
set_request odd (name ∷ words) = if length words % 2 == 0 then Ok (record { name = name; pairs = words }) else fault odd

-- each field holds its value; the reply is made of how many are new
abbrev pub set_fields : Refused → (ℤ → Reply) → Keyspace → ℕ → List Bytes → Effect
set_fields odd reply keyspace database words =
    performed keyspace (set_request odd words) (λ request.
    performed keyspace (hash_at keyspace database request.name) (λ fields.
    let set = with_fields fields request.pairs in
    holding keyspace (key_of database request.name) set (reply (pos (finmap.len set) -ℤ pos (finmap.len fields)))))

-- HSET key field value [field value ..]: how many fields are new
abbrev pub hset : Keyspace → ℕ → List Bytes → Effect
hset = set_fields HSetArity Int

-- HMSET key field value [field value ..]
abbrev pub hmset : Keyspace → ℕ → List Bytes → Effect
hmset = set_fields HMSetArity (λ added. ok)

-- HSETNX key field value: unless the field is there
abbrev pub hset_nx : Keyspace → ℕ → List Bytes → Effect
hset_nx keyspace database words =
    performed keyspace (three_words words) (λ word.
    performed keyspace (hash_at keyspace database word.0) (λ fields.
    if finmap.contains_key fields word.1 then unchanged keyspace (Int (pos 0))
    else holding keyspace (key_of database word.0) (finmap.insert fields word.1 word.2) (Int (pos 1))))

-- a hash with fewer fields
abbrev pub without : Hash → List Bytes → Hash
without = fold finmap.remove

-- a key that loses these fields: how many there were; it is touched where there were any
abbrev pub removed_from : Keyspace → Key → List Bytes → Hash → Effect
removed_from keyspace key names fields =
    let left = without fields names in
    let removed = pos (finmap.len fields) -ℤ pos (finmap.len left) in
    record { reply = Int removed; keyspace = kept_under keyspace key (Fields left); touched = if int_eq removed (pos 0) then [] else key ∷ [] }

-- HDEL key field [field ..]: how many there were; a key without fields is gone
abbrev pub hdel : Keyspace → ℕ → List Bytes → Effect
hdel keyspace database [] = unchanged keyspace (refusal Syntax)
hdel keyspace database (name ∷ names) = performed keyspace (hash_at keyspace database name) (removed_from keyspace (key_of database name) names)

-- a key, a field, and what is added to its number
pub record IncrementRequest : Type 0 where
  pub name : Bytes
  pub field : Bytes
  pub by : ℤ

-- the increment is an integer
abbrev pub increment_request : List Bytes → Read IncrementRequest
increment_request words =
    read_then (three_words words) (λ word.
    read_then (integer word.2) (λ by. Ok (record { name = word.0; field = word.1; by = by })))

-- the number that a value spells, 0 where the field is missing
abbrev pub number_of : Option Bytes → Read ℤ
number_of None = Ok (pos 0)
number_of (Some value) = integer_or HashNotAnInteger (int_value value)

-- the number of a field and another, added
abbrev pub sum_in : Hash → Bytes → ℤ → Read ℤ
sum_in fields field by = read_then (number_of (finmap.get fields field)) (λ n. sum_of n by)

-- HINCRBY key field increment: the sum, which the field holds then
abbrev pub hincr_by : Keyspace → ℕ → List Bytes → Effect
hincr_by keyspace database words =
    performed keyspace (increment_request words) (λ request.
    performed keyspace (hash_at keyspace database request.name) (λ fields.
    performed keyspace (sum_in fields request.field request.by) (λ sum.
    holding keyspace (key_of database request.name) (finmap.insert fields request.field (signed_decimal sum)) (Int sum))))

-- a command that only looks, at a moment, for a connection of this database; the arguments are the words behind the name
abbrev pub look : HashesLook → ℕ → Keyspace → ℕ → List Bytes → Reply
look looks.HGet now keyspace database arguments = hget keyspace database arguments
look looks.HMGet now keyspace database arguments = hmget keyspace database arguments
look looks.HLen now keyspace database arguments = hlen keyspace database arguments
look looks.HExists now keyspace database arguments = hexists keyspace database arguments
look looks.HStrLen now keyspace database arguments = hstrlen keyspace database arguments
look looks.HKeys now keyspace database arguments = listed finmap.keys keyspace database arguments
look looks.HVals now keyspace database arguments = listed finmap.values keyspace database arguments
look looks.HGetAll now keyspace database arguments = listed in_turn keyspace database arguments

-- a command that may change the keyspace
abbrev pub change : HashesChange → ℕ → Keyspace → ℕ → List Bytes → Effect
change changes.HSet now keyspace database arguments = hset keyspace database arguments
change changes.HMSet now keyspace database arguments = hmset keyspace database arguments
change changes.HSetNx now keyspace database arguments = hset_nx keyspace database arguments
change changes.HDel now keyspace database arguments = hdel keyspace database arguments
change changes.HIncrBy now keyspace database arguments = hincr_by keyspace database arguments
