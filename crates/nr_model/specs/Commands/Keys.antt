-- Keys (Redis command reference, generic).
use Rattle.std.specs.Prelude.{ℕ, ◌==◌, Bool, true, false, not, ◌&&◌, ◌||◌, List, [], ◌∷◌, ◌++◌, length, filter, Option, Some, None, is_some, is_none, Ok, Err, ℤ, pos, negsuc, ◌+ℤ◌, ◌-ℤ◌, int_lt, int_div, bytes_eq, codes, cond, if◌then◌else◌}
use Rattle.std.specs.Prelude as prelude
use Rattle.std.specs.FinMap as map
use Rattle.nr_model.specs.Bytes.{Bytes}
use Rattle.nr_model.specs.Patterns.{matches}
use Rattle.nr_model.specs.Replies.{Reply, Simple, Error, Int, Bulk, array}
use Rattle.nr_model.specs.Keyspace.{Key, key_of, Keyspace, Stored, Value, Text, Items, Fields, Members, Scores, is_live_at, names_in}
use Rattle.nr_model.specs.Commands.Shape.{Effect, unchanged, refused, answered, performed}
use Rattle.nr_model.specs.Commands.Reading.{Read, fault, read_then, one_word, two_words, database_index, expiry, OptionWord, Unknown, Flag, Valued, read_options, is_word}
use Rattle.nr_model.specs.Commands.Texts.{ok, unsupported_option}
use Rattle.nr_model.specs.declared.command.Unit.{Unit}
use Rattle.nr_model.specs.declared.command.Unit.TheVariants.{Seconds, Milliseconds}
use Rattle.nr_model.specs.declared.command.Timing.{Timing}
use Rattle.nr_model.specs.declared.command.Timing.TheVariants.{InSeconds, InMilliseconds, AtSecond, AtMillisecond}
use Rattle.nr_model.specs.declared.refused.Refused.TheVariants.{Syntax, NoSuchKey, SameObject, OptionsConflict}
use Rattle.nr_model.specs.declared.refused.Expiring.{Expiring}
use Rattle.nr_model.specs.declared.refused.Expiring.TheVariants as expiring
use Rattle.nr_model.specs.declared.command.KeysLook.{KeysLook}
use Rattle.nr_model.specs.declared.command.KeysLook.TheVariants as looks
use Rattle.nr_model.specs.declared.command.KeysChange.{KeysChange}
use Rattle.nr_model.specs.declared.command.KeysChange.TheVariants as changes

-- EXISTS key [key ..], TOUCH key [key ..]: how many are there, repeats counted each time
abbrev pub exists : Keyspace → ℕ → List Bytes → Reply
exists keyspace database names = Int (pos (length (filter (λ name. map.contains_key keyspace (key_of database name)) names)))

-- TYPE key: the kind of its value
abbrev pub kind_of : Value → Bytes
kind_of (Text text) = codes "string"
kind_of (Items items) = codes "list"
kind_of (Fields fields) = codes "hash"
kind_of (Members members) = codes "set"
kind_of (Scores scores) = codes "zset"

abbrev pub kind_at : Option Stored → Bytes
kind_at None = codes "none"
kind_at (Some stored) = kind_of stored.value

abbrev pub kind : Keyspace → ℕ → List Bytes → Reply
kind keyspace database words = answered (one_word words) (λ name. Simple (kind_at (map.get keyspace (key_of database name))))

-- KEYS pattern: the names that match it, in byte order
abbrev pub names_matching : Bytes → Keyspace → ℕ → List Bytes
names_matching pattern_text keyspace database = filter (matches pattern_text) (names_in keyspace database)

abbrev pub matching : Keyspace → ℕ → List Bytes → Reply
matching keyspace database words =
    answered (one_word words) (λ pattern_text. array (prelude.map Bulk (names_matching pattern_text keyspace database)))

-- milliseconds as so many of a unit, to the nearest second (own at half a second)
abbrev pub in_unit : Unit → ℤ → ℤ
in_unit Seconds milliseconds = int_div (milliseconds +ℤ pos 500) (pos 1000)
in_unit Milliseconds milliseconds = milliseconds

-- -2 without the key, -1 without a deadline, else what this makes of it
abbrev pub of_deadline : (ℤ → ℤ) → Option Stored → Reply
of_deadline number None = Int (negsuc 1)
of_deadline number (Some stored) = elim stored.deadline [ None ↦ Int (negsuc 0) | Some deadline ↦ Int (number deadline) ]

-- TTL key, PTTL key: how long the key has
abbrev pub ttl : Unit → ℕ → Keyspace → ℕ → List Bytes → Reply
ttl unit now keyspace database words =
    answered (one_word words) (λ name. of_deadline (λ deadline. in_unit unit (deadline -ℤ pos now)) (map.get keyspace (key_of database name)))

-- EXPIRETIME key, PEXPIRETIME key: its deadline
abbrev pub expire_time : Unit → Keyspace → ℕ → List Bytes → Reply
expire_time unit keyspace database words =
    answered (one_word words) (λ name. of_deadline (in_unit unit) (map.get keyspace (key_of database name)))

-- the keyspace without the keys, and those of them that it had
pub record Removal : Type 0 where
  pub keyspace : Keyspace
  pub removed : List Key

abbrev pub remove_one : Removal → Key → Removal
remove_one removal key =
    cond (map.contains_key removal.keyspace key) (record { keyspace = map.remove removal.keyspace key; removed = removal.removed ++ key ∷ [] }) removal

abbrev pub remove_all : Removal → ℕ → List Bytes → Removal
remove_all removal database [] = removal
remove_all removal database (name ∷ names) = remove_all (remove_one removal (key_of database name)) database names

-- DEL key [key ..], UNLINK key [key ..]: removes the keys; how many there were
abbrev pub del : Keyspace → ℕ → List Bytes → Effect
del keyspace database names =
    let removal = remove_all (record { keyspace = keyspace; removed = [] }) database names in
    record { reply = Int (pos (length removal.removed)); keyspace = removal.keyspace; touched = removal.removed }

-- with a key under another name, its value and its deadline going along
abbrev pub moved : Keyspace → Key → Key → Stored → Reply → Effect
moved keyspace source target stored reply =
    record { reply = reply; keyspace = map.insert (map.remove keyspace source) target stored; touched = source ∷ target ∷ [] }

-- RENAME key newkey: whatever newkey held is gone
abbrev pub rename_at : Keyspace → ℕ → Bytes → Bytes → Option Stored → Effect
rename_at keyspace database a b None = refused keyspace NoSuchKey
rename_at keyspace database a b (Some stored) =
    if bytes_eq a b then unchanged keyspace ok else moved keyspace (key_of database a) (key_of database b) stored ok

abbrev pub rename : Keyspace → ℕ → List Bytes → Effect
rename keyspace database words =
    performed keyspace (two_words words) (λ names. rename_at keyspace database names.0 names.1 (map.get keyspace (key_of database names.0)))

-- RENAMENX key newkey: unless newkey is there
abbrev pub rename_nx_at : Keyspace → ℕ → Bytes → Bytes → Option Stored → Effect
rename_nx_at keyspace database a b None = refused keyspace NoSuchKey
rename_nx_at keyspace database a b (Some stored) =
    if map.contains_key keyspace (key_of database b) then unchanged keyspace (Int (pos 0))
    else moved keyspace (key_of database a) (key_of database b) stored (Int (pos 1))

abbrev pub rename_nx : Keyspace → ℕ → List Bytes → Effect
rename_nx keyspace database words =
    performed keyspace (two_words words) (λ names. rename_nx_at keyspace database names.0 names.1 (map.get keyspace (key_of database names.0)))

-- COPY source destination [DB index] [REPLACE]: value and deadline once more
pub record CopyOptions : Type 0 where
  pub database : ℕ
  pub replace : Bool

abbrev pub copy_option : CopyOptions → Bytes → OptionWord CopyOptions
copy_option options word =
    if is_word (codes "replace") word then Flag (record options { replace = true })
    else if is_word (codes "db") word then Valued (λ value. read_then (database_index value) (λ database. Ok (record options { database = database })))
    else Unknown

pub record CopyRequest : Type 0 where
  pub source : Bytes
  pub target : Bytes
  pub options : CopyOptions

abbrev pub copy_request : ℕ → List Bytes → Read CopyRequest
copy_request database [] = fault Syntax
copy_request database (source ∷ []) = fault Syntax
copy_request database (source ∷ target ∷ words) =
    read_then (read_options copy_option (record { database = database; replace = false }) words)
    (λ options. Ok (record { source = source; target = target; options = options }))

abbrev pub copied : Keyspace → Bool → Key → Option Stored → Effect
copied keyspace replace target None = unchanged keyspace (Int (pos 0))
copied keyspace replace target (Some stored) =
    if not replace && map.contains_key keyspace target then unchanged keyspace (Int (pos 0))
    else record { reply = Int (pos 1); keyspace = map.insert keyspace target stored; touched = target ∷ [] }

abbrev pub copy : Keyspace → ℕ → List Bytes → Effect
copy keyspace database words =
    performed keyspace (copy_request database words) (λ request.
    let source = key_of database request.source in
    if database == request.options.database && bytes_eq request.source request.target then refused keyspace SameObject
    else copied keyspace request.options.replace (key_of request.options.database request.target) (map.get keyspace source))

-- MOVE key db: into another database, unless that has the key
abbrev pub move_request : List Bytes → Read (Bytes × ℕ)
move_request words = read_then (two_words words) (λ pair. read_then (database_index pair.1) (λ database. Ok (pair.0, database)))

abbrev pub move_at : Keyspace → ℕ → ℕ → Bytes → Option Stored → Effect
move_at keyspace database target name None = unchanged keyspace (Int (pos 0))
move_at keyspace database target name (Some stored) =
    if map.contains_key keyspace (key_of target name) then unchanged keyspace (Int (pos 0))
    else moved keyspace (key_of database name) (key_of target name) stored (Int (pos 1))

abbrev pub move : Keyspace → ℕ → List Bytes → Effect
move keyspace database words =
    performed keyspace (move_request words) (λ request.
    if request.1 == database then refused keyspace SameObject
    else move_at keyspace database request.1 request.0 (map.get keyspace (key_of database request.0)))

-- what a key holds with this, gone at once where its deadline isn't after the moment
abbrev pub held_until : ℕ → Keyspace → Key → Stored → Keyspace
held_until now keyspace key stored = if is_live_at now stored.deadline then map.insert keyspace key stored else map.remove keyspace key

-- EXPIRE key seconds [NX | XX | GT | LT], PEXPIRE, EXPIREAT, PEXPIREAT: another deadline, under conditions on the one that was
pub record Conditions : Type 0 where
  pub nx : Bool
  pub xx : Bool
  pub gt : Bool
  pub lt : Bool

abbrev pub condition : Conditions → Bytes → Option Conditions
condition conditions word =
    if is_word (codes "nx") word then Some (record conditions { nx = true })
    else if is_word (codes "xx") word then Some (record conditions { xx = true })
    else if is_word (codes "gt") word then Some (record conditions { gt = true })
    else if is_word (codes "lt") word then Some (record conditions { lt = true })
    else None

abbrev pub conditions_from : Conditions → List Bytes → Read Conditions
conditions_from conditions [] = Ok conditions
conditions_from conditions (word ∷ words) =
    elim (condition conditions word) [ None ↦ Err (Error (unsupported_option word)) | Some next ↦ conditions_from next words ]

-- no conditions, and such as don't exclude one another
abbrev pub unconditional : Conditions
unconditional = record { nx = false; xx = false; gt = false; lt = false }

abbrev pub compatible : Conditions → Read Conditions
compatible conditions =
    if (conditions.nx && (conditions.xx || (conditions.gt || conditions.lt))) || (conditions.gt && conditions.lt) then fault OptionsConflict
    else Ok conditions

-- no deadline is later than all
abbrev pub is_later : Option ℤ → ℤ → Bool
is_later None deadline = false
is_later (Some before) deadline = int_lt before deadline

abbrev pub is_earlier : Option ℤ → ℤ → Bool
is_earlier None deadline = true
is_earlier (Some before) deadline = int_lt deadline before

abbrev pub is_met : Conditions → Option ℤ → ℤ → Bool
is_met conditions before deadline =
    (not conditions.nx || is_none before) && ((not conditions.xx || is_some before) && ((not conditions.gt || is_later before deadline) && (not conditions.lt || is_earlier before deadline)))

pub record ExpireRequest : Type 0 where
  pub name : Bytes
  pub deadline : ℤ
  pub conditions : Conditions

abbrev pub expiring_of : Timing → Expiring
expiring_of InSeconds = expiring.Expire
expiring_of InMilliseconds = expiring.PExpire
expiring_of AtSecond = expiring.ExpireAt
expiring_of AtMillisecond = expiring.PExpireAt

abbrev pub expire_request : Timing → ℕ → List Bytes → Read ExpireRequest
expire_request timing now [] = fault Syntax
expire_request timing now (name ∷ []) = fault Syntax
expire_request timing now (name ∷ number ∷ words) =
    read_then (expiry (expiring_of timing) timing now number) (λ deadline.
    read_then (read_then (conditions_from unconditional words) compatible) (λ conditions.
    Ok (record { name = name; deadline = deadline; conditions = conditions })))

abbrev pub redated : ℕ → Keyspace → Key → Conditions → ℤ → Option Stored → Effect
redated now keyspace key conditions deadline None = unchanged keyspace (Int (pos 0))
redated now keyspace key conditions deadline (Some stored) =
    if is_met conditions stored.deadline deadline then record {
      reply = Int (pos 1);
      keyspace = held_until now keyspace key (record { value = stored.value; deadline = Some deadline });
      touched = key ∷ [];
    }
    else unchanged keyspace (Int (pos 0))

abbrev pub expire : Timing → ℕ → Keyspace → ℕ → List Bytes → Effect
expire timing now keyspace database words =
    performed keyspace (expire_request timing now words) (λ request.
    let key = key_of database request.name in
    redated now keyspace key request.conditions request.deadline (map.get keyspace key))

-- PERSIST key: its deadline is cleared
abbrev pub persisted : Keyspace → Key → Option Stored → Effect
persisted keyspace key None = unchanged keyspace (Int (pos 0))
persisted keyspace key (Some stored) =
    elim stored.deadline [
      | None ↦ unchanged keyspace (Int (pos 0))
      | Some deadline ↦ record { reply = Int (pos 1); keyspace = map.insert keyspace key (record { value = stored.value; deadline = None }); touched = key ∷ [] }
    ]

abbrev pub persist : Keyspace → ℕ → List Bytes → Effect
persist keyspace database words =
    performed keyspace (one_word words) (λ name. persisted keyspace (key_of database name) (map.get keyspace (key_of database name)))

-- a command that only looks, at a moment, for a connection of this database; the arguments are the words behind the name
abbrev pub look : KeysLook → ℕ → Keyspace → ℕ → List Bytes → Reply
look looks.Exists now keyspace database arguments = exists keyspace database arguments
look looks.Touch now keyspace database arguments = exists keyspace database arguments
look looks.Type now keyspace database arguments = kind keyspace database arguments
look looks.Keys now keyspace database arguments = matching keyspace database arguments
look (looks.Ttl unit) now keyspace database arguments = ttl unit now keyspace database arguments
look (looks.ExpireTime unit) now keyspace database arguments = expire_time unit keyspace database arguments

-- a command that may change the keyspace
abbrev pub change : KeysChange → ℕ → Keyspace → ℕ → List Bytes → Effect
change changes.Del now keyspace database arguments = del keyspace database arguments
change changes.Unlink now keyspace database arguments = del keyspace database arguments
change changes.Rename now keyspace database arguments = rename keyspace database arguments
change changes.RenameNx now keyspace database arguments = rename_nx keyspace database arguments
change changes.Copy now keyspace database arguments = copy keyspace database arguments
change changes.Move now keyspace database arguments = move keyspace database arguments
change (changes.Expire timing) now keyspace database arguments = expire timing now keyspace database arguments
change changes.Persist now keyspace database arguments = persist keyspace database arguments
