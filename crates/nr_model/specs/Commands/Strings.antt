-- Strings (Redis command reference, string).
use Rattle.std.specs.Prelude.{ℕ, suc, ◌+◌, ◌^◌, ◌==◌, bit_and, bit_or, bit_xor, Bool, true, false, ◌&&◌, ◌||◌, List, [], ◌∷◌, ◌++◌, length, map, Option, Some, None, is_some, is_none, option_map, Ok, Err, ℤ, pos, negsuc, ◌+ℤ◌, neg_ℤ, nat_lt, if◌then◌else◌, codes}
use Rattle.std.specs.Fmt.{signed_decimal}
use Rattle.std.specs.List.{list_any}
use Rattle.std.specs.FinMap as finmap
use Rattle.nr_model.specs.Bytes.{Bytes}
use Rattle.nr_model.specs.Numbers.{int_value, in_i64}
use Rattle.nr_model.specs.Replies.{Reply, Int, Bulk, NullBulk, array}
use Rattle.nr_model.specs.Strings.{max_len, range, overwritten, bit_at, with_bit_at, bits_of, set_bits, ones, joined_bits, inverted}
use Rattle.nr_model.specs.Keyspace.{Key, key_of, Keyspace, Stored, Value, Text, Items, Fields, Members, Scores}
use Rattle.nr_model.specs.Commands.Shape.{Effect, unchanged, refused, answered, performed}
use Rattle.nr_model.specs.Commands.Reading.{Read, fault, read_then, one_word, two_words, three_words, integer_or, integer, positive_expiry, OptionWord, Unknown, Flag, Valued, read_options, is_word, timing_of}
use Rattle.nr_model.specs.Commands.Keys.{held_until}
use Rattle.nr_model.specs.Commands.Texts.{ok}
use Rattle.nr_model.specs.declared.command.Unit.{Unit}
use Rattle.nr_model.specs.declared.command.Unit.TheVariants.{Seconds, Milliseconds}
use Rattle.nr_model.specs.declared.command.Timing.{Timing}
use Rattle.nr_model.specs.declared.command.Timing.TheVariants.{InSeconds, InMilliseconds}
use Rattle.nr_model.specs.declared.refused.Refused.TheVariants.{Syntax, MSetArity, MSetNxArity, WrongType, Overflow, DecrementOverflow, OffsetOutOfRange, TooLong, BitOffset, BitValue, NotOfSeveral}
use Rattle.nr_model.specs.declared.refused.Expiring.{Expiring}
use Rattle.nr_model.specs.declared.refused.Expiring.TheVariants as expiring
use Rattle.nr_model.specs.declared.command.StringsLook.{StringsLook}
use Rattle.nr_model.specs.declared.command.StringsLook.TheVariants as looks
use Rattle.nr_model.specs.declared.command.StringsChange.{StringsChange}
use Rattle.nr_model.specs.declared.command.StringsChange.TheVariants as changes

-- The text of a value, where it is a string
abbrev pub text_of : Value → Read Bytes
text_of (Text text) = Ok text
text_of (Items items) = fault WrongType
text_of (Fields fields) = fault WrongType
text_of (Members members) = fault WrongType
text_of (Scores scores) = fault WrongType

-- what a key holds as a string: a text, or none where there is no key
abbrev pub text_held : Option Stored → Read (Option Bytes)
text_held None = Ok None
text_held (Some stored) = read_then (text_of stored.value) (λ text. Ok (Some text))

abbrev pub text_at : Keyspace → ℕ → Bytes → Read (Option Bytes)
text_at keyspace database name = text_held (finmap.get keyspace (key_of database name))

-- a missing key reads as the empty string
abbrev pub or_empty : Option Bytes → Bytes
or_empty None = []
or_empty (Some text) = text

-- a text as a bulk, and the null bulk for none
abbrev pub bulk_or_null : Option Bytes → Reply
bulk_or_null None = NullBulk
bulk_or_null (Some text) = Bulk text

-- GET key: its value, or the null bulk
abbrev pub get : Keyspace → ℕ → List Bytes → Reply
get keyspace database words = answered (one_word words) (λ name. answered (text_at keyspace database name) bulk_or_null)

-- MGET key [key ..]: the null bulk also for a key that holds another kind of value
abbrev pub bulk_or_nothing : Read (Option Bytes) → Reply
bulk_or_nothing (Ok text) = bulk_or_null text
bulk_or_nothing (Err error) = NullBulk

abbrev pub mget : Keyspace → ℕ → List Bytes → Reply
mget keyspace database names = array (map (λ name. bulk_or_nothing (text_at keyspace database name)) names)

-- STRLEN key
abbrev pub strlen : Keyspace → ℕ → List Bytes → Reply
strlen keyspace database words =
    answered (one_word words) (λ name. answered (text_at keyspace database name) (λ text. Int (pos (length (or_empty text)))))

-- GETRANGE key start end, SUBSTR key start end: the bytes from one index to another, both counted
pub record RangeRequest : Type 0 where
  pub name : Bytes
  pub first : ℤ
  pub last : ℤ

abbrev pub range_request : List Bytes → Read RangeRequest
range_request words =
    read_then (three_words words) (λ word.
    read_then (integer word.1) (λ first. read_then (integer word.2) (λ last. Ok (record { name = word.0; first = first; last = last }))))

abbrev pub get_range : Keyspace → ℕ → List Bytes → Reply
get_range keyspace database words =
    answered (range_request words) (λ request.
    answered (text_at keyspace database request.name) (λ text. Bulk (range request.first request.last (or_empty text))))

-- the offset of a bit, from 0 to 2^32 - 1
abbrev pub bit_offset_of : ℤ → Read ℕ
bit_offset_of (negsuc n) = fault BitOffset
bit_offset_of (pos n) = if nat_lt n (2 ^ 32) then Ok n else fault BitOffset

abbrev pub bit_offset : Bytes → Read ℕ
bit_offset word = read_then (integer_or BitOffset (int_value word)) bit_offset_of

-- 1 for a bit that is set
abbrev pub bit_number : Bool → Reply
bit_number true = Int (pos 1)
bit_number false = Int (pos 0)

-- GETBIT key offset: the bit, the highest of the first byte being at 0
abbrev pub get_bit_request : List Bytes → Read (Bytes × ℕ)
get_bit_request words = read_then (two_words words) (λ pair. read_then (bit_offset pair.1) (λ offset. Ok (pair.0, offset)))

abbrev pub get_bit : Keyspace → ℕ → List Bytes → Reply
get_bit keyspace database words =
    answered (get_bit_request words) (λ request.
    answered (text_at keyspace database request.0) (λ text. bit_number (bit_at (or_empty text) request.1)))

-- BITCOUNT key [start end [BYTE | BIT]]: how many bits are set, of all or of a range of bytes or bits
abbrev pub counts_bits : List Bytes → Read Bool
counts_bits [] = Ok false
counts_bits (unit ∷ []) = if is_word (codes "bit") unit then Ok true else if is_word (codes "byte") unit then Ok false else fault Syntax
counts_bits (unit ∷ more ∷ words) = fault Syntax

pub record CountRange : Type 0 where
  pub first : ℤ
  pub last : ℤ
  pub bits : Bool

abbrev pub count_to : ℤ → List Bytes → Read CountRange
count_to first [] = fault Syntax
count_to first (last ∷ words) =
    read_then (integer last) (λ last. read_then (counts_bits words) (λ bits. Ok (record { first = first; last = last; bits = bits })))

abbrev pub count_range : List Bytes → Read CountRange
count_range [] = Ok (record { first = pos 0; last = negsuc 0; bits = false })
count_range (first ∷ words) = read_then (integer first) (λ first. count_to first words)

abbrev pub count_request : List Bytes → Read (Bytes × CountRange)
count_request [] = fault Syntax
count_request (name ∷ words) = read_then (count_range words) (λ range. Ok (name, range))

abbrev pub counted : CountRange → Bytes → ℕ
counted count text = if count.bits then set_bits (range count.first count.last (bits_of text)) else ones (range count.first count.last text)

abbrev pub bit_count : Keyspace → ℕ → List Bytes → Reply
bit_count keyspace database words =
    answered (count_request words) (λ request.
    answered (text_at keyspace database request.0) (λ text. Int (pos (counted request.1 (or_empty text)))))

-- a key that holds a text and has no deadline, whatever it held
abbrev pub plain : Bytes → Stored
plain text = record { value = Text text; deadline = None }

-- SET key value [NX | XX] [GET] [EX seconds | PX milliseconds | EXAT second | PXAT millisecond | KEEPTTL]
pub record SetOptions : Type 0 where
  pub nx : Bool
  pub xx : Bool
  pub get : Bool
  pub keep : Bool
  pub times : ℕ
  pub deadline : Option ℤ

-- none were read, and a deadline was
abbrev pub no_options : SetOptions
no_options = record { nx = false; xx = false; get = false; keep = false; times = 0; deadline = None }

abbrev pub with_deadline : SetOptions → ℤ → SetOptions
with_deadline options deadline = record options { times = suc options.times; deadline = Some deadline }

abbrev pub set_time : ℕ → SetOptions → Option Timing → OptionWord SetOptions
set_time now options None = Unknown
set_time now options (Some timing) =
    Valued (λ value. read_then (positive_expiry expiring.Set timing now value) (λ deadline. Ok (with_deadline options deadline)))

-- KEEPTTL and the options that say a deadline are counted: two of them exclude one another
abbrev pub set_option : ℕ → SetOptions → Bytes → OptionWord SetOptions
set_option now options word =
    if is_word (codes "nx") word then Flag (record options { nx = true })
    else if is_word (codes "xx") word then Flag (record options { xx = true })
    else if is_word (codes "get") word then Flag (record options { get = true })
    else if is_word (codes "keepttl") word then Flag (record options { keep = true; times = suc options.times })
    else set_time now options (timing_of word)

abbrev pub settable : SetOptions → Read SetOptions
settable options = if (options.nx && options.xx) || nat_lt 1 options.times then fault Syntax else Ok options

pub record SetRequest : Type 0 where
  pub name : Bytes
  pub text : Bytes
  pub options : SetOptions

abbrev pub set_request : ℕ → List Bytes → Read SetRequest
set_request now [] = fault Syntax
set_request now (name ∷ []) = fault Syntax
set_request now (name ∷ text ∷ words) =
    read_then (read_then (read_options (set_option now) no_options words) settable) (λ options.
    Ok (record { name = name; text = text; options = options }))

-- NX wants that the key is missing, XX that it is there
abbrev pub is_unmet : SetOptions → Option Stored → Bool
is_unmet options held = (options.nx && is_some held) || (options.xx && is_none held)

-- with GET what the key held, which then has to be a string
abbrev pub asked : Bool → Option Stored → Read (Option Bytes)
asked true held = text_held held
asked false held = Ok None

-- the deadline of what a key holds, if it holds something and that has one
abbrev pub deadline_held : Option Stored → Option ℤ
deadline_held None = None
deadline_held (Some stored) = stored.deadline

abbrev pub set_deadline : SetOptions → Option Stored → Option ℤ
set_deadline options held = if options.keep then deadline_held held else options.deadline

abbrev pub set_at : ℕ → Keyspace → Key → Bytes → SetOptions → Option Stored → Effect
set_at now keyspace key text options held =
    performed keyspace (asked options.get held) (λ old.
    if is_unmet options held then unchanged keyspace (bulk_or_null old)
    else record {
      reply = if options.get then bulk_or_null old else ok;
      keyspace = held_until now keyspace key (record { value = Text text; deadline = set_deadline options held });
      touched = key ∷ [];
    })

abbrev pub set : ℕ → Keyspace → ℕ → List Bytes → Effect
set now keyspace database words =
    performed keyspace (set_request now words) (λ request.
    let key = key_of database request.name in
    set_at now keyspace key request.text request.options (finmap.get keyspace key))

-- a key that holds this from now on
abbrev pub stored_at : Keyspace → Key → Stored → Reply → Effect
stored_at keyspace key stored reply = record { reply = reply; keyspace = finmap.insert keyspace key stored; touched = key ∷ [] }

-- SETNX key value: unless the key is there
abbrev pub set_nx : Keyspace → ℕ → List Bytes → Effect
set_nx keyspace database words =
    performed keyspace (two_words words) (λ pair.
    let key = key_of database pair.0 in
    if finmap.contains_key keyspace key then unchanged keyspace (Int (pos 0)) else stored_at keyspace key (plain pair.1) (Int (pos 1)))

-- SETEX key seconds value, PSETEX key milliseconds value
abbrev pub set_ex_expiring : Unit → Expiring
set_ex_expiring Seconds = expiring.SetEx
set_ex_expiring Milliseconds = expiring.PSetEx

abbrev pub from_now : Unit → Timing
from_now Seconds = InSeconds
from_now Milliseconds = InMilliseconds

pub record SetExRequest : Type 0 where
  pub name : Bytes
  pub deadline : ℤ
  pub text : Bytes

abbrev pub set_ex_request : Unit → ℕ → List Bytes → Read SetExRequest
set_ex_request unit now words =
    read_then (three_words words) (λ word.
    read_then (positive_expiry (set_ex_expiring unit) (from_now unit) now word.1) (λ deadline.
    Ok (record { name = word.0; deadline = deadline; text = word.2 })))

abbrev pub set_ex : Unit → ℕ → Keyspace → ℕ → List Bytes → Effect
set_ex unit now keyspace database words =
    performed keyspace (set_ex_request unit now words) (λ request.
    stored_at keyspace (key_of database request.name) (record { value = Text request.text; deadline = Some request.deadline }) ok)

-- GETSET key value: what it held, which has to be a string
abbrev pub get_set : Keyspace → ℕ → List Bytes → Effect
get_set keyspace database words =
    performed keyspace (two_words words) (λ pair.
    performed keyspace (text_at keyspace database pair.0) (λ old. stored_at keyspace (key_of database pair.0) (plain pair.1) (bulk_or_null old)))

-- GETDEL key: its value, which goes
abbrev pub taken : Keyspace → Key → Option Bytes → Effect
taken keyspace key None = unchanged keyspace NullBulk
taken keyspace key (Some text) = record { reply = Bulk text; keyspace = finmap.remove keyspace key; touched = key ∷ [] }

abbrev pub get_del : Keyspace → ℕ → List Bytes → Effect
get_del keyspace database words =
    performed keyspace (one_word words) (λ name. performed keyspace (text_at keyspace database name) (taken keyspace (key_of database name)))

-- GETEX key [EX seconds | PX milliseconds | EXAT second | PXAT millisecond | PERSIST]: its value, and another deadline or none
pub record GetExOptions : Type 0 where
  pub persist : Bool
  pub times : ℕ
  pub deadline : Option ℤ

abbrev pub get_ex_time : ℕ → GetExOptions → Option Timing → OptionWord GetExOptions
get_ex_time now options None = Unknown
get_ex_time now options (Some timing) =
    Valued (λ value. read_then (positive_expiry expiring.GetEx timing now value) (λ deadline.
    Ok (record options { times = suc options.times; deadline = Some deadline })))

abbrev pub get_ex_option : ℕ → GetExOptions → Bytes → OptionWord GetExOptions
get_ex_option now options word =
    if is_word (codes "persist") word then Flag (record options { persist = true; times = suc options.times })
    else get_ex_time now options (timing_of word)

abbrev pub one_time : GetExOptions → Read GetExOptions
one_time options = if nat_lt 1 options.times then fault Syntax else Ok options

abbrev pub get_ex_request : ℕ → List Bytes → Read (Bytes × GetExOptions)
get_ex_request now [] = fault Syntax
get_ex_request now (name ∷ words) =
    read_then (read_then (read_options (get_ex_option now) (record { persist = false; times = 0; deadline = None }) words) one_time) (λ options. Ok (name, options))

-- a text shown, and the key left as it is
abbrev pub shown : Keyspace → Bytes → Effect
shown keyspace text = unchanged keyspace (Bulk text)

abbrev pub re_expired : ℕ → Keyspace → Key → GetExOptions → Bytes → Option ℤ → Effect
re_expired now keyspace key options text before =
    elim options.deadline [
      | Some deadline ↦ record {
        reply = Bulk text;
        keyspace = held_until now keyspace key (record { value = Text text; deadline = Some deadline });
        touched = key ∷ [];
      }
      | None ↦ if options.persist && is_some before then stored_at keyspace key (plain text) (Bulk text) else shown keyspace text
    ]

abbrev pub get_ex_at : ℕ → Keyspace → Key → GetExOptions → Option Stored → Effect
get_ex_at now keyspace key options None = unchanged keyspace NullBulk
get_ex_at now keyspace key options (Some stored) =
    performed keyspace (text_of stored.value) (λ text. re_expired now keyspace key options text stored.deadline)

abbrev pub get_ex : ℕ → Keyspace → ℕ → List Bytes → Effect
get_ex now keyspace database words =
    performed keyspace (get_ex_request now words) (λ request.
    let key = key_of database request.0 in
    get_ex_at now keyspace key request.1 (finmap.get keyspace key))

-- keys with their texts, in turn
abbrev pub pairs : List Bytes → Option (List (Bytes × Bytes))
pairs [] = Some []
pairs (name ∷ []) = None
pairs (name ∷ text ∷ words) = option_map (λ others. (name, text) ∷ others) (pairs words)

abbrev pub with_pairs : Keyspace → ℕ → List (Bytes × Bytes) → Keyspace
with_pairs keyspace database [] = keyspace
with_pairs keyspace database (pair ∷ others) = with_pairs (finmap.insert keyspace (key_of database pair.0) (plain pair.1)) database others

abbrev pub set_all : Keyspace → ℕ → List (Bytes × Bytes) → Reply → Effect
set_all keyspace database all reply =
    record { reply = reply; keyspace = with_pairs keyspace database all; touched = map (λ pair. key_of database pair.0) all }

-- MSET key value [key value ..]: of a key that is named twice the last holds
abbrev pub mset : Keyspace → ℕ → List Bytes → Effect
mset keyspace database words = elim (pairs words) [ None ↦ refused keyspace MSetArity | Some all ↦ set_all keyspace database all ok ]

-- MSETNX key value [key value ..]: nothing where any of the keys is there
abbrev pub mset_nx : Keyspace → ℕ → List Bytes → Effect
mset_nx keyspace database words =
    elim (pairs words) [
      | None ↦ refused keyspace MSetNxArity
      | Some all ↦
          if list_any (λ pair. finmap.contains_key keyspace (key_of database pair.0)) all then unchanged keyspace (Int (pos 0))
          else set_all keyspace database all (Int (pos 1))
    ]

-- a key that holds another text and keeps its deadline
abbrev pub rewritten : Keyspace → Key → Bytes → Reply → Effect
rewritten keyspace key text reply =
    stored_at keyspace key (record { value = Text text; deadline = deadline_held (finmap.get keyspace key) }) reply

-- APPEND key value: its length then
abbrev pub append_at : Keyspace → Key → Bytes → Bytes → Effect
append_at keyspace key old text =
    if nat_lt max_len (length old + length text) then refused keyspace TooLong
    else rewritten keyspace key (old ++ text) (Int (pos (length old + length text)))

abbrev pub append : Keyspace → ℕ → List Bytes → Effect
append keyspace database words =
    performed keyspace (two_words words) (λ pair.
    performed keyspace (text_at keyspace database pair.0) (λ old. append_at keyspace (key_of database pair.0) (or_empty old) pair.1))

-- SETRANGE key offset value: written over from the offset on, padded with zero bytes up to there; an empty value changes nothing
abbrev pub offset_of : ℤ → Read ℕ
offset_of (negsuc n) = fault OffsetOutOfRange
offset_of (pos n) = Ok n

pub record SetRangeRequest : Type 0 where
  pub name : Bytes
  pub offset : ℕ
  pub text : Bytes

abbrev pub set_range_request : List Bytes → Read SetRangeRequest
set_range_request words =
    read_then (three_words words) (λ word.
    read_then (read_then (integer word.1) offset_of) (λ offset. Ok (record { name = word.0; offset = offset; text = word.2 })))

abbrev pub set_range_at : Keyspace → Key → ℕ → Bytes → Bytes → Effect
set_range_at keyspace key offset text old =
    if length text == 0 then unchanged keyspace (Int (pos (length old)))
    else if nat_lt max_len (offset + length text) then refused keyspace TooLong
    else let new = overwritten offset text old in rewritten keyspace key new (Int (pos (length new)))

abbrev pub set_range : Keyspace → ℕ → List Bytes → Effect
set_range keyspace database words =
    performed keyspace (set_range_request words) (λ request.
    performed keyspace (text_at keyspace database request.name) (λ old.
    set_range_at keyspace (key_of database request.name) request.offset request.text (or_empty old)))

-- INCR key, DECR key, INCRBY key n, DECRBY key n: a missing key counts as 0
abbrev pub number_of : Option Bytes → Read ℤ
number_of None = Ok (pos 0)
number_of (Some text) = integer text

abbrev pub sum_of : ℤ → ℤ → Read ℤ
sum_of n by = elim (in_i64 (n +ℤ by)) [ None ↦ fault Overflow | Some sum ↦ Ok sum ]

abbrev pub increased : Keyspace → ℕ → Bytes → ℤ → Effect
increased keyspace database name by =
    performed keyspace (read_then (read_then (text_at keyspace database name) number_of) (λ n. sum_of n by)) (λ sum.
    rewritten keyspace (key_of database name) (signed_decimal sum) (Int sum))

abbrev pub incr : Keyspace → ℕ → ℤ → List Bytes → Effect
incr keyspace database by words = performed keyspace (one_word words) (λ name. increased keyspace database name by)

abbrev pub incr_request : List Bytes → Read (Bytes × ℤ)
incr_request words = read_then (two_words words) (λ pair. read_then (integer pair.1) (λ by. Ok (pair.0, by)))

abbrev pub incr_by : Keyspace → ℕ → List Bytes → Effect
incr_by keyspace database words = performed keyspace (incr_request words) (λ request. increased keyspace database request.0 request.1)

-- the least integer has no opposite
abbrev pub opposite : ℤ → Read ℤ
opposite n = elim (in_i64 (neg_ℤ n)) [ None ↦ fault DecrementOverflow | Some by ↦ Ok by ]

abbrev pub decr_request : List Bytes → Read (Bytes × ℤ)
decr_request words = read_then (incr_request words) (λ request. read_then (opposite request.1) (λ by. Ok (request.0, by)))

abbrev pub decr_by : Keyspace → ℕ → List Bytes → Effect
decr_by keyspace database words = performed keyspace (decr_request words) (λ request. increased keyspace database request.0 request.1)

-- SETBIT key offset value: the bit that was there
abbrev pub bit_of : ℤ → Read Bool
bit_of (negsuc n) = fault BitValue
bit_of (pos n) = if n == 0 then Ok false else if n == 1 then Ok true else fault BitValue

abbrev pub bit_value : Bytes → Read Bool
bit_value word = read_then (integer_or BitValue (int_value word)) bit_of

pub record SetBitRequest : Type 0 where
  pub name : Bytes
  pub offset : ℕ
  pub bit : Bool

abbrev pub set_bit_request : List Bytes → Read SetBitRequest
set_bit_request words =
    read_then (three_words words) (λ word.
    read_then (bit_offset word.1) (λ offset. read_then (bit_value word.2) (λ bit. Ok (record { name = word.0; offset = offset; bit = bit }))))

abbrev pub set_bit : Keyspace → ℕ → List Bytes → Effect
set_bit keyspace database words =
    performed keyspace (set_bit_request words) (λ request.
    performed keyspace (text_at keyspace database request.name) (λ old.
    rewritten keyspace (key_of database request.name) (with_bit_at (or_empty old) request.offset request.bit) (bit_number (bit_at (or_empty old) request.offset))))

-- BITOP AND | OR | XOR | NOT destkey key [key ..]: bit by bit, shorter strings padded with zero bytes; an empty result is no key
abbrev pub joining : Bytes → Option (ℕ → ℕ → ℕ)
joining word =
    if is_word (codes "and") word then Some bit_and
    else if is_word (codes "or") word then Some bit_or
    else if is_word (codes "xor") word then Some bit_xor
    else None

abbrev pub texts_at : Keyspace → ℕ → List Bytes → Read (List Bytes)
texts_at keyspace database [] = Ok []
texts_at keyspace database (name ∷ names) =
    read_then (text_at keyspace database name) (λ text. read_then (texts_at keyspace database names) (λ texts. Ok (or_empty text ∷ texts)))

abbrev pub result_at : Keyspace → Key → Bytes → Effect
result_at keyspace key [] =
    if finmap.contains_key keyspace key then record { reply = Int (pos 0); keyspace = finmap.remove keyspace key; touched = key ∷ [] }
    else unchanged keyspace (Int (pos 0))
result_at keyspace key (byte ∷ bytes) = stored_at keyspace key (plain (byte ∷ bytes)) (Int (pos (length (byte ∷ bytes))))

abbrev pub joined_at : Keyspace → ℕ → (ℕ → ℕ → ℕ) → Bytes → List Bytes → Effect
joined_at keyspace database f target sources =
    performed keyspace (texts_at keyspace database sources) (λ texts. result_at keyspace (key_of database target) (joined_bits f texts))

abbrev pub inverted_at : Keyspace → ℕ → Bytes → List Bytes → Effect
inverted_at keyspace database target [] = refused keyspace Syntax
inverted_at keyspace database target (source ∷ []) =
    performed keyspace (text_at keyspace database source) (λ text. result_at keyspace (key_of database target) (inverted (or_empty text)))
inverted_at keyspace database target (source ∷ more ∷ sources) = refused keyspace NotOfSeveral

abbrev pub bit_op : Keyspace → ℕ → List Bytes → Effect
bit_op keyspace database [] = refused keyspace Syntax
bit_op keyspace database (word ∷ []) = refused keyspace Syntax
bit_op keyspace database (word ∷ target ∷ sources) =
    elim (joining word) [
      | Some f ↦ joined_at keyspace database f target sources
      | None ↦ if is_word (codes "not") word then inverted_at keyspace database target sources else refused keyspace Syntax
    ]

-- a command that only looks; the arguments are the words behind the name
abbrev pub look : StringsLook → ℕ → Keyspace → ℕ → List Bytes → Reply
look looks.Get now keyspace database arguments = get keyspace database arguments
look looks.MGet now keyspace database arguments = mget keyspace database arguments
look looks.StrLen now keyspace database arguments = strlen keyspace database arguments
look looks.GetRange now keyspace database arguments = get_range keyspace database arguments
look looks.SubStr now keyspace database arguments = get_range keyspace database arguments
look looks.GetBit now keyspace database arguments = get_bit keyspace database arguments
look looks.BitCount now keyspace database arguments = bit_count keyspace database arguments

-- a command that may change the keyspace, at a moment
abbrev pub change : StringsChange → ℕ → Keyspace → ℕ → List Bytes → Effect
change changes.Set now keyspace database arguments = set now keyspace database arguments
change changes.SetNx now keyspace database arguments = set_nx keyspace database arguments
change (changes.SetEx unit) now keyspace database arguments = set_ex unit now keyspace database arguments
change changes.GetSet now keyspace database arguments = get_set keyspace database arguments
change changes.GetDel now keyspace database arguments = get_del keyspace database arguments
change changes.GetEx now keyspace database arguments = get_ex now keyspace database arguments
change changes.MSet now keyspace database arguments = mset keyspace database arguments
change changes.MSetNx now keyspace database arguments = mset_nx keyspace database arguments
change changes.Append now keyspace database arguments = append keyspace database arguments
change changes.SetRange now keyspace database arguments = set_range keyspace database arguments
change changes.Incr now keyspace database arguments = incr keyspace database (pos 1) arguments
change changes.Decr now keyspace database arguments = incr keyspace database (negsuc 0) arguments
change changes.IncrBy now keyspace database arguments = incr_by keyspace database arguments
change changes.DecrBy now keyspace database arguments = decr_by keyspace database arguments
change changes.SetBit now keyspace database arguments = set_bit keyspace database arguments
change changes.BitOp now keyspace database arguments = bit_op keyspace database arguments
