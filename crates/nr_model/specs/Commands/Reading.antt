-- What commands read from the words behind their name, from left to right: the first fault is the one that is answered (own).
use Rattle.std.specs.Prelude.{ℕ, Bool, List, [], ◌∷◌, Option, Some, None, Result, Ok, Err, ℤ, pos, negsuc, ◌+ℤ◌, ◌*ℤ◌, int_lt, nat_lt, if◌then◌else◌, bytes_eq, codes}
use Rattle.std.specs.Str.{str_to_ascii_lowercase}
use Rattle.nr_model.specs.Bytes.{Bytes}
use Rattle.nr_model.specs.Numbers.{int_value, in_i64}
use Rattle.nr_model.specs.Replies.{Reply}
use Rattle.nr_model.specs.Keyspace.{how_many_databases}
use Rattle.nr_model.specs.Commands.Shape.{refusal}
use Rattle.nr_model.specs.declared.command.Timing.{Timing}
use Rattle.nr_model.specs.declared.command.Timing.TheVariants.{InSeconds, InMilliseconds, AtSecond, AtMillisecond}
use Rattle.nr_model.specs.declared.refused.Refused.{Refused}
use Rattle.nr_model.specs.declared.refused.Refused.TheVariants.{Syntax, NotAnInteger, NoSuchDatabase, ExpireTime}
use Rattle.nr_model.specs.declared.refused.Expiring.{Expiring}

-- what was read, or the error that is answered
abbrev pub Read : Type 0 → Type 0
Read A = Result A Reply

abbrev pub fault : {A : Type 0} → Refused → Read A
fault why = Err (refusal why)

-- what is read next, unless there was a fault
abbrev pub read_then : {A B : Type 0} → Read A → (A → Read B) → Read B
read_then (Ok a) next = next a
read_then (Err reply) next = Err reply

-- exactly one word, two, or one with others behind it
abbrev pub one_word : List Bytes → Read Bytes
one_word [] = fault Syntax
one_word (word ∷ []) = Ok word
one_word (word ∷ more ∷ words) = fault Syntax

abbrev pub two_words : List Bytes → Read (Bytes × Bytes)
two_words [] = fault Syntax
two_words (a ∷ []) = fault Syntax
two_words (a ∷ b ∷ []) = Ok (a, b)
two_words (a ∷ b ∷ more ∷ words) = fault Syntax

abbrev pub three_words : List Bytes → Read (Bytes × Bytes × Bytes)
three_words [] = fault Syntax
three_words (a ∷ []) = fault Syntax
three_words (a ∷ b ∷ []) = fault Syntax
three_words (a ∷ b ∷ c ∷ []) = Ok (a, b, c)
three_words (a ∷ b ∷ c ∷ more ∷ words) = fault Syntax

-- the integer that a word spells, or another fault in its place
abbrev pub integer_or : Refused → Option ℤ → Read ℤ
integer_or why None = fault why
integer_or why (Some n) = Ok n

abbrev pub integer : Bytes → Read ℤ
integer word = integer_or NotAnInteger (int_value word)

-- a database's index
abbrev pub database_of : ℤ → Read ℕ
database_of (negsuc n) = fault NoSuchDatabase
database_of (pos n) = if nat_lt n how_many_databases then Ok n else fault NoSuchDatabase

abbrev pub database_index : Bytes → Read ℕ
database_index word = read_then (integer word) database_of

-- the millisecond that a number says, at a moment
abbrev pub deadline_at : Timing → ℕ → ℤ → ℤ
deadline_at InSeconds now n = pos now +ℤ pos 1000 *ℤ n
deadline_at InMilliseconds now n = pos now +ℤ n
deadline_at AtSecond now n = pos 1000 *ℤ n
deadline_at AtMillisecond now n = n

-- as a deadline: of 64 bits
abbrev pub deadline_or : Refused → Option ℤ → Read ℤ
deadline_or why None = fault why
deadline_or why (Some deadline) = Ok deadline

abbrev pub deadline : Expiring → Timing → ℕ → ℤ → Read ℤ
deadline command timing now n = deadline_or (ExpireTime command) (in_i64 (deadline_at timing now n))

abbrev pub expiry : Expiring → Timing → ℕ → Bytes → Read ℤ
expiry command timing now word = read_then (integer word) (deadline command timing now)

-- and of a number above 0
abbrev pub positive_deadline : Expiring → Timing → ℕ → ℤ → Read ℤ
positive_deadline command timing now n = if int_lt n (pos 1) then fault (ExpireTime command) else deadline command timing now n

abbrev pub positive_expiry : Expiring → Timing → ℕ → Bytes → Read ℤ
positive_expiry command timing now word = read_then (integer word) (positive_deadline command timing now)

-- Options, in any order behind the fixed words: what the next word is to those that were read
pub data OptionWord (O : Type 0) : Type 0 where
  Unknown : OptionWord O
  Flag : O → OptionWord O
  Valued : (Bytes → Read O) → OptionWord O

abbrev pub last_option : {O : Type 0} → OptionWord O → Read O
last_option Unknown = fault Syntax
last_option (Flag options) = Ok options
last_option (Valued read) = fault Syntax

abbrev pub read_options : {O : Type 0} → (O → Bytes → OptionWord O) → O → List Bytes → Read O
read_options option options [] = Ok options
read_options option options (word ∷ []) = last_option (option options word)
read_options option options (word ∷ value ∷ words) =
    elim (option options word) [
      | Unknown ↦ fault Syntax
      | Flag next ↦ read_options option next (value ∷ words)
      | Valued read ↦ read_then (read value) (λ next. read_options option next words)
    ]

-- two words are the same but for the case of their ASCII letters
abbrev pub is_word : Bytes → Bytes → Bool
is_word name word = bytes_eq (str_to_ascii_lowercase name) (str_to_ascii_lowercase word)

-- the options that say a deadline
abbrev pub timing_of : Bytes → Option Timing
timing_of word =
    if is_word (codes "ex") word then Some InSeconds
    else if is_word (codes "px") word then Some InMilliseconds
    else if is_word (codes "exat") word then Some AtSecond
    else if is_word (codes "pxat") word then Some AtMillisecond
    else None
