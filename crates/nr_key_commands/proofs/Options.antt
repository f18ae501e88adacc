-- Option words, read one after the other.
use Rattle.std.proofs.Common.{◌≡◌, ℕ, ℤ, Bool, true, false, List, [], ◌∷◌, refl, ap, sym, ◌∙◌}
use Rattle.std.specs.Prelude.{Option, Some, None, Result, Ok, Err, IfErr, codes, if◌then◌else◌}
use Rattle.std.proofs.lemmas.Result.{IfErr-weaker}
use Rattle.nr_model.specs.Bytes.{Bytes}
use Rattle.nr_model.specs.Commands.Reading.{Read, fault, read_then, positive_expiry, is_word, timing_of, OptionWord, Unknown, Flag, Valued, read_options}
use Rattle.nr_model.specs.Commands.Strings.{SetOptions, GetExOptions, set_option, set_time, with_deadline, get_ex_option, get_ex_time}
use Rattle.nr_model.specs.declared.command.Timing.{Timing}
use Rattle.nr_model.specs.declared.refused.Refused.{Refused}
use Rattle.nr_model.specs.declared.refused.Expiring.{Expiring}
use Rattle.nr_model.specs.declared.refused.Expiring.TheVariants as expiring
use Rattle.nr_key_commands.specs.Options.{set_flag, get_ex_flag, with_get_ex_deadline, deadline_behind}

-- a word that says a deadline by its timing
abbrev pub time_word : {O : Type 0} → (O → ℤ → O) → Expiring → ℕ → O → Option Timing → OptionWord O
time_word timed command now options None = Unknown
time_word timed command now options (Some timing) =
    Valued (λ value. read_then (positive_expiry command timing now value) (λ deadline. Ok (timed options deadline)))

-- one that takes no value, or else one that may say a deadline
abbrev pub flag_or : {O : Type 0} → Option O → OptionWord O → OptionWord O
flag_or None word = word
flag_or (Some options) word = Flag options

-- what is left to read behind it
abbrev pub read_on : {O : Type 0} → (O → Bytes → OptionWord O) → (O → ℤ → O) → O → List Bytes → Option O → Read (ℤ × List Bytes) → Read O
read_on option timed options words (Some next) behind = read_options option next words
read_on option timed options words None behind = read_then behind (λ read. read_options option (timed options read.0) read.1)

value_read : {O : Type 0} (option : O → Bytes → OptionWord O) (timed : O → ℤ → O) (options : O) (words : List Bytes) (r : Read ℤ)
    → read_then (read_then r (λ deadline. Ok (timed options deadline))) (λ next. read_options option next words)
    ≡ read_then (read_then {B = ℤ × List Bytes} r (λ deadline. Ok (deadline, words))) (λ read. read_options option (timed options read.0) read.1)
value_read option timed options words (Ok deadline) = refl
value_read option timed options words (Err error) = refl

read_word : {O : Type 0} (option : O → Bytes → OptionWord O) (timed : O → ℤ → O) (command : Expiring) (now : ℕ) (options : O) (word : Bytes) (flag : Option O) (timing : Option Timing) (words : List Bytes)
    → option options word ≡ flag_or flag (time_word timed command now options timing)
    → read_options option options (word ∷ words) ≡ read_on option timed options words flag (deadline_behind command now timing words)
read_word option timed command now options word (Some next) timing [] is = rw is refl
read_word option timed command now options word (Some next) timing (value ∷ words) is = rw (is, read_options) refl
read_word option timed command now options word None None [] is = rw is refl
read_word option timed command now options word None None (value ∷ words) is = rw (is, read_options) refl
read_word option timed command now options word None (Some timing) [] is = rw is refl
read_word option timed command now options word None (Some timing) (value ∷ words) is = rw (is, read_options) (value_read option timed options words (positive_expiry command timing now value))

-- options of which each word is a flag, or one that says a deadline by its timing
pub record Words (O : Type 0) : Type 0 where
  pub option : O → Bytes → OptionWord O
  pub timed : O → ℤ → O
  pub flag : O → Bytes → Option O
  pub command : Expiring
  pub now : ℕ
  pub says : (options : O) (word : Bytes) → option options word ≡ flag_or (flag options word) (time_word timed command now options (timing_of word))

-- a flag is read
pub flag_read : {O : Type 0} (w : Words O) (options next : O) (word : Bytes) (words : List Bytes)
    → Some next ≡ w.flag options word → read_options w.option options (word ∷ words) ≡ read_options w.option next words
flag_read w options next word words is =
    read_word w.option w.timed w.command w.now options word (w.flag options word) (timing_of word) words (w.says options word)
    ∙ ap (λ flag. read_on w.option w.timed options words flag (deadline_behind w.command w.now (timing_of word) words)) (sym is)

-- a word that is no flag: what it comes to is what the deadline behind it does
no_flag_read : {O : Type 0} (w : Words O) (options : O) (word : Bytes) (words : List Bytes) (timing : Option Timing) (read : Read (ℤ × List Bytes))
    → None ≡ w.flag options word → timing ≡ timing_of word → deadline_behind w.command w.now timing words ≡ read
    → read_options w.option options (word ∷ words) ≡ read_on w.option w.timed options words None read
no_flag_read w options word words timing read is timed behind =
    read_word w.option w.timed w.command w.now options word (w.flag options word) (timing_of word) words (w.says options word)
    ∙ ap (λ flag. read_on w.option w.timed options words flag (deadline_behind w.command w.now (timing_of word) words)) (sym is)
    ∙ ap (λ timing. read_on w.option w.timed options words None (deadline_behind w.command w.now timing words)) (sym timed)
    ∙ ap (read_on w.option w.timed options words None) behind

-- a deadline is read
pub deadline_read : {O : Type 0} (w : Words O) (options next : O) (word : Bytes) (words behind : List Bytes) (timing : Option Timing) (deadline : ℤ)
    → None ≡ w.flag options word → timing ≡ timing_of word → deadline_behind w.command w.now timing words ≡ Ok (deadline, behind) → next ≡ w.timed options deadline
    → read_options w.option options (word ∷ words) ≡ read_options w.option next behind
deadline_read w options next word words behind timing deadline is timed read after =
    no_flag_read w options word words timing (Ok (deadline, behind)) is timed read ∙ ap (λ o. read_options w.option o behind) (sym after)

-- a word is refused
pub word_refused : {O A : Type 0} (w : Words O) (options : O) (word : Bytes) (words : List Bytes) (timing : Option Timing) (r : Result A Refused)
    → None ≡ w.flag options word → timing ≡ timing_of word → IfErr r (λ why. deadline_behind w.command w.now timing words ≡ fault why)
    → IfErr r (λ why. read_options w.option options (word ∷ words) ≡ fault why)
word_refused w options word words timing r is timed =
    IfErr-weaker r (λ why. deadline_behind w.command w.now timing words ≡ fault why) (λ why. read_options w.option options (word ∷ words) ≡ fault why)
    (λ why. no_flag_read w options word words timing (fault why) is timed)

flag_of_four : {O : Type 0} (a b c d : Bool) (n x g k : O) (word : OptionWord O)
    → (if a then Flag n else if b then Flag x else if c then Flag g else if d then Flag k else word)
    ≡ flag_or (if a then Some n else if b then Some x else if c then Some g else if d then Some k else None) word
flag_of_four true b c d n x g k word = refl
flag_of_four false true c d n x g k word = refl
flag_of_four false false true d n x g k word = refl
flag_of_four false false false true n x g k word = refl
flag_of_four false false false false n x g k word = refl

set_time_word : (now : ℕ) (options : SetOptions) (timing : Option Timing) → set_time now options timing ≡ time_word with_deadline expiring.Set now options timing
set_time_word now options None = refl
set_time_word now options (Some timing) = refl

pub set_says : (now : ℕ) (options : SetOptions) (word : Bytes)
    → set_option now options word ≡ flag_or (set_flag options word) (time_word with_deadline expiring.Set now options (timing_of word))
set_says now options word =
    flag_of_four (is_word (codes "nx") word) (is_word (codes "xx") word) (is_word (codes "get") word) (is_word (codes "keepttl") word) _ _ _ _ (set_time now options (timing_of word))
    ∙ ap (flag_or (set_flag options word)) (set_time_word now options (timing_of word))

-- the words of SET
abbrev pub set_words : ℕ → Words SetOptions
set_words now = record {
  option = set_option now;
  timed = with_deadline;
  flag = set_flag;
  command = expiring.Set;
  now = now;
  says = set_says now;
}

flag_of_one : {O : Type 0} (a : Bool) (p : O) (word : OptionWord O) → (if a then Flag p else word) ≡ flag_or (if a then Some p else None) word
flag_of_one true p word = refl
flag_of_one false p word = refl

get_ex_time_word : (now : ℕ) (options : GetExOptions) (timing : Option Timing)
    → get_ex_time now options timing ≡ time_word with_get_ex_deadline expiring.GetEx now options timing
get_ex_time_word now options None = refl
get_ex_time_word now options (Some timing) = refl

pub get_ex_says : (now : ℕ) (options : GetExOptions) (word : Bytes)
    → get_ex_option now options word ≡ flag_or (get_ex_flag options word) (time_word with_get_ex_deadline expiring.GetEx now options (timing_of word))
get_ex_says now options word =
    flag_of_one (is_word (codes "persist") word) _ (get_ex_time now options (timing_of word))
    ∙ ap (flag_or (get_ex_flag options word)) (get_ex_time_word now options (timing_of word))

-- the words of GETEX
abbrev pub get_ex_words : ℕ → Words GetExOptions
get_ex_words now = record {
  option = get_ex_option now;
  timed = with_get_ex_deadline;
  flag = get_ex_flag;
  command = expiring.GetEx;
  now = now;
  says = get_ex_says now;
}
