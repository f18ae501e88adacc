-- Options with values, read one after the other.
use Rattle.std.proofs.Common.{◌≡◌, ℕ, Bool, true, false, List, [], ◌∷◌, refl, ap, ◌∙◌}
use Rattle.std.specs.Prelude.{codes, if◌then◌else◌}
use Rattle.nr_model.specs.Bytes.{Bytes}
use Rattle.nr_model.specs.Commands.Reading.{Read, fault, read_then, OptionWord, Unknown, Flag, Valued, last_option, read_options, is_word}
use Rattle.nr_model.specs.Commands.Lists.{PlaceOptions, place_option, count_option}
use Rattle.nr_model.specs.declared.refused.Refused.TheVariants.{Syntax}
use Rattle.nr_list_commands.specs.Options.{valued, IsNoFlag}

last_refused : {O : Type 0} (o : OptionWord O) → IsNoFlag o → last_option o ≡ fault Syntax
last_refused Unknown no_flag = refl
last_refused (Flag options) no_flag = absurd no_flag
last_refused (Valued read) no_flag = refl

next_read : {O : Type 0} (option : O → Bytes → OptionWord O) (o : OptionWord O) (value : Bytes) (words : List Bytes) → IsNoFlag o
    → elim o [
      | Unknown ↦ fault {A = O} Syntax
      | Flag next ↦ read_options option next (value ∷ words)
      | Valued read ↦ read_then (read value) (λ next. read_options option next words)
    ] ≡ read_then (valued o value) (λ next. read_options option next words)
next_read option Unknown value words no_flag = refl
next_read option (Flag options) value words no_flag = absurd no_flag
next_read option (Valued read) value words no_flag = refl

-- without its value
pub value_missing : {O : Type 0} (option : O → Bytes → OptionWord O) (options : O) (word : Bytes) → IsNoFlag (option options word)
    → read_options option options (word ∷ []) ≡ fault Syntax
value_missing option options word no_flag = last_refused (option options word) no_flag

-- with it
pub value_read : {O : Type 0} (option : O → Bytes → OptionWord O) (options : O) (word value : Bytes) (words : List Bytes) (read : Read O) → IsNoFlag (option options word)
    → valued (option options word) value ≡ read
    → read_options option options (word ∷ value ∷ words) ≡ read_then read (λ next. read_options option next words)
value_read {O} option options word value words read no_flag is =
    next_read option (option options word) value words no_flag ∙ ap (λ (r : Read O). read_then r (λ next. read_options option next words)) is

one_of_three : {O : Type 0} (a b c : Bool) (f g h : Bytes → Read O)
    → IsNoFlag (if a then Valued f else if b then Valued g else if c then Valued h else Unknown)
one_of_three true b c f g h = tt
one_of_three false true c f g h = tt
one_of_three false false true f g h = tt
one_of_three false false false f g h = tt

pub place_has_value : (options : PlaceOptions) (word : Bytes) → IsNoFlag (place_option options word)
place_has_value options word = one_of_three (is_word (codes "rank") word) (is_word (codes "count") word) (is_word (codes "maxlen") word) _ _ _

one_or_none : {O : Type 0} (a : Bool) (f : Bytes → Read O) → IsNoFlag (if a then Valued f else Unknown)
one_or_none true f = tt
one_or_none false f = tt

pub count_has_value : (count : ℕ) (word : Bytes) → IsNoFlag (count_option count word)
count_has_value count word = one_or_none (is_word (codes "count") word) _
