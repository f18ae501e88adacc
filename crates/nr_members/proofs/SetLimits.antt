-- The limit of SINTERCARD, word by word.
use Rattle.std.proofs.Common.{◌≡◌, ℕ, true, List, ◌∷◌, refl, ap, ◌∙◌}
use Rattle.std.specs.Prelude.{Ok, codes}
use Rattle.nr_model.specs.Bytes.{Bytes}
use Rattle.nr_model.specs.Numbers.{int_value}
use Rattle.nr_model.specs.Commands.Reading.{Read, fault, read_then, integer_or, OptionWord, Unknown, Flag, Valued, read_options, is_word}
use Rattle.nr_model.specs.Commands.Sets.{limit_of, limit_option}
use Rattle.nr_model.specs.declared.refused.Refused.TheVariants.{Syntax, Negative}

-- an option with a value
valued_read : {O : Type 0} (option : O → Bytes → OptionWord O) (options next : O) (word value : Bytes) (words : List Bytes) (read : Bytes → Read O) → option options word ≡ Valued read → read value ≡ Ok next
    → read_options option options (word ∷ value ∷ words) ≡ read_options option next words
valued_read {O} option options next word value words read e is =
    ap (λ (o : OptionWord O). elim o [
      | Unknown ↦ fault {A = O} Syntax
      | Flag n ↦ read_options option n (value ∷ words)
      | Valued read ↦ read_then (read value) (λ n. read_options option n words)
    ]) e
    ∙ ap (λ (r : Read O). read_then r (λ n. read_options option n words)) is

-- LIMIT limit
pub limit_read : (limit : ℕ) (word value : Bytes) (behind words : List Bytes) (next : ℕ) → is_word (codes "limit") word ≡ true → behind ≡ value ∷ words
    → read_then (integer_or Negative (int_value value)) limit_of ≡ Ok next
    → read_options limit_option limit (word ∷ behind) ≡ read_options limit_option next words
limit_read limit word value behind words next named b is =
    let read : Bytes → Read ℕ = λ value. read_then (integer_or Negative (int_value value)) limit_of in
    let valued : limit_option limit word ≡ Valued read = rw named refl in
    ap (λ ws. read_options limit_option limit (word ∷ ws)) b ∙ valued_read limit_option limit next word value words read valued is
