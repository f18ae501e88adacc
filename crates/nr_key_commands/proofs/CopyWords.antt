-- The options of COPY, word by word.
use Rattle.std.proofs.Common.{◌≡◌, ℕ, true, false, List, [], ◌∷◌, refl, ap, ◌∙◌}
use Rattle.std.specs.Prelude.{Ok, codes}
use Rattle.nr_model.specs.Bytes.{Bytes}
use Rattle.nr_model.specs.Commands.Reading.{Read, fault, read_then, OptionWord, Unknown, Flag, Valued, last_option, read_options, database_index, is_word}
use Rattle.nr_model.specs.Commands.Keys.{CopyOptions, copy_option}
use Rattle.nr_model.specs.declared.refused.Refused.TheVariants.{Syntax}

-- an option of one word, and one with a value
pub flag_read : {O : Type 0} (option : O → Bytes → OptionWord O) (options next : O) (word : Bytes) (words : List Bytes) → option options word ≡ Flag next
    → read_options option options (word ∷ words) ≡ read_options option next words
flag_read option options next word [] e = ap last_option e
flag_read {O} option options next word (value ∷ words) e =
    ap (λ (o : OptionWord O). elim o [
      | Unknown ↦ fault {A = O} Syntax
      | Flag n ↦ read_options option n (value ∷ words)
      | Valued read ↦ read_then (read value) (λ n. read_options option n words)
    ]) e

pub valued_read : {O : Type 0} (option : O → Bytes → OptionWord O) (options next : O) (word value : Bytes) (words : List Bytes) (read : Bytes → Read O) → option options word ≡ Valued read → read value ≡ Ok next
    → read_options option options (word ∷ value ∷ words) ≡ read_options option next words
valued_read {O} option options next word value words read e is =
    ap (λ (o : OptionWord O). elim o [
      | Unknown ↦ fault {A = O} Syntax
      | Flag n ↦ read_options option n (value ∷ words)
      | Valued read ↦ read_then (read value) (λ n. read_options option n words)
    ]) e
    ∙ ap (λ (r : Read O). read_then r (λ n. read_options option n words)) is

-- REPLACE
pub replace_read : (options : CopyOptions) (word : Bytes) (words : List Bytes) → is_word (codes "replace") word ≡ true
    → read_options copy_option options (word ∷ words) ≡ read_options copy_option (record { database = options.database; replace = true }) words
replace_read options word words e = flag_read copy_option options _ word words (rw e refl)

-- DB index
pub database_read : (options : CopyOptions) (word index : Bytes) (behind words : List Bytes) (database : ℕ)
    → is_word (codes "replace") word ≡ false → is_word (codes "db") word ≡ true → behind ≡ index ∷ words → database_index index ≡ Ok database
    → read_options copy_option options (word ∷ behind) ≡ read_options copy_option (record { database = database; replace = options.replace }) words
database_read options word index behind words database e f b g =
    let put_there : ℕ → Read CopyOptions = λ d. Ok (record { database = d; replace = options.replace }) in
    let read : Bytes → Read CopyOptions = λ value. read_then (database_index value) put_there in
    let valued : copy_option options word ≡ Valued read = rw (e, f) refl in
    let is : read index ≡ put_there database = ap (λ (r : Read ℕ). read_then r put_there) g in
    ap (λ ws. read_options copy_option options (word ∷ ws)) b ∙ valued_read copy_option options _ word index words read valued is
