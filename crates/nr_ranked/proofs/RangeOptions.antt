-- The options of a range, word by word, whatever stands behind.
use Rattle.std.proofs.Common.{◌≡◌, List, [], ◌∷◌, refl, ap, ◌∙◌}
use Rattle.std.specs.Prelude.{Some, Ok, Err}
use Rattle.nr_model.specs.Bytes.{Bytes}
use Rattle.nr_model.specs.SortedSets.{Limit}
use Rattle.nr_model.specs.Commands.Reading.{Read, read_then}
use Rattle.nr_model.specs.Commands.Shape.{refusal}
use Rattle.nr_model.specs.Commands.SortedSets.{RangeOptions, RangeWord, Surplus, Alone, Limiting, Options, range_word, range_options, all_read, stopped, half_limit, limit_of}
use Rattle.nr_model.specs.declared.refused.Refused.TheVariants.{Syntax}
use Rattle.nr_model.specs.declared.command.RangeForm.{RangeForm}
use Rattle.nr_ranked.specs.Options.{limit_read}

-- with the two numbers that were read
abbrev pub limited : RangeForm → RangeOptions → Read (Limit × List Bytes) → Options
limited form options (Err reply) = stopped options reply
limited form options (Ok read) = range_options form (record options { limit = Some read.0 }) read.1

-- what a word makes of options, by how many words stand behind it
abbrev at_end : RangeOptions → RangeWord → Options
at_end options word = elim word [ Surplus ↦ stopped options (refusal Syntax) | Alone next ↦ all_read next | Limiting ↦ stopped options (refusal Syntax) ]

abbrev before_one : RangeForm → RangeOptions → Bytes → RangeWord → Options
before_one form options a word =
    elim word [ Surplus ↦ stopped options (refusal Syntax) | Alone next ↦ range_options form next (a ∷ []) | Limiting ↦ stopped options (half_limit a) ]

abbrev before_two : RangeForm → RangeOptions → Bytes → Bytes → List Bytes → RangeWord → Options
before_two form options a b words word =
    elim word [
      | Surplus ↦ stopped options (refusal Syntax)
      | Alone next ↦ range_options form next (a ∷ b ∷ words)
      | Limiting ↦ elim (limit_of a b) [ Err reply ↦ stopped options reply | Ok limit ↦ range_options form (record options { limit = Some limit }) words ]
    ]

limiting_at : (form : RangeForm) (options : RangeOptions) (words : List Bytes) (read : Read Limit)
    → elim read [ Err reply ↦ stopped options reply | Ok limit ↦ range_options form (record options { limit = Some limit }) words ]
    ≡ limited form options (read_then read (λ limit. Ok (limit, words)))
limiting_at form options words (Ok limit) = refl
limiting_at form options words (Err reply) = refl

module _ (form : RangeForm) (options : RangeOptions) (word : Bytes) where
  pub surplus : (behind : List Bytes) → range_word form options word ≡ Surplus → range_options form options (word ∷ behind) ≡ stopped options (refusal Syntax)
  surplus [] is = ap (at_end options) is
  surplus (a ∷ []) is = ap (before_one form options a) is
  surplus (a ∷ b ∷ words) is = ap (before_two form options a b words) is

  pub alone : (behind : List Bytes) (next : RangeOptions) → range_word form options word ≡ Alone next → range_options form options (word ∷ behind) ≡ range_options form next behind
  alone [] next is = ap (at_end options) is
  alone (a ∷ []) next is = ap (before_one form options a) is
  alone (a ∷ b ∷ words) next is = ap (before_two form options a b words) is

  pub limiting : (behind : List Bytes) → range_word form options word ≡ Limiting → range_options form options (word ∷ behind) ≡ limited form options (limit_read behind)
  limiting [] is = ap (at_end options) is
  limiting (a ∷ []) is = ap (before_one form options a) is
  limiting (a ∷ b ∷ words) is =
      let read : range_options form options (word ∷ a ∷ b ∷ words) ≡ before_two form options a b words Limiting = ap (before_two form options a b words) is in
      read ∙ limiting_at form options words (limit_of a b)
