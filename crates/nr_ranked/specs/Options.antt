-- What stands among the options of a range, as the definitions have it.
use Rattle.std.specs.Prelude.{List, [], ◌∷◌, true, Ok, Err, codes, if◌then◌else◌}
use Rattle.nr_model.specs.Bytes.{Bytes}
use Rattle.std.specs.Option.{option_map}
use Rattle.nr_model.specs.SortedSets as model
use Rattle.nr_model.specs.Commands.Reading.{Read, fault, read_then, is_word}
use Rattle.nr_model.specs.Commands.SortedSets as sorted_sets
use Rattle.nr_model.specs.declared.refused.Refused.TheVariants.{Syntax}
use Rattle.nr_ranked.specs.declared.ranges.options.Limit.{Limit}
use Rattle.nr_ranked.specs.declared.ranges.options.RangeOptions.{RangeOptions}
use Rattle.nr_ranked.specs.declared.ranges.options.RangeWord.{RangeWord}
use Rattle.nr_ranked.specs.declared.ranges.options.RangeWord.TheVariants as words

abbrev pub limit_of : Limit → model.Limit
limit_of limit = record { offset = limit.offset; count = limit.count }

abbrev pub options_of : RangeOptions → sorted_sets.RangeOptions
options_of options = record { by = options.by; reversed = options.reversed; limit = option_map limit_of options.limit; with_scores = options.with_scores }

-- what a word is
abbrev pub word_of : RangeWord → sorted_sets.RangeWord
word_of words.Surplus = sorted_sets.Surplus
word_of (words.Alone options) = sorted_sets.Alone (options_of options)
word_of words.Limiting = sorted_sets.Limiting

-- REV, BYSCORE and BYLEX
abbrev pub way_word : sorted_sets.RangeOptions → Bytes → sorted_sets.RangeWord
way_word options word =
    if is_word (codes "rev") word then sorted_sets.Alone (record options { reversed = true })
    else if is_word (codes "byscore") word then sorted_sets.by_scores options
    else if is_word (codes "bylex") word then sorted_sets.by_members options
    else sorted_sets.Surplus

-- the two numbers behind LIMIT, and the words behind them
abbrev pub limit_read : List Bytes → Read (model.Limit × List Bytes)
limit_read [] = fault Syntax
limit_read (offset ∷ []) = Err (sorted_sets.half_limit offset)
limit_read (offset ∷ count ∷ words) = read_then (sorted_sets.limit_of offset count) (λ limit. Ok (limit, words))
