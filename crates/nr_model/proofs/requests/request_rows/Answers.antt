use Rattle.std.proofs.Common.{refl}
use Rattle.nr_model.specs.Requests.{framing_of, frames_within}
use Rattle.nr_model.proofs.requests.request_rows.Goals as goal

pub returns-clause-whole : goal.returns-clause-whole
unfolding framing_of frames_within
returns-clause-whole c = record { arrays = refl; empty_ones = refl; below_zero = refl; blanks = refl; a_piece = refl; before_a_fault = refl }

pub returns-clause-unfinished : goal.returns-clause-unfinished
unfolding framing_of frames_within
returns-clause-unfinished c = record { a_word = refl; most_words = refl; header_bytes = refl; most_word_bytes = refl; inline_bytes = refl }

pub returns-clause-broken : goal.returns-clause-broken
unfolding framing_of frames_within
returns-clause-broken c = record {
  null_word = refl;
  no_dollar = refl;
  no_dollar_but_a_line_end = refl;
  more_words = refl;
  more_header_bytes = refl;
  plus = refl;
  minus_zero = refl;
  no_return = refl;
  leading_zero = refl;
  more_word_bytes = refl;
  no_word_end = refl;
  half_a_word_end = refl;
  quotes = refl;
  more_inline_bytes = refl;
}

pub returns-clause-texts : goal.returns-clause-texts
returns-clause-texts c = record { count = refl; length = refl; dollar = refl; dollar_line_end = refl; inline = refl; line_end = refl; quotes = refl }
