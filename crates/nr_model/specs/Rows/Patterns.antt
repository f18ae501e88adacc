-- Patterns and texts that match or do not, by computation.
use Rattle.std.specs.Prelude.{◌≡◌, true, false, codes}
use Rattle.nr_model.specs.Patterns.{matches}

-- what each of these patterns matches, and what it does not
pub record PatternRows : Type 0 where
  -- any one byte
  pub any_byte : matches (codes "h?llo") (codes "hello") ≡ true
  pub any_byte_missing : matches (codes "h?llo") (codes "hllo") ≡ false
  pub any_byte_not_two : matches (codes "h?llo") (codes "heello") ≡ false
  pub any_byte_alone : matches (codes "?") (codes "") ≡ false
  -- any bytes
  pub star_many : matches (codes "n*") (codes "news") ≡ true
  pub star_none : matches (codes "n*") (codes "n") ≡ true
  pub star_from_front : matches (codes "n*") (codes "anews") ≡ false
  pub stars_none : matches (codes "**") (codes "") ≡ true
  pub stars_many : matches (codes "**") (codes "abc") ≡ true
  pub stars_apart : matches (codes "*a*b") (codes "xaybzb") ≡ true
  pub stars_apart_none : matches (codes "*a*b") (codes "ab") ≡ true
  pub stars_apart_order : matches (codes "*a*b") (codes "ba") ≡ false
  pub stars_apart_end : matches (codes "*a*b") (codes "abc") ≡ false
  -- other bytes, and the whole text
  pub plain : matches (codes "hello") (codes "hello") ≡ true
  pub plain_less : matches (codes "hello") (codes "hell") ≡ false
  pub plain_more : matches (codes "hello") (codes "helloo") ≡ false
  pub empty : matches (codes "") (codes "") ≡ true
  pub empty_more : matches (codes "") (codes "a") ≡ false
  pub marks_outside : matches (codes "^-]") (codes "^-]") ≡ true
  -- escaped bytes
  pub escaped_question : matches (codes "h\\?llo") (codes "h?llo") ≡ true
  pub escaped_question_only : matches (codes "h\\?llo") (codes "hello") ≡ false
  pub escaped_star : matches (codes "\\*") (codes "*") ≡ true
  pub escaped_star_only : matches (codes "\\*") (codes "a") ≡ false
  pub escaped_opening : matches (codes "\\[a]") (codes "[a]") ≡ true
  pub ending_escape : matches (codes "a\\") (codes "a\\") ≡ true
  pub ending_escape_only : matches (codes "a\\") (codes "a") ≡ false
  -- classes
  pub class_first : matches (codes "h[ae]llo") (codes "hallo") ≡ true
  pub class_second : matches (codes "h[ae]llo") (codes "hello") ≡ true
  pub class_other : matches (codes "h[ae]llo") (codes "hillo") ≡ false
  pub class_one_byte : matches (codes "h[ae]llo") (codes "haello") ≡ false
  pub class_missing : matches (codes "h[ae]llo") (codes "hllo") ≡ false
  pub class_of_marks : matches (codes "[*?[]") (codes "[") ≡ true
  pub class_of_marks_only : matches (codes "[*?[]") (codes "a") ≡ false
  pub empty_class : matches (codes "[]") (codes "a") ≡ false
  pub empty_class_closing : matches (codes "[]") (codes "]") ≡ false
  pub empty_class_nothing : matches (codes "[]") (codes "") ≡ false
  pub empty_class_within : matches (codes "[]a]") (codes "a]") ≡ false
  -- negated classes
  pub negated : matches (codes "h[^e]llo") (codes "hallo") ≡ true
  pub negated_in : matches (codes "h[^e]llo") (codes "hello") ≡ false
  pub negated_missing : matches (codes "h[^e]llo") (codes "hllo") ≡ false
  pub negated_range : matches (codes "[^a-c]") (codes "d") ≡ true
  pub negated_range_in : matches (codes "[^a-c]") (codes "b") ≡ false
  pub negated_empty : matches (codes "[^]") (codes "a") ≡ true
  pub negated_empty_closing : matches (codes "[^]") (codes "]") ≡ true
  pub negated_empty_nothing : matches (codes "[^]") (codes "") ≡ false
  pub negated_empty_two : matches (codes "[^]") (codes "ab") ≡ false
  pub caret_later : matches (codes "[a^]") (codes "^") ≡ true
  pub caret_later_first : matches (codes "[a^]") (codes "a") ≡ true
  pub caret_later_other : matches (codes "[a^]") (codes "b") ≡ false
  pub caret_twice : matches (codes "[^^]") (codes "^") ≡ false
  pub caret_twice_other : matches (codes "[^^]") (codes "a") ≡ true
  pub caret_escaped : matches (codes "[\\^a]") (codes "a") ≡ true
  -- ranges
  pub range : matches (codes "h[a-b]llo") (codes "hbllo") ≡ true
  pub range_past : matches (codes "h[a-b]llo") (codes "hcllo") ≡ false
  pub falling_range : matches (codes "h[b-a]llo") (codes "hallo") ≡ true
  pub falling_range_first : matches (codes "h[b-a]llo") (codes "hbllo") ≡ true
  pub falling_range_past : matches (codes "h[b-a]llo") (codes "hcllo") ≡ false
  pub range_inside : matches (codes "[c-a]") (codes "b") ≡ true
  pub range_from_dash : matches (codes "[--0]") (codes ".") ≡ true
  pub range_from_dash_end : matches (codes "[--0]") (codes "0") ≡ true
  pub range_from_dash_past : matches (codes "[--0]") (codes "1") ≡ false
  pub dash_behind_range : matches (codes "[a-b-d]") (codes "-") ≡ true
  pub dash_behind_range_last : matches (codes "[a-b-d]") (codes "d") ≡ true
  pub dash_behind_range_no_range : matches (codes "[a-b-d]") (codes "c") ≡ false
  pub dash_first : matches (codes "[-a]") (codes "-") ≡ true
  pub dash_last : matches (codes "[a-]") (codes "-") ≡ true
  pub dash_last_no_range : matches (codes "[a-]") (codes "]") ≡ false
  pub escaped_dash : matches (codes "[a\\-z]") (codes "-") ≡ true
  pub escaped_dash_no_range : matches (codes "[a\\-z]") (codes "b") ≡ false
  pub escaped_ends : matches (codes "[\\a-\\c]") (codes "b") ≡ true
  pub escaped_end_closing : matches (codes "[Z-\\]]") (codes "[") ≡ true
  pub escaped_closing : matches (codes "[\\]]") (codes "]") ≡ true
  pub escaped_closing_only : matches (codes "[\\]]") (codes "\\") ≡ false
  -- unclosed classes
  pub unclosed : matches (codes "[abc") (codes "c") ≡ true
  pub unclosed_no_text : matches (codes "[abc") (codes "[abc") ≡ false
  pub unclosed_dash : matches (codes "[a-") (codes "-") ≡ true
  pub unclosed_dash_first : matches (codes "[a-") (codes "a") ≡ true
  pub unclosed_dash_no_range : matches (codes "[a-") (codes "b") ≡ false
  pub unclosed_escape : matches (codes "[a\\") (codes "\\") ≡ true
  pub unclosed_empty : matches (codes "[") (codes "[") ≡ false
  pub unclosed_negated : matches (codes "[^") (codes "x") ≡ true
