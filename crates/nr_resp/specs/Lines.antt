-- The lines of requests: where one ends, and what a whole one says.
use Rattle.std.specs.Prelude.{◌≡◌, ℕ, ◌<◌, ◌≤◌, Bool, true, false, ◌==◌, if◌then◌else◌, [], ◌∷◌, ◌++◌, length, take, drop, slice_index, Option, Some, None, Result, Ok, Err, ℤ, decimal}
use Rattle.std.specs.List.{list_any}
use Rattle.nr_model.specs.declared.fault.Fault.{Fault}
use Rattle.nr_model.specs.declared.fault.Fault.TheVariants.{Count, Inline, LineEnd, Quotes}
use Rattle.nr_model.specs.Bytes.{Bytes, crlf}
use Rattle.nr_model.specs.Numbers.{int_value}
use Rattle.nr_model.specs.Requests.{Front, Faulty, number_or, most_header_bytes, most_inline_bytes, ends_with_cr, without_last, how_many, is_quote}
use Rattle.nr_resp.specs.declared.reader.FeedError.{FeedError}
use Rattle.nr_resp.specs.declared.reader.FeedError.TheVariants as errors

abbrev pub has_lf : Bytes → Bool
has_lf bytes = list_any (λ c. c == 10) bytes

abbrev pub begins : ℕ → Bytes → Bool
begins mark [] = false
begins mark (c ∷ bytes) = c == mark

-- the same, or no byte yet
abbrev pub may_begin : ℕ → Bytes → Bool
may_begin mark [] = true
may_begin mark (c ∷ bytes) = c == mark

-- the most bytes of a first line, and the fault of a longer one, by whether it begins with a `*`
abbrev pub most_line : Bool → ℕ
most_line starred = if starred then most_header_bytes else most_inline_bytes

abbrev pub long_line : Bool → Fault
long_line starred = if starred then Count else Inline

-- the front of a line, of at most so many bytes
pub record IsLineFront (most : ℕ) (line : Bytes) : Type 0 where
  pub one_line : has_lf line ≡ false
  pub short : length line ≤ most

-- an LF stands at this place, and none before it
pub record IsFirstLf (end : ℕ) (bytes : Bytes) : Type 0 where
  pub inside : end < length bytes
  pub one_line : has_lf (take end bytes) ≡ false
  pub lf : slice_index bytes end ≡ 10

-- the bytes begin with more than so many that are no LF
pub record IsTooLong (most : ℕ) (bytes : Bytes) : Type 0 where
  pub front : Bytes
  pub back : Bytes
  pub split : bytes ≡ front ++ back
  pub one_line : has_lf front ≡ false
  pub long : most < length front

-- where a line with room for so many bytes ends in the bytes, if it does
abbrev pub Ends : ℕ → Fault → Bytes → Result (Option ℕ) FeedError → Type 0
Ends room fault bytes (Ok (Some end)) = IsFirstLf end bytes × (end ≤ room)
Ends room fault bytes (Ok None) = IsLineFront room bytes
Ends room fault bytes (Err error) = (error ≡ errors.Fault fault) × IsTooLong room bytes

-- a header with a number below 100 stands before the rest
pub record IsShortHeader (mark : ℕ) (piece : Bytes) (number : ℕ) (left : Bytes) : Type 0 where
  pub low : number < 100
  pub split : piece ≡ (mark ∷ decimal number ++ crlf) ++ left

-- a body of so many bytes with its CR and LF stands before the rest
pub record IsWholeBody (len : ℕ) (piece body left : Bytes) : Type 0 where
  pub size : length body ≡ len
  pub split : piece ≡ body ++ 13 ∷ 10 ∷ left

-- the text of the number in a whole header line, behind its mark and before its CR
abbrev pub number_text : Bytes → Bytes
number_text line = drop 1 (without_last line)

-- a whole header line says a number that passes the test
pub record Says (fits : ℤ → Bool) (line : Bytes) (n : ℕ) : Type 0 where
  pub number : ℤ
  pub ended : ends_with_cr line ≡ true
  pub read : int_value (number_text line) ≡ Some number
  pub fit : fits number ≡ true
  pub many : n ≡ how_many number

-- the number that a whole header line says, if it ends with CR
abbrev pub Numbers : Bytes → Result (Option ℤ) FeedError → Type 0
Numbers line (Ok number) = (ends_with_cr line ≡ true) × (number ≡ int_value (number_text line))
Numbers line (Err error) = (ends_with_cr line ≡ false) × (error ≡ errors.Fault LineEnd)

-- what a whole header line says, with what is behind it
abbrev pub said : Fault → (ℤ → Bool) → Bytes → Bytes → Front ℤ
said fault fits line left = if ends_with_cr line then number_or fault fits (int_value (number_text line)) left else Faulty LineEnd

-- a whole header line is this fault
abbrev pub Misses : Fault → (ℤ → Bool) → Bytes → FeedError → Type 0
Misses fault fits line (errors.Fault found) = (left : Bytes) → said fault fits line left ≡ Faulty found
Misses fault fits line (errors.Memory _) = Unit {0}

-- a whole inline line is this fault
abbrev pub HasQuotes : Bytes → FeedError → Type 0
HasQuotes line (errors.Fault found) = (list_any is_quote line ≡ true) × (found ≡ Quotes)
HasQuotes line (errors.Memory _) = Unit {0}
