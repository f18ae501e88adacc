-- Requests: how RESP2 spells them, and what stands at the front of bytes.
use Rattle.std.specs.Prelude.{ℕ, zero, suc, ◌+◌, ◌-◌, ◌<◌, ◌≤◌, Bool, true, false, not, ◌&&◌, ◌||◌, ◌==◌, nat_le, nat_lt, if◌then◌else◌, List, [], ◌∷◌, ◌++◌, length, take, drop, Option, Some, None, ℤ, pos, negsuc, ◌≤ℤ◌, ◌≡◌, codes, decimal, flat_map, take_while, FitsSigned}
use Rattle.std.specs.Int.{w64}
use Rattle.std.specs.Fmt.{signed_decimal}
use Rattle.std.specs.List.{list_any, AllByRecursion}
use Rattle.nr_model.specs.declared.fault.Fault.{Fault}
use Rattle.nr_model.specs.declared.fault.Fault.TheVariants.{Count, Length, Dollar, Inline, LineEnd, Quotes}
use Rattle.nr_model.specs.Bytes.{Bytes, crlf, on_one_line}
use Rattle.nr_model.specs.Numbers.{int_value}
pub mod Laws

-- the words of a request, its name first
abbrev pub Frame : Type 0
Frame = List Bytes

-- the most words of a request, bytes of a word, bytes of a header line and bytes of an inline line
abbrev pub most_words : ℕ
most_words = 1048576

abbrev pub most_word_bytes : ℕ
most_word_bytes = 536870912

abbrev pub most_header_bytes : ℕ
most_header_bytes = 64

abbrev pub most_inline_bytes : ℕ
most_inline_bytes = 65536

-- the text of a fault's error reply (Redis, networking.c; faults 5 and 6 own)
abbrev pub fault_reason : Fault → Bytes
fault_reason Count = codes "invalid multibulk length"
fault_reason Length = codes "invalid bulk length"
fault_reason (Dollar c) = codes "expected '$', got '" ++ on_one_line c ∷ codes "'"
fault_reason Inline = codes "too big inline request"
fault_reason LineEnd = codes "missing CR LF"
fault_reason Quotes = codes "quotes in inline request"

abbrev pub fault_text : Fault → Bytes
fault_text fault = codes "ERR Protocol error: " ++ fault_reason fault

-- space and tab, which part the words of an inline line
abbrev pub is_blank : ℕ → Bool
is_blank c = c == 32 || c == 9

-- nothing, or a blank
abbrev pub begins_blank : Bytes → Bool
begins_blank [] = true
begins_blank (c ∷ cs) = is_blank c

abbrev pub onto_first : ℕ → List Bytes → List Bytes
onto_first c [] = (c ∷ []) ∷ []
onto_first c (w ∷ ws) = (c ∷ w) ∷ ws

-- the words of an inline line
abbrev pub words_of : Bytes → List Bytes
words_of [] = []
words_of (c ∷ cs) =
    let ws = words_of cs in
    if is_blank c then ws else if begins_blank cs then (c ∷ []) ∷ ws else onto_first c ws

abbrev pub ends_with_cr : Bytes → Bool
ends_with_cr [] = false
ends_with_cr (c ∷ []) = c == 13
ends_with_cr (c ∷ d ∷ cs) = ends_with_cr (d ∷ cs)

-- a line without its last byte, and without a CR that ends it
abbrev pub without_last : Bytes → Bytes
without_last line = take (length line - 1) line

abbrev pub without_cr : Bytes → Bytes
without_cr line = if ends_with_cr line then without_last line else line

-- `"` and `'`
abbrev pub is_quote : ℕ → Bool
is_quote c = c == 34 || c == 39

-- a word as a bulk: `$`, its length, CR LF, its bytes, CR LF
abbrev pub bulk_text : Bytes → Bytes
bulk_text word = 36 ∷ decimal (length word) ++ crlf ++ word ++ crlf

-- words as an array: `*`, how many, CR LF, the bulks
abbrev pub array_text : List Bytes → Bytes
array_text words = 42 ∷ decimal (length words) ++ crlf ++ flat_map bulk_text words

-- an inline line without its LF: not an array, not too long, no LF and no quotes in it
pub record IsInlineLine (line : Bytes) : Type 0 where
  pub first : take 1 line ≡ 42 ∷ [] → ⊥
  pub short : length line ≤ most_inline_bytes
  pub one_line : list_any (λ c. c == 10) line ≡ false
  pub unquoted : list_any is_quote line ≡ false

-- The bytes are one whole request of these words, an empty request where there are none (RESP2 specification, inline commands)
pub data Spells : List Bytes → Bytes → Type 0 where
  array : (words : List Bytes) → 0 < length words → length words ≤ most_words → AllByRecursion (λ word. length word ≤ most_word_bytes) words
      → Spells words (array_text words)
  empty_array : (count : ℤ) → FitsSigned w64 count → count ≤ℤ pos 0 → Spells [] (42 ∷ signed_decimal count ++ crlf)
  inline : (line : Bytes) → IsInlineLine line → Spells (words_of (without_cr line)) (line ++ 10 ∷ [])

-- What stands at the front of bytes: a part and the bytes after it, a fault that these bytes decide, or less than either.
pub data Front (A : Type 0) : Type 0 where
  Whole : A → Bytes → Front A
  Faulty : Fault → Front A
  Partial : Front A

-- a second part behind the first
abbrev pub front_then : {A B : Type 0} → Front A → (A → Bytes → Front B) → Front B
front_then (Whole a rest) next = next a rest
front_then (Faulty fault) next = Faulty fault
front_then Partial next = Partial

-- a line without its LF; too long with more than so many bytes before it
abbrev pub line_at : ℕ → Fault → Bytes → Front Bytes
line_at most fault bytes =
    let line = take_while (λ c. not (c == 10)) bytes in
    if nat_lt most (length line) then Faulty fault
    else if length line == length bytes then Partial
    else Whole line (drop (length line + 1) bytes)

-- a number that passes the test, or the fault
abbrev pub number_or : Fault → (ℤ → Bool) → Option ℤ → Bytes → Front ℤ
number_or fault fits None rest = Faulty fault
number_or fault fits (Some number) rest = if fits number then Whole number rest else Faulty fault

-- a header line: a mark, a number that passes the test, CR LF
abbrev pub header_at : Fault → (ℤ → Bool) → Bytes → Front ℤ
header_at fault fits bytes =
    front_then (line_at most_header_bytes fault bytes) (λ line rest.
    if ends_with_cr line then number_or fault fits (int_value (drop 1 (without_last line))) rest else Faulty LineEnd)

abbrev pub is_count : ℤ → Bool
is_count (pos n) = nat_le n most_words
is_count (negsuc n) = true

abbrev pub is_length : ℤ → Bool
is_length (pos n) = nat_le n most_word_bytes
is_length (negsuc n) = false

-- how many there are; none below 0
abbrev pub how_many : ℤ → ℕ
how_many (pos n) = n
how_many (negsuc n) = 0

-- CR LF behind a word
abbrev pub ending_at : Bytes → Bytes → Front Bytes
ending_at word [] = Partial
ending_at word (c ∷ []) = if c == 13 then Partial else Faulty LineEnd
ending_at word (c ∷ d ∷ rest) = if c == 13 && d == 10 then Whole word rest else Faulty LineEnd

-- a bulk of so many bytes behind its header
abbrev pub word_at : ℕ → Bytes → Front Bytes
word_at len bytes = if nat_lt (length bytes) len then Partial else ending_at (take len bytes) (drop len bytes)

abbrev pub bulk_at : Bytes → Front Bytes
bulk_at [] = Partial
bulk_at (c ∷ bytes) =
    if c == 36 then front_then (header_at Length is_length (c ∷ bytes)) (λ len rest. word_at (how_many len) rest)
    else Faulty (Dollar c)

-- so many bulks
abbrev pub bulks_at : ℕ → Bytes → Front (List Bytes)
bulks_at zero bytes = Whole [] bytes
bulks_at (suc n) bytes =
    front_then (bulk_at bytes) (λ word rest. front_then (bulks_at n rest) (λ words rest'. Whole (word ∷ words) rest'))

abbrev pub array_at : Bytes → Front (List Bytes)
array_at bytes = front_then (header_at Count is_count bytes) (λ count rest. bulks_at (how_many count) rest)

abbrev pub inline_at : Bytes → Front (List Bytes)
inline_at bytes =
    front_then (line_at most_inline_bytes Inline bytes) (λ line rest.
    if list_any is_quote line then Faulty Quotes else Whole (words_of (without_cr line)) rest)

-- the request that stands at the front; an empty one has no words
abbrev pub request_at : Bytes → Front (List Bytes)
request_at [] = Partial
request_at (c ∷ bytes) = if c == 42 then array_at (c ∷ bytes) else inline_at (c ∷ bytes)

-- The frames of bytes: the whole requests that stand at their front, one behind the other, but for empty ones; the fault that the rest
-- stands under, or else the rest, which is less than a whole request.
pub record Framing : Type 0 where
  pub frames : List Frame
  pub fault : Option Fault
  pub rest : Bytes

-- one more request in front
abbrev pub with_request : List Bytes → Framing → Framing
with_request [] framing = framing
with_request (word ∷ words) framing = record framing { frames = (word ∷ words) ∷ framing.frames }

abbrev pub unfinished : Bytes → Framing
unfinished bytes = record { frames = []; fault = None; rest = bytes }

abbrev pub broken : Fault → Framing
broken fault = record { frames = []; fault = Some fault; rest = [] }

-- the frames of at most so many requests, the empty ones counted
unfoldable pub frames_within : ℕ → Bytes → Framing
frames_within zero bytes = unfinished bytes
frames_within (suc n) bytes =
    elim (request_at bytes) [
      | Whole words rest ↦ with_request words (frames_within n rest)
      | Faulty fault ↦ broken fault
      | Partial ↦ unfinished bytes
    ]

-- a request takes at least a byte
unfoldable pub framing_of : Bytes → Framing
framing_of bytes = frames_within (length bytes) bytes
