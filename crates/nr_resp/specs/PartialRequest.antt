-- What an unfinished request holds, and the bytes that it stands for.
use Rattle.std.specs.Prelude.{◌≡◌, ℕ, ◌<◌, ◌≤◌, true, List, [], ◌∷◌, ◌++◌, length, decimal, flat_map}
use Rattle.std.specs.List.{AllByRecursion}
use Rattle.nr_model.specs.Bytes.{Bytes, crlf}
use Rattle.nr_model.specs.Requests.{framing_of, broken, most_words, most_word_bytes, most_header_bytes, bulk_text}
use Rattle.nr_resp.specs.Lines.{begins, may_begin, most_line, IsLineFront}
use Rattle.nr_resp.specs.declared.reader.FeedError.{FeedError}
use Rattle.nr_resp.specs.declared.reader.FeedError.TheVariants as errors
use Rattle.nr_resp.specs.declared.reader.partial.Stage.{Stage}
use Rattle.nr_resp.specs.declared.reader.partial.Stage.TheVariants.{Line, Header, Body, Ending}
use Rattle.nr_resp.specs.declared.reader.partial.PartialRequest.{PartialRequest}

-- the header of an array of so many words
abbrev pub array_head : ℕ → Bytes
array_head count = 42 ∷ decimal count ++ crlf

-- the header of a bulk of so many bytes
abbrev pub bulk_head : ℕ → Bytes
bulk_head len = 36 ∷ decimal len ++ crlf

-- the header of an array and its first words
abbrev pub array_front : ℕ → List Bytes → Bytes
array_front count words = array_head count ++ flat_map bulk_text words

-- the bytes that a stage stands for, with the whole words of the array and the bytes of the part that it is in
abbrev pub bytes_at : Stage → List Bytes → Bytes → Bytes
bytes_at Line words part = part
bytes_at (Header count) words part = array_front count words ++ part
bytes_at (Body count len) words part = array_front count words ++ (bulk_head len ++ part)
bytes_at (Ending count) words part = array_front count words ++ (bulk_head (length part) ++ (part ++ 13 ∷ []))

-- an array that lacks words
pub record LacksWords (count : ℕ) (words : List Bytes) : Type 0 where
  pub few : count ≤ most_words
  pub lacks : length words < count
  pub short : AllByRecursion (λ word. length word ≤ most_word_bytes) words

-- a stage and what it holds go together
abbrev pub Fits : Stage → List Bytes → Bytes → Type 0
Fits Line words part = (words ≡ []) × IsLineFront (most_line (begins 42 part)) part
Fits (Header count) words part = LacksWords count words × IsLineFront most_header_bytes part × (may_begin 36 part ≡ true)
Fits (Body count len) words part = LacksWords count words × (length part ≤ len) × (len ≤ most_word_bytes)
Fits (Ending count) words part = LacksWords count words × (length part ≤ most_word_bytes)

abbrev pub bytes_of : PartialRequest → Bytes
bytes_of request = bytes_at request.stage request.words.items request.part.items

abbrev pub IsHeld : PartialRequest → Type 0
IsHeld request = Fits request.stage request.words.items request.part.items

-- the bytes are no request, where memory is not what failed
abbrev pub Breaks : Bytes → FeedError → Type 0
Breaks bytes (errors.Fault fault) = framing_of bytes ≡ broken fault
Breaks bytes (errors.Memory _) = Unit {0}
