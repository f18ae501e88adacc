-- What the frames of single byte strings are.
use Rattle.std.specs.Prelude.{◌≡◌, List, [], ◌∷◌, ◌++◌, replicate, Some, None, codes}
use Rattle.nr_model.specs.declared.fault.Fault.{Fault}
use Rattle.nr_model.specs.declared.fault.Fault.TheVariants.{Count, Length, Dollar, Inline, LineEnd, Quotes}
use Rattle.nr_model.specs.Bytes.{Bytes}
use Rattle.nr_model.specs.Requests.{Frame, framing_of, unfinished, broken, fault_text}

-- the bytes hold these frames, and then nothing
abbrev pub HasFrames : Bytes → List Frame → Type 0
HasFrames bytes frames = framing_of bytes ≡ record { frames = frames; fault = None; rest = [] }

-- the bytes are less than a request
abbrev pub IsUnfinished : Bytes → Type 0
IsUnfinished bytes = framing_of bytes ≡ unfinished bytes

-- the bytes stand under this fault from their first request on
abbrev pub IsBroken : Bytes → Fault → Type 0
IsBroken bytes fault = framing_of bytes ≡ broken fault

-- `SET k v` and `GET k`
abbrev pub set_frame : Frame
set_frame = codes "SET" ∷ codes "k" ∷ codes "v" ∷ []

abbrev pub get_frame : Frame
get_frame = codes "GET" ∷ codes "k" ∷ []

-- whole requests, one behind the other, and the empty ones
pub record WholeRows : Type 0 where
  pub arrays : HasFrames (codes "*3\r\n$3\r\nSET\r\n$1\r\nk\r\n$1\r\nv\r\n*2\r\n$3\r\nGET\r\n$1\r\nk\r\n") (set_frame ∷ get_frame ∷ [])
  pub empty_ones : HasFrames (codes "*0\r\n\r\nPING\r\n") ((codes "PING" ∷ []) ∷ [])
  pub below_zero : HasFrames (codes "*-1\r\n") []
  pub blanks : HasFrames (codes "a b\tc \r\n") ((codes "a" ∷ codes "b" ∷ codes "c" ∷ []) ∷ [])
  pub a_piece : framing_of (codes "PING\r\n*1\r\n$4\r\nPI") ≡ record { frames = (codes "PING" ∷ []) ∷ []; fault = None; rest = codes "*1\r\n$4\r\nPI" }
  pub before_a_fault : framing_of (codes "PING\r\n*x\r\nPING\r\n") ≡ record { frames = (codes "PING" ∷ []) ∷ []; fault = Some Count; rest = [] }

-- less than a request
pub record UnfinishedRows : Type 0 where
  pub a_word : IsUnfinished (codes "*1\r\n$4\r\nPIN")
  pub most_words : IsUnfinished (codes "*1048576\r\n")
  pub header_bytes : IsUnfinished (codes "*" ++ replicate 63 48)
  pub most_word_bytes : IsUnfinished (codes "*1\r\n$536870912\r\n")
  pub inline_bytes : IsUnfinished (replicate 65536 97)

-- what is no request
pub record BrokenRows : Type 0 where
  pub null_word : IsBroken (codes "*1\r\n$-1\r\n*1\r\n$4\r\nPING\r\n") Length
  pub no_dollar : IsBroken (codes "*1\r\n@") (Dollar 64)
  pub no_dollar_but_a_line_end : IsBroken (codes "*1\r\n\n") (Dollar 10)
  pub more_words : IsBroken (codes "*1048577\r\n") Count
  pub more_header_bytes : IsBroken (codes "*" ++ replicate 64 48) Count
  pub plus : IsBroken (codes "*+1\r\n") Count
  pub minus_zero : IsBroken (codes "*-0\r\n") Count
  pub no_return : IsBroken (codes "*x\n") LineEnd
  pub leading_zero : IsBroken (codes "*1\r\n$05\r\n") Length
  pub more_word_bytes : IsBroken (codes "*1\r\n$536870913\r\n") Length
  pub no_word_end : IsBroken (codes "*2\r\n$3\r\nGETx") LineEnd
  pub half_a_word_end : IsBroken (codes "*2\r\n$3\r\nGET\rx") LineEnd
  pub quotes : IsBroken (codes "SET k \"v\"\n") Quotes
  pub more_inline_bytes : IsBroken (replicate 65537 97) Inline

-- each fault's text
pub record FaultTexts : Type 0 where
  pub count : fault_text Count ≡ codes "ERR Protocol error: invalid multibulk length"
  pub length : fault_text Length ≡ codes "ERR Protocol error: invalid bulk length"
  pub dollar : fault_text (Dollar 64) ≡ codes "ERR Protocol error: expected '$', got '@'"
  pub dollar_line_end : fault_text (Dollar 10) ≡ codes "ERR Protocol error: expected '$', got ' '"
  pub inline : fault_text Inline ≡ codes "ERR Protocol error: too big inline request"
  pub line_end : fault_text LineEnd ≡ codes "ERR Protocol error: missing CR LF"
  pub quotes : fault_text Quotes ≡ codes "ERR Protocol error: quotes in inline request"
