-- What contracts see of a reader.
use Rattle.std.specs.Prelude.{◌≡◌, ◌++◌, List, Option, None}
use Rattle.nr_model.specs.Bytes.{Bytes}
use Rattle.nr_model.specs.Requests.{Frame, framing_of}
use Rattle.nr_model.specs.Requests.Laws.{with_frames}
use Rattle.nr_resp.specs.declared.reader.FeedError.{FeedError}

-- the bytes since the last whole request, and the error that closed the reader, if one did
pub record Stream : Type 0 where
  pub rest : Bytes
  pub closed : Option FeedError

abbrev pub open_at : Bytes → Stream
open_at rest = record { rest = rest; closed = None }

-- the second bytes are read where the first were, with the frames between added
pub record Reads (before after : Bytes) (frames frames' : List Frame) : Type 0 where
  pub added : List Frame
  pub pushed : frames' ≡ frames ++ added
  pub same : framing_of before ≡ with_frames added (framing_of after)

-- Memory ran out in a request of these bytes: this front of it was held, and the frames of those before it were added
abbrev pub RanOut : Bytes → Bytes → List Frame → List Frame → Type 0
RanOut bytes held frames frames' = (left : Bytes) × Reads bytes (held ++ left) frames frames'
