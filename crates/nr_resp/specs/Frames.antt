-- Frames as lists of words.
use Rattle.std.specs.Prelude.{List, map}
use Rattle.nr_model.specs.Bytes.{Bytes}
use Rattle.nr_resp.specs.declared.frame.Frame.{Frame}

abbrev pub frames_seen : List Frame → List (List Bytes)
frames_seen frames = map (λ (frame : Frame). frame.words.items) frames
