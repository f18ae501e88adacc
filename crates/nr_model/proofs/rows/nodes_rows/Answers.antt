use Rattle.std.proofs.Common.{refl}
use Rattle.std.specs.Fmt.{digits}
use Rattle.nr_model.specs.Commands.{look, change}
use Rattle.nr_model.specs.Requests.{framing_of, frames_within}
use Rattle.nr_model.specs.Sequential.{past_from, event_of}
use Rattle.nr_model.proofs.Live.{get-live-insert}
use Rattle.nr_model.proofs.rows.nodes_rows.Goals as goal

pub returns : goal.returns
unfolding framing_of frames_within digits look change past_from event_of
returns c = record {
  read = refl;
  answered = refl;
  full = refl;
  waits = refl;
  falls = refl;
  nothing_of_it = refl;
  closed = refl;
  revives = refl;
  refused = refl;
  comes_back = refl;
  answered_behind = refl;
  same = refl;
  hears = refl;
  taken = refl;
  published = refl;
  got = simp get-live-insert;
  gone = refl;
  ahead = refl;
  cut = refl;
  numbered = refl;
}
