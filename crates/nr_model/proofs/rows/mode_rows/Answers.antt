use Rattle.std.specs.Prelude.{refl}
use Rattle.std.specs.Fmt.{digits}
use Rattle.nr_model.specs.Requests.{framing_of, frames_within}
use Rattle.nr_model.proofs.rows.mode_rows.Goals as goal

pub returns : goal.returns
unfolding framing_of frames_within digits
returns c = record {
  transaction = refl;
  unknown_spoils = refl;
  arity_spoils = refl;
  subscribing_spoils = refl;
  watch_inside = refl;
  outside = refl;
  discarded = refl;
  select_queued = refl;
  subscribed = refl;
  unsubscribed = refl;
  quit = refl;
  faulty = refl;
  known = refl;
  unknown = refl;
}
