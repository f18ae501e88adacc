use Rattle.std.specs.Prelude.{refl}
use Rattle.std.specs.Fmt.{digits}
use Rattle.nr_model.specs.Sequential.{past_from, event_of}
use Rattle.nr_model.specs.Patterns.{parts, parts_from}
use Rattle.nr_model.proofs.rows.message_rows.Goals as goal

pub returns : goal.returns
unfolding past_from event_of digits parts parts_from
returns c = record {
  published_in_turn = refl;
  received_in_turn = refl;
  published_to_both = refl;
  received_by_both = refl;
  counts = refl;
  published_to_patterns = refl;
  patterns_in_order = refl;
  published_after_end = refl;
}
