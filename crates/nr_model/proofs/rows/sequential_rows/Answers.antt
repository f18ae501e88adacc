use Rattle.std.specs.Prelude.{refl}
use Rattle.std.specs.Fmt.{digits}
use Rattle.nr_model.specs.Commands.{look, change}
use Rattle.nr_model.specs.Sequential.{past_from, event_of}
use Rattle.nr_model.proofs.Live.{get-live-insert}
use Rattle.nr_model.proofs.rows.sequential_rows.Goals as goal

pub returns : goal.returns
unfolding past_from event_of digits look change
returns c = record {
  moments = refl;
  spoiled_by_another = refl;
  spoiled_by_itself = refl;
  forgotten = refl;
  reads_between_writes = simp get-live-insert;
}
