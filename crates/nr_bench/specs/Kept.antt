-- What a queue keeps of an emission, as what was written.
use Rattle.std.specs.Arc.{arc_value}
use Rattle.nr_model.specs.Bytes.{Bytes}
use Rattle.nr_bench.specs.declared.queue.Kept.{Kept}
use Rattle.nr_bench.specs.declared.queue.Kept.TheVariants as kept

-- its bytes, whoever owns them
abbrev pub bytes_of : Kept → Bytes
bytes_of (kept.Own bytes) = bytes.items
bytes_of (kept.Shared message) = (arc_value message).items
