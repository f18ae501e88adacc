-- What is told of a write on a reader and a writer.
use Rattle.std.specs.Prelude.{Bool, true, false}
use Rattle.nr_service.specs.declared.stream.Sent.{Sent}
use Rattle.nr_service.specs.declared.stream.Sent.TheVariants as sent

-- whether the writer is stuck behind it: bytes that were taken count as sent in any case
abbrev pub told : Sent → Bool → Sent
told (sent.Bytes count) is_stuck = sent.Bytes count
told sent.Nothing true = sent.Failed
told sent.Nothing false = sent.Nothing
told sent.Failed is_stuck = sent.Failed
