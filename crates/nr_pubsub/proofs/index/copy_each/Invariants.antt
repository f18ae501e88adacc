use Rattle.std.specs.List.Sorted.{IsStrictlySortedBy}
use Rattle.std.specs.Map.{keys_of}
use Rattle.nr_model.specs.Keyspace.{byte_cmp}
use Rattle.nr_pubsub.specs.Standings.{standing_of}
use Rattle.nr_pubsub.proofs.Copying.{IsIndexCopied}
use Rattle.nr_pubsub.proofs.index.copy_each.Given as goal

abbrev pub invariant-loop-name : goal.invariant-loop-name
invariant-loop-name l = record {
  copied : IsIndexCopied (standing_of l.fn.by_name.entries) l.copied.entries l.name-iterator;
  ordered : IsStrictlySortedBy byte_cmp (keys_of l.copied.entries);
}
