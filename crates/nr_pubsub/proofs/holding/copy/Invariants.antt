use Rattle.std.specs.BTreeSet.{IsOrdered}
use Rattle.std.specs.Cmp.Lexicographic.{nat_list_cmp_total}
use Rattle.std.proofs.lemmas.Map.Lookups.{exact_bytes}
use Rattle.nr_model.specs.Keyspace.{byte_cmp}
use Rattle.nr_pubsub.proofs.Sets.{IsCopied}
use Rattle.nr_pubsub.proofs.holding.copy.Given as goal

abbrev pub invariant-loop-name : goal.invariant-loop-name
invariant-loop-name l = record {
  copied : IsCopied byte_cmp nat_list_cmp_total exact_bytes l.fn.names.keys l.copied.keys l.name-iterator;
  ordered : IsOrdered byte_cmp l.copied;
}
