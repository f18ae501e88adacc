use Rattle.std.proofs.Common.{◌∷◌, subst, sym}
use Rattle.std.specs.Cmp.Lexicographic.{nat_list_cmp_total}
use Rattle.std.specs.Map.Iter.{deref}
use Rattle.std.proofs.lemmas.Map.Iter.{rest_more, rest_all}
use Rattle.std.proofs.lemmas.Map.Lookups.{exact_bytes}
use Rattle.nr_model.specs.Bytes.{Bytes}
use Rattle.nr_model.specs.Keyspace.{byte_cmp}
use Rattle.nr_pubsub.proofs.Sets.{IsCopied, copied_more, copied_all}
use Rattle.nr_pubsub.proofs.holding.copy.Goals as goal

pub loop-name-preserved : goal.loop-name-preserved
loop-name-preserved c = record {
  copied = copied_more byte_cmp nat_list_cmp_total exact_bytes c.args.names.now.keys c.loop-name.copied.keys c.insert.new.self.keys c.next.new.self
      c.in_ok-copy.field-0
      (subst (λ (name : Bytes). IsCopied byte_cmp nat_list_cmp_total exact_bytes c.args.names.now.keys c.loop-name.copied.keys (name ∷ c.next.new.self))
      (sym c.in_ok-copy.ensures.copied)
      (subst (IsCopied byte_cmp nat_list_cmp_total exact_bytes c.args.names.now.keys c.loop-name.copied.keys)
      (rest_more deref c.loop-name.name-iterator c.next.new.self c.next.result c.in-Some.name c.in-Some.is c.next.ensures.steps)
      c.loop-name.invariant.copied))
      c.in_ok-insert.ensures.updates.0;
  ordered = c.in_ok-insert.ensures.ordered;
}

pub returns-clause-same : goal.returns-clause-same
returns-clause-same c = copied_all byte_cmp nat_list_cmp_total exact_bytes c.args.names.now.keys c.loop-name.copied.keys
    c.into_iter-name-iterator.ensures.into_iter_gives.4 c.loop-name.invariant.ordered
    (subst (IsCopied byte_cmp nat_list_cmp_total exact_bytes c.args.names.now.keys c.loop-name.copied.keys)
    (rest_all deref c.loop-name.name-iterator c.next.new.self c.next.result c.in-None.is c.next.ensures.steps) c.loop-name.invariant.copied)
