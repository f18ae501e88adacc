use Rattle.std.proofs.Common.{◌∙◌, sym, subst}
use Rattle.std.specs.Map.Iter.{deref_pair}
use Rattle.std.proofs.lemmas.Map.Iter.{rest_more, rest_all}
use Rattle.nr_pubsub.specs.Standings.{standing_of}
use Rattle.nr_pubsub.proofs.Copying.{IsIndexCopied, index_copied_none, index_copied_more, index_copied_all}
use Rattle.nr_pubsub.proofs.index.copy_each.Goals as goal

pub loop-name-init : goal.loop-name-init
loop-name-init c = record {
  copied = subst (IsIndexCopied (standing_of c.args.by_name.now.entries) c.new-copied.result.entries)
      (sym (c.into_iter-name-iterator.ensures.into_iter_gives ∙ c.iter-name-items.ensures.rest))
      (index_copied_none c.args.by_name.now.entries c.new-copied.result.entries c.new-copied.ensures.empty c.iter-name-items.ensures.ordered);
  ordered = c.new-copied.ensures.ordered;
}

pub loop-name-preserved-in_ok-insert : goal.loop-name-preserved-in_ok-insert
loop-name-preserved-in_ok-insert c =
    let all = standing_of c.args.by_name.now.entries in
    let parts = rest_more deref_pair c.loop-name.name-iterator c.next.new.self c.next.result
    (c.in-Some.name, c.in-Some.set) c.in-Some.is c.next.ensures.steps in
    record {
      copied = index_copied_more all c.loop-name.copied.entries c.insert.new.self.entries c.in-Some.name.now c.in_ok-copy.field-0 c.in-Some.set.now
          c.in_ok-set.set c.next.new.self (subst (IsIndexCopied all c.loop-name.copied.entries) parts c.loop-name.invariant.copied)
          c.in_ok-insert.ensures.updates.0 c.in_ok-copy.ensures.copied c.in_ok-set.ensures;
      ordered = c.in_ok-insert.ensures.ordered;
    }

pub loop-name-preserved : goal.loop-name-preserved
loop-name-preserved c =
    let all = standing_of c.args.by_name.now.entries in
    let parts = rest_more deref_pair c.loop-name.name-iterator c.next.new.self c.next.result
    (c.in-Some.name, c.in-Some.set) c.in-Some.is c.next.ensures.steps in
    record {
      copied = index_copied_more all c.loop-name.copied.entries c.insert.new.self.entries c.in-Some.name.now c.in_ok-copy.field-0 c.in-Some.set.now
          c.in_ok-set.set c.next.new.self (subst (IsIndexCopied all c.loop-name.copied.entries) parts c.loop-name.invariant.copied)
          c.in_ok-insert.ensures.updates.0 c.in_ok-copy.ensures.copied c.in_ok-set.ensures;
      ordered = c.in_ok-insert.ensures.ordered;
    }

pub returns-clause-same : goal.returns-clause-same
returns-clause-same c = index_copied_all (standing_of c.args.by_name.now.entries) c.loop-name.copied.entries
    (subst (IsIndexCopied (standing_of c.args.by_name.now.entries) c.loop-name.copied.entries)
    (rest_all deref_pair c.loop-name.name-iterator c.next.new.self c.next.result c.in-None.is c.next.ensures.steps) c.loop-name.invariant.copied)
