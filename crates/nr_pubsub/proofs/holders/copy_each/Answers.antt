use Rattle.std.proofs.Common.{◌∙◌, sym, subst}
use Rattle.std.specs.Map.Iter.{deref_pair}
use Rattle.std.proofs.lemmas.Map.Iter.{rest_more, rest_all}
use Rattle.nr_pubsub.specs.Holdings.{all_held_of}
use Rattle.nr_pubsub.proofs.Held.{IsHeldCopied, held_copied_none, held_copied_more, held_copied_all}
use Rattle.nr_pubsub.proofs.holders.copy_each.Goals as goal

pub loop-conn-init : goal.loop-conn-init
loop-conn-init c = subst (IsHeldCopied (all_held_of c.args.by_conn.now.entries) c.new-copied.result.entries)
    (sym (c.into_iter-conn-iterator.ensures.into_iter_gives ∙ c.iter-conn-items.ensures.rest))
    (held_copied_none c.args.by_conn.now.entries c.new-copied.result.entries c.new-copied.ensures.empty c.iter-conn-items.ensures.ordered)

pub loop-conn-preserved-in_ok-insert : goal.loop-conn-preserved-in_ok-insert
loop-conn-preserved-in_ok-insert c =
    let all = all_held_of c.args.by_conn.now.entries in
    let parts = rest_more deref_pair c.loop-conn.conn-iterator c.next.new.self c.next.result
    (c.in-Some.conn, c.in-Some.holding) c.in-Some.is c.next.ensures.steps in
    held_copied_more all c.loop-conn.copied.entries c.insert.new.self.entries c.in-Some.conn.now c.in-Some.holding.now c.in_ok-copy.field-0 c.next.new.self
    (subst (IsHeldCopied all c.loop-conn.copied.entries) parts c.loop-conn.invariant) c.in_ok-insert.ensures.updates.0 c.in_ok-copy.ensures

pub loop-conn-preserved : goal.loop-conn-preserved
loop-conn-preserved c =
    let all = all_held_of c.args.by_conn.now.entries in
    let parts = rest_more deref_pair c.loop-conn.conn-iterator c.next.new.self c.next.result
    (c.in-Some.conn, c.in-Some.holding) c.in-Some.is c.next.ensures.steps in
    held_copied_more all c.loop-conn.copied.entries c.insert.new.self.entries c.in-Some.conn.now c.in-Some.holding.now c.in_ok-copy.field-0 c.next.new.self
    (subst (IsHeldCopied all c.loop-conn.copied.entries) parts c.loop-conn.invariant) c.in_ok-insert.ensures.updates.0 c.in_ok-copy.ensures

pub returns : goal.returns
returns c = held_copied_all (all_held_of c.args.by_conn.now.entries) c.loop-conn.copied.entries
    (subst (IsHeldCopied (all_held_of c.args.by_conn.now.entries) c.loop-conn.copied.entries)
    (rest_all deref_pair c.loop-conn.conn-iterator c.next.new.self c.next.result c.in-None.is c.next.ensures.steps) c.loop-conn.invariant)
