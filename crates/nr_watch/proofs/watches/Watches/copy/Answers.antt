use Rattle.std.proofs.Common.{List, [], Some, ◌∙◌, sym, subst}
use Rattle.std.specs.Map.{keys_of}
use Rattle.std.specs.Map.Iter.{deref_pair}
use Rattle.std.proofs.lemmas.Map.Iter.{rest_more, rest_all}
use Rattle.std.proofs.lemmas.Map.Keys.{IsDistinct-from_sorted}
use Rattle.nr_model.specs.Servers.{Watch}
use Rattle.nr_watch.specs.Kept.{Watcher, Kept, names_one, IsPut, IsAdded, IsIndexed}
use Rattle.nr_watch.proofs.Seen.{seen_alike}
use Rattle.nr_watch.proofs.Copying.{conn_cmp, IsCopied, copied_none, copied_more, copied_all, not_yet, none_indexed, copy_indexed}
use Rattle.nr_watch.proofs.watches.Watches.copy.Goals as goal

pub loop-conn-init : goal.loop-conn-init
loop-conn-init c =
    let all = c.self.inside.by_conn.entries in
    record {
      copied = subst (λ (copy : Kept). IsCopied all copy c.into_iter-conn-iterator.result) (sym c.new-by_conn.ensures.empty)
          (subst (IsCopied all []) (sym (c.into_iter-conn-iterator.ensures.into_iter_gives ∙ c.iter-conn-items.ensures.rest))
          (copied_none all (IsDistinct-from_sorted conn_cmp (keys_of all) c.iter-conn-items.ensures.ordered)));
      indexed = subst (λ (copy : Kept). IsIndexed copy c.new-by_name.result.conns.entries) (sym c.new-by_conn.ensures.empty)
          (none_indexed c.new-by_name.result.conns.entries c.new-by_name.ensures);
    }

pub loop-conn-preserved : goal.loop-conn-preserved
loop-conn-preserved c =
    let all = c.self.inside.by_conn.entries in
    let conn = c.in-Some.conn.now in
    let watched = c.in-Some.watched.now in
    let copy = c.loop-conn.by_conn.entries in
    let new = c.put.new.by_conn.entries in
    let before = c.loop-conn.by_name.conns.entries in
    let after = c.add_each.new.self.conns.entries in
    let parts = rest_more deref_pair c.loop-conn.conn-iterator c.next.new.self c.next.result
    (c.in-Some.conn, c.in-Some.watched) c.in-Some.is c.next.ensures.steps in
    let put : IsPut conn (Some watched) copy new = subst (λ (w : Watcher). IsPut conn (Some w) copy new) c.in_ok-copy.ensures c.in_ok-put.ensures in
    let so_far = subst (IsCopied all copy) parts c.loop-conn.invariant.copied in
    record {
      copied = copied_more all copy new conn watched c.next.new.self so_far put;
      indexed = copy_indexed copy new before after conn watched c.loop-conn.invariant.indexed (not_yet all copy conn watched c.next.new.self so_far) put
          (subst (λ (watches : List Watch). IsAdded (λ name. names_one name watches) conn before after) c.watches.ensures c.in_ok-add_each.ensures);
    }

pub returns : goal.returns
returns c =
    let all = c.self.inside.by_conn.entries in
    let copy = c.loop-conn.by_conn.entries in
    seen_alike all copy (copied_all all copy (subst (IsCopied all copy)
    (rest_all deref_pair c.loop-conn.conn-iterator c.next.new.self c.next.result c.in-None.is c.next.ensures.steps) c.loop-conn.invariant.copied))
    ∙ c.self.view_is
