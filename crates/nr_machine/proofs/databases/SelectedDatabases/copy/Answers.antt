use Rattle.std.proofs.Common.{◌∙◌, sym, subst}
use Rattle.std.specs.Map.Iter.{deref_pair}
use Rattle.std.proofs.lemmas.Map.Iter.{rest_more, rest_all}
use Rattle.nr_machine.proofs.DatabasesKept.{AreCopied, none_copied, one_copied, all_copied}
use Rattle.nr_machine.proofs.databases.SelectedDatabases.copy.Goals as goal

pub loop-conn-init : goal.loop-conn-init
loop-conn-init c = subst (AreCopied c.args.self.now c.new-copied.result)
    (sym (c.into_iter-conn-iterator.ensures.into_iter_gives ∙ c.iter-conn-items.ensures.rest))
    (none_copied c.self.inside.by_conn.entries c.args.self.now c.new-copied.result c.self.view_is c.new-copied.ensures c.iter-conn-items.ensures.ordered)

pub loop-conn-preserved : goal.loop-conn-preserved
loop-conn-preserved c =
    let all = c.args.self.now in
    let parts = rest_more deref_pair c.loop-conn.conn-iterator c.next.new.self c.next.result
    (c.in-Some.conn, c.in-Some.database) c.in-Some.is c.next.ensures.steps in
    one_copied all c.loop-conn.copied c.put.new.self c.in-Some.conn.now c.in-Some.database.now c.next.new.self
    (subst (AreCopied all c.loop-conn.copied) parts c.loop-conn.invariant) c.in_ok-put.ensures.ok

pub returns : goal.returns
returns c = all_copied c.args.self.now c.loop-conn.copied
    (subst (AreCopied c.args.self.now c.loop-conn.copied)
    (rest_all deref_pair c.loop-conn.conn-iterator c.next.new.self c.next.result c.in-None.is c.next.ensures.steps) c.loop-conn.invariant)
