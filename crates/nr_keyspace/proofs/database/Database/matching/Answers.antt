use Rattle.std.proofs.Common.{◌∙◌, map}
use Rattle.std.specs.Map.Iter.{deref}
use Rattle.nr_keyspace.proofs.Listed.{all_taken, listed_all}
use Rattle.nr_keyspace.proofs.database.Database.matching.Goals as goal

pub returns : goal.returns
returns c =
    let entries = c.self.inside.by_name.entries in
    listed_all c.args.now c.args.pattern.now c.args.self.now entries c.loop-name.names.items c.sort_unstable.new.self.items c.self.view_is
    c.iter-name-items.ensures.unique
    (all_taken c.args.now c.args.pattern.now (map deref c.loop-name.names.items) c.loop-name.name-iterator c.into_iter-name-iterator.result entries
    c.loop-name.invariant c.in-None.ensures.steps.0 (c.into_iter-name-iterator.ensures.into_iter_gives ∙ c.iter-name-items.ensures.rest))
    c.sort_unstable.ensures.permutation c.sort_unstable.ensures.sorted
