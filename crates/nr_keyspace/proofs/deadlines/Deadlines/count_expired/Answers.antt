use Rattle.std.proofs.Common.{◌+◌, ap, ◌∙◌, sym, subst}
use Rattle.std.specs.FinMap as map
use Rattle.nr_keyspace.specs.Names.{live_store}
use Rattle.nr_keyspace.specs.Stores.{IsIndexed}
use Rattle.nr_keyspace.proofs.Ordered.{rising, parted_expired}
use Rattle.nr_keyspace.proofs.Counted.{counted}
use Rattle.nr_keyspace.proofs.deadlines.Deadlines.count_expired.Goals as goal

pub returns : goal.returns
returns c = λ store indexed.
    let rise = rising c.self.inside.ordered.0 c.self.invariant in
    ap (λ n. map.len (live_store store c.args.now) + n) (c.find.ensures.place (parted_expired c.args.now c.self.inside.ordered.0 rise))
    ∙ counted c.args.now c.self.inside.ordered.0 store rise (subst (IsIndexed store) (sym c.self.view_is) indexed)
