use Rattle.std.proofs.Common.{rules, ◌≡◌, subst}
use Rattle.nr_combiner.specs.Served.{StandsLevel}
use Rattle.nr_combiner.proofs.node.Node.come_back.Goals as goal

pub returns : goal.returns
returns g c =
    let before : c.deref-2.result.now ≡ c.deref_mut.result.now = search rules in
    let after : c.deref-3.result.now ≡ c.revive.new.self = search rules in
    record {
      before = c.deref_mut.result.now;
      after = c.revive.new.self;
      offer = c.args.offer;
      offered = c.place.ensures.offered;
      revived = c.in_default.ensures.revived.1;
      node_is = search rules;
      was_level = subst StandsLevel before c.level.ensures.level;
      is_level = subst StandsLevel after c.level-2.ensures.level;
    }
