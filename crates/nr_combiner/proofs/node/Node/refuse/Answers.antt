use Rattle.std.proofs.Common.{rules, ◌≡◌, subst}
use Rattle.nr_combiner.specs.Served.{StandsLevel}
use Rattle.nr_combiner.proofs.node.Node.refuse.Goals as goal

pub returns : goal.returns
returns g c =
    let before : c.deref.result.now ≡ c.deref_mut.result.now = search rules in
    let after : c.deref-2.result.now ≡ c.refuse.new.self = search rules in
    record {
      before = c.deref_mut.result.now;
      after = c.refuse.new.self;
      refused = c.refuse.ensures;
      was_level = subst StandsLevel before c.level.ensures.level;
      is_level = subst StandsLevel after c.level-2.ensures.level;
    }
