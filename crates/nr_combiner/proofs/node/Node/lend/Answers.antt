use Rattle.std.proofs.Common.{rules, ◌≡◌, ◌∙◌, subst}
use Rattle.nr_combiner.specs.Served.{StandsLevel}
use Rattle.nr_combiner.proofs.node.Node.lend.Goals as goal

pub returns : goal.returns
returns g c =
    let before : c.deref-2.result.now ≡ c.deref_mut.result.now = search rules in
    let after : c.deref-3.result.now ≡ c.lend.new.self = search rules in
    let is : c.deref_mut.result.now.node.book.node ≡ c.args.self.now.node = search rules in
    let told = c.in_ok-loan.ensures in
    record {
      before = c.deref_mut.result.now;
      after = c.lend.new.self;
      has_lent = told.lent;
      seat = told.same.1;
      counts = told.same.2;
      node_is = is;
      standing = told.node ∙ is;
      was_level = subst StandsLevel before c.level.ensures.level;
      is_level = subst StandsLevel after c.level-2.ensures.level;
    }
