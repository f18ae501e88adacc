use Rattle.std.proofs.Common.{rules, ◌≡◌, subst}
use Rattle.std.specs.Prelude.{filter}
use Rattle.nr_node.specs.Batches.{is_cut_at}
use Rattle.nr_combiner.specs.Served.{StandsLevel}
use Rattle.nr_combiner.proofs.Cut.{cuts_behind, cuts_front, none_added}
use Rattle.nr_combiner.proofs.node.Node.cut_among.Goals as goal

pub returns-then-node-clause-front : goal.returns-then-node-clause-front
returns-then-node-clause-front g c =
    let n = c.deref.result.now.node in
    record { at = n; left = filter (is_cut_at n) c.args.conns.now; added = none_added (is_cut_at n) c.args.conns.now c.args.cut.now.items; is_level = c.level.ensures.level }

pub returns-clause-all : goal.returns-clause-all
returns-clause-all g c =
    let is : c.deref-3.result.now.node.book.node ≡ c.args.self.now.node = search rules in
    let same : c.deref.result.now ≡ c.deref-3.result.now = search rules in
    cuts_behind _ _ _ c.deref-3.result.now _ _ _ is (search rules) c.in_ok-cut_among.ensures.all (subst StandsLevel same c.level.ensures.level)

pub returns-in_err-cut_among-clause-front : goal.returns-in_err-cut_among-clause-front
returns-in_err-cut_among-clause-front g c =
    let same : c.deref.result.now ≡ c.deref-3.result.now = search rules in
    cuts_front _ c.deref-3.result.now.node _ _ _ c.in_err-cut_among.ensures.front (subst StandsLevel same c.level.ensures.level)
