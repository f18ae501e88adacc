use Rattle.std.proofs.Common.{List, subst}
use Rattle.std.specs.Prelude.{filter, OnErr}
use Rattle.nr_entry.specs.declared.conn.ConnId.{ConnId}
use Rattle.nr_node.specs.Batches.{is_cut_at}
use Rattle.nr_combiner.specs.Pieces.{ListsFront}
use Rattle.nr_combiner.specs.Served.{CombinerState}
use Rattle.nr_combiner.proofs.combiner.Combiner.cut_among.Goals as goal

pub returns-clause-front : goal.returns-clause-front
returns-clause-front g c =
    subst (λ (x : CombinerState). OnErr c.add_cut.result ((left : List ConnId) × ListsFront (filter (is_cut_at x.node) c.args.conns.now) c.args.cut.now.items c.add_cut.new.cut.items left))
    c.self.view_is c.add_cut.ensures.front
