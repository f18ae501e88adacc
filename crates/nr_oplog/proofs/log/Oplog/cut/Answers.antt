use Rattle.std.proofs.Common.{rules, sym, ◌∙◌}
use Rattle.nr_oplog.specs.Rule.{opening_view}
use Rattle.nr_oplog.proofs.Comings.{cuts_node}
use Rattle.nr_oplog.proofs.log.Oplog.cut.Goals as goal

pub split_seat-requires : goal.split_seat-requires
split_seat-requires g c = let s = c.args.self.now in let shape = s.shape in
    (search rules, search rules, cuts_node _ _ _ c.args.node s.nodes _ (c.requires.rest.1 ∙ (λ i. opening_view (sym shape.0 i) (sym shape.1 i) c.args.node s.nodes)) c.requires.rest.0)
