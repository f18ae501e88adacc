use Rattle.std.proofs.Common.{rules, ◌∙◌, option_map}
use lib.Seq.{map-set}
use Rattle.std.specs.Arc.{arc_value}
use Rattle.nr_entry.proofs.shares.Shares.take.Goals as goal

pub returns-clause-others : goal.returns-clause-others
returns-clause-others c = map-set (option_map arc_value) c.self.inside.shares.items c.args.node c.take.new.self ∙ search rules
