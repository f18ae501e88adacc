use Rattle.std.proofs.Common.{Bool, sym, ap, ◌∙◌, arith}
use mathlib.Core.Bool.{beq}
use Rattle.nr_entry.proofs.Fronts.{is_kind_there, is_kind_nowhere}
use Rattle.nr_entry.proofs.run.Run.is_kind_at.Goals as goal

pub returns-then-index-len : goal.returns-then-index-len
returns-then-index-len c =
    ap (λ (b : Bool). beq b c.args.updates) c.is_update.ensures
    ∙ sym (is_kind_there c.args.updates c.args.self.now.jobs.items c.args.index c.index.result.now (omega arith) c.index.ensures)

pub returns-else-index-len : goal.returns-else-index-len
returns-else-index-len c = sym (is_kind_nowhere c.args.updates c.args.self.now.jobs.items c.args.index (omega arith))
