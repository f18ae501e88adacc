use Rattle.std.proofs.Common.{List, length, ap, sym, ◌∙◌}
use Rattle.nr_model.specs.Bytes.{Bytes}
use Rattle.nr_lists.proofs.Packed.{length_cut}
use Rattle.nr_lists.proofs.few.Few.len.Goals as goal

pub returns-clause-len : goal.returns-clause-len
returns-clause-len c = sym (length_cut c.self.inside.lens.now c.self.inside.bytes.now) ∙ ap (λ (items : List Bytes). length items) c.self.view_is
