use Rattle.std.proofs.Common.{ℕ, refl, ap, ◌∙◌, arith}
use Rattle.std.specs.Prelude.{nat_lt}
use Rattle.nr_entry.proofs.Choosing.{has_other_is}
use Rattle.nr_entry.proofs.run.Run.has_other.Goals as goal

pub returns : goal.returns
returns c =
    ap (λ (k : ℕ). nat_lt k c.len-len.result) c.front.ensures
    ∙ has_other_is c.args.updates c.args.self.now.jobs.items c.len-len.result _ (omega arith) refl
