use Rattle.std.proofs.Common.{ℕ, [], ap, refl, sym, subst}
use Rattle.nr_packs.specs.Packed.{IsPacked}
use Rattle.nr_model.specs.Bytes.{Bytes}
use Rattle.nr_packs.proofs.Kept.{none_made, read_back}
use Rattle.nr_packs.proofs.packed.Packed.new.Goals as goal

pub invariant_of-result : goal.invariant_of-result
invariant_of-result c = subst (λ (b : ℕ × Bytes). IsPacked b.0 b.1) (sym c.new.ensures) (none_made [] refl)

pub returns : goal.returns
returns c = read_back c.new.result.1 [] (ap (λ (b : ℕ × Bytes). b.1) c.new.ensures)
