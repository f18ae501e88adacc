use Rattle.std.specs.Prelude.{refl}
use Rattle.std.specs.FinSet.{members}
use Rattle.nr_model.proofs.rows.set_rows.Goals as goal

pub returns : goal.returns
returns c = record {
  common = simp members refl;
  common_to_three = simp members refl;
  common_to_none = simp members refl;
  joined = simp members refl;
  joined_none = simp members refl;
  less = simp members refl;
  less_two = simp members refl;
  less_the_first = simp members refl;
  alone = simp members refl;
}
