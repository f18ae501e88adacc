use Rattle.std.proofs.Common.{◌≤◌, take, length}
use Rattle.std.specs.List.{All}
use Rattle.nr_packs.specs.Rows.{pair_of, Begins}
use Rattle.nr_packs.proofs.heads.front_with.Given as goal

abbrev pub invariant-loop-row : goal.invariant-loop-row
invariant-loop-row l = record {
  within : l.count ≤ length l.first;
  begin : All (λ row. Begins (take l.count l.first) (pair_of row)) (take l.row-index l.rows);
}
