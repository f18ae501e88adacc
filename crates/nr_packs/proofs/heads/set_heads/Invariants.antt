use Rattle.std.proofs.Common.{◌≡◌}
use Rattle.std.specs.List.{AllWithin}
use Rattle.nr_packs.specs.Rows.{pairs_in, IsHeaded}
use Rattle.nr_packs.proofs.heads.set_heads.Given as goal

abbrev pub invariant-loop-row : goal.invariant-loop-row
invariant-loop-row l = record {
  same : pairs_in l.rows ≡ pairs_in l.fn.rows;
  heads : AllWithin (IsHeaded l.skip) l.rows 0 l.row-index;
}
