use Rattle.std.proofs.Common.{◌≡◌, ◌≤◌, ◌+◌, length}
use Rattle.std.specs.Prelude.{filter}
use Rattle.nr_zsets.specs.Forms.{items_in}
use Rattle.nr_zsets.proofs.block.count.Given as goal

-- how many passed, and how many are left
abbrev pub invariant-loop-place : goal.invariant-loop-place
invariant-loop-place g l = record {
  passed : l.count + length (filter (g.T.Test.passing l.test) l.walk) ≡ length (filter (g.T.Test.passing l.test) (items_in l.pairs));
  left : l.place + length l.walk ≡ length (items_in l.pairs);
  few : l.count ≤ l.place;
}
