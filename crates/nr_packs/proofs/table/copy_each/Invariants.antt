use Rattle.std.proofs.Common.{◌≡◌, take}
use Rattle.nr_packs.proofs.table.copy_each.Given as goal

abbrev pub invariant-loop-pack : goal.invariant-loop-pack
invariant-loop-pack l = l.copies.items ≡ take l.pack-index l.packs
