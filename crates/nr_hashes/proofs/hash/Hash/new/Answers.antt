use Rattle.std.proofs.Common.{sym, subst}
use Rattle.std.specs.List.Sorted.{IsStrictlySortedBy}
use Rattle.nr_hashes.specs.Forms.{entries_of}
use Rattle.nr_packs.specs.Orders.{AreInOrder}
use Rattle.nr_hashes.proofs.Seen.{none_seen}
use Rattle.nr_hashes.proofs.hash.Hash.new.Goals as goal

pub invariant_of-result : goal.invariant_of-result
unfolding IsStrictlySortedBy
invariant_of-result c = subst AreInOrder (sym c.new.ensures.none) tt

pub returns : goal.returns
returns c = none_seen (entries_of c.new.result) c.new.ensures.none
