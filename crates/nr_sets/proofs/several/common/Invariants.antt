use Rattle.std.proofs.Common.{◌&&◌, map, take}
use Rattle.std.specs.Prelude.{filter, Bool}
use Rattle.nr_model.specs.Bytes.{Bytes}
use Rattle.std.specs.List.{list_all}
use Rattle.std.specs.FinSet as set
use Rattle.std.specs.Map.Iter.{deref}
use Rattle.nr_model.specs.Sets.{listed}
use Rattle.nr_sets.specs.Lent.{lent}
use Rattle.nr_sets.proofs.Chosen.{Chooses}
use Rattle.nr_sets.proofs.several.common.Given as goal

-- the members so far
abbrev pub invariant-loop-member : goal.invariant-loop-member
invariant-loop-member l =
    let wanted : Bytes → Bool = λ m. list_all (λ s. set.contains (lent s) m) l.fn.before && list_all (λ s. set.contains (lent s) m) l.fn.behind in
    Chooses wanted l.limit (map deref l.members.items) l.member-iterator (take l.limit (filter wanted (listed l.fn.walked)))
