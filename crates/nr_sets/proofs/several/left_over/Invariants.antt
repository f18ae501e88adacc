use Rattle.std.proofs.Common.{◌≡◌, ◌++◌, map, not}
use Rattle.std.specs.Prelude.{filter, Bool}
use Rattle.nr_model.specs.Bytes.{Bytes}
use Rattle.std.specs.List.{list_any}
use Rattle.std.specs.FinSet as set
use Rattle.std.specs.Map.Iter.{deref}
use Rattle.nr_model.specs.Sets.{listed}
use Rattle.nr_sets.specs.Lent.{lent}
use Rattle.nr_sets.proofs.several.left_over.Given as goal

-- what is taken and what is taken of the rest is all
abbrev pub invariant-loop-member : goal.invariant-loop-member
invariant-loop-member l =
    let wanted : Bytes → Bool = λ m. not (list_any (λ s. set.contains (lent s) m) l.fn.others) in
    map deref l.members.items ++ filter wanted l.member-iterator ≡ filter wanted (listed l.fn.walked)
