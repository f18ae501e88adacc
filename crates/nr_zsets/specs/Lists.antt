-- Lists that are cut, and what is lent of them.
use Rattle.std.specs.Prelude.{ℕ, ◌-◌, min, nat_lt, if◌then◌else◌, Option, None, Some, List, take}
use Rattle.std.specs.List.{insert, remove}
use Rattle.nr_model.specs.declared.command.Direction.{Direction}
use Rattle.nr_model.specs.declared.command.Direction.TheVariants.{Ascending, Descending}
pub use Rattle.nr_ordered.specs.Lists.{part, shown}

-- where it is told what stands from one place to another, among so many
abbrev pub told_ends : Direction → ℕ → ℕ → ℕ → ℕ × ℕ
told_ends Ascending low high len = (low, high)
told_ends Descending low high len = (len - high, len - low)

-- at most so many of a list, or all
abbrev pub at_most : {A : Type 0} → Option ℕ → List A → List A
at_most None xs = xs
at_most (Some n) xs = take n xs

-- at most so many of this many
abbrev pub fewest : Option ℕ → ℕ → ℕ
fewest None most = most
fewest (Some n) most = min n most

-- the item at one place taken out, and this one put in at another, which is counted as the first one stood still
abbrev pub moved : {A : Type 0} → List A → ℕ → ℕ → A → List A
moved xs from to x = insert (remove xs from) (if nat_lt from to then to - 1 else to) x
