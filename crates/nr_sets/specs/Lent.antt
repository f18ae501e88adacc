-- Sets that are lent, and may be missing.
use Rattle.std.specs.Prelude.{Option}
use Rattle.std.specs.Option.{option_map}
use Rattle.std.specs.Map.Iter.{deref}
use Rattle.nr_model.specs.Sets.{Members}
use Rattle.nr_model.specs.Commands.Sets.{or_none}
use denote.Ref.{Bor}

-- a set that is missing is the empty one
abbrev pub lent : Option (Bor Members) → Members
lent set = or_none (option_map deref set)
