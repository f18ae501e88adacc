use Rattle.std.proofs.Common.{◌≡◌, ◌+◌, ◌-◌, ◌<◌, ◌++◌, map, replicate, Some, vec_len}
use Rattle.std.specs.Prelude.{option_map}
use Rattle.std.specs.Arc.{arc_value}
use Rattle.std.specs.Vec.{vec_capacity}
use Rattle.nr_entry.proofs.shares.add_clones.Given as goal

abbrev pub invariant-loop : goal.invariant-loop
invariant-loop l =
    (map (option_map arc_value) l.shares.items ≡ map (option_map arc_value) l.initial.shares.items ++ replicate l.counter (Some (arc_value l.one)))
    × (vec_len l.shares + (l.count - l.counter) < vec_capacity l.shares)
