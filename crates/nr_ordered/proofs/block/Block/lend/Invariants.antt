use Rattle.std.proofs.Common.{◌≡◌, ◌<◌, ◌+◌, ◌++◌, length, map}
use Rattle.std.specs.Prelude.{vec_len, vec_capacity}
use Rattle.nr_model.specs.SortedSets.{told_in}
use Rattle.nr_ordered.specs.Lists.{part, shown}
use Rattle.nr_ordered.proofs.block.Block.lend.Given as goal

-- what was lent, of which there is room for all
abbrev pub invariant-loop-place : goal.invariant-loop-place
invariant-loop-place l =
    record {
      items : map shown l.lent.items ≡ map shown l.initial.lent.items ++ part l.from l.place (told_in l.direction l.self);
      len : vec_len l.lent ≡ vec_len l.initial.lent + length (part l.from l.place (told_in l.direction l.self));
      none : l.place-end < l.from → l.place ≡ l.from;
      capacity : vec_capacity l.lent ≡ vec_capacity l.initial.lent;
    }
