-- A pop of no items.
use Rattle.std.specs.Prelude.{List, [], Option, Some, None}
use Rattle.nr_model.specs.Bytes.{Bytes}
use Rattle.nr_model.specs.Replies.{Reply, NullArray}
use Rattle.nr_model.specs.Commands.Lists.{bulks}

-- no items of a list, and the null array of no list
abbrev pub none_popped : Option (List Bytes) → Reply
none_popped None = NullArray
none_popped (Some items) = bulks []
