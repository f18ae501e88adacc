-- Where a field stands, or would stand, among pairs in order.
use Rattle.std.specs.Prelude.{[], ◌∷◌, cond, Option, Some, None}
use Rattle.std.specs.Ordering.{is_gt}
use Rattle.std.specs.BTreeMap.{is_at}
use Rattle.nr_model.specs.Bytes.{Bytes}
use Rattle.nr_model.specs.Keyspace.{byte_cmp}
use Rattle.nr_packs.specs.Packed.{Entries}

-- the pairs in front of a field
abbrev pub below : Bytes → Entries → Entries
below field [] = []
below field (e ∷ es) = cond (is_gt (byte_cmp field e.0)) (e ∷ below field es) []

-- the others
abbrev pub from : Bytes → Entries → Entries
from field [] = []
from field (e ∷ es) = cond (is_gt (byte_cmp field e.0)) (from field es) (e ∷ es)

-- pairs without the first, where that has the field
abbrev pub past : Bytes → Entries → Entries
past field [] = []
past field (e ∷ es) = cond (is_at (byte_cmp field) e.0) es (e ∷ es)

-- the value of the first pair, where that has the field
abbrev pub value_first : Bytes → Entries → Option Bytes
value_first field [] = None
value_first field (e ∷ es) = cond (is_at (byte_cmp field) e.0) (Some e.1) None
