-- What the commands on sets read and write: members in byte order, and several sets as one (Redis command reference, set; order own).
use Rattle.std.specs.Prelude.{List, [], ◌∷◌, fold}
use Rattle.std.specs.FinSet as set
use Rattle.std.specs.Coded.{Coded}
use Rattle.nr_model.specs.Bytes.{Bytes}
use Rattle.nr_model.specs.Keyspace.{byte_cmp, coded_bytes}
use Rattle.nr_model.specs.Names.{in_order}

abbrev pub Members : Type 0
Members = set.FinSet byte_cmp

abbrev pub coded_members : Coded Members
coded_members = set.code coded_bytes

-- the members in byte order
abbrev pub listed : Members → List Bytes
listed members = in_order byte_cmp (set.items members)

-- what all of them have; of none, nothing
abbrev pub intersection_of : List Members → Members
intersection_of [] = set.empty
intersection_of (members ∷ others) = fold set.intersection members others

-- what one of them has
abbrev pub union_of : List Members → Members
union_of sets = fold set.union set.empty sets

-- what the first has and none of the others; of none, nothing
abbrev pub difference_of : List Members → Members
difference_of [] = set.empty
difference_of (members ∷ others) = fold set.difference members others
