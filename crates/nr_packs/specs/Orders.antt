-- Pairs in order.
use Rattle.std.specs.List.Sorted.{IsStrictlySortedBy}
use Rattle.std.specs.Map.{keys_of}
use Rattle.nr_model.specs.Keyspace.{byte_cmp}
use Rattle.nr_packs.specs.Packed.{Entries}

-- each field once, in byte order
abbrev pub AreInOrder : Entries → Type 0
AreInOrder es = IsStrictlySortedBy byte_cmp (keys_of es)
