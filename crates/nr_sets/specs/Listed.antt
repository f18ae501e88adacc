-- What an iterator over members has left.
use Rattle.nr_packs.specs.Packed.{Entries, entries_in}
use Rattle.nr_sets.specs.declared.members.Rest.{Rest}
use Rattle.nr_sets.specs.declared.members.Rest.TheVariants as rest

-- the members that are left
abbrev pub left : Rest → Entries
left (rest.Packed bytes) = entries_in bytes.now
left (rest.Listed members) = members
