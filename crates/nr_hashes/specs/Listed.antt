-- What an iterator over pairs has left.
use Rattle.nr_packs.specs.Packed.{Entries, entries_in}
use Rattle.nr_hashes.specs.declared.pairs.Rest.{Rest}
use Rattle.nr_hashes.specs.declared.pairs.Rest.TheVariants as rest

-- the pairs that are left
abbrev pub left : Rest → Entries
left (rest.Packed bytes) = entries_in bytes.now
left (rest.Listed pairs) = pairs
