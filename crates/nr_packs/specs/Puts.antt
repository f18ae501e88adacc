-- A value put at a field of a block, or beside it.
use Rattle.std.specs.Prelude.{◌≡◌, ◌⊎◌}
use Rattle.std.specs.Map.{remove_entry}
use Rattle.std.specs.BTreeMap.{insert_entry, is_at}
use Rattle.nr_model.specs.Bytes.{Bytes}
use Rattle.nr_model.specs.Keyspace.{byte_cmp}
use Rattle.nr_packs.specs.Packed.{Entries}

-- in one of the two, and then no longer in the other
abbrev pub IsPut : Bytes → Bytes → Entries → Entries → Entries → Entries → Type 0
IsPut field value pack long new_pack new_long =
    ((new_pack ≡ insert_entry byte_cmp pack field value) × (new_long ≡ remove_entry (is_at (byte_cmp field)) long))
    ⊎ ((new_pack ≡ remove_entry (is_at (byte_cmp field)) pack) × (new_long ≡ insert_entry byte_cmp long field value))
