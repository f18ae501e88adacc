-- A table of packed blocks: a pair stands in the block that the hash of its field says.
use Rattle.std.specs.Prelude.{◌≡◌, ◌≢◌, ◌≤◌, ◌<◌, ◌-◌, ◌*◌, ◌%◌, ◌^◌, ◌⊎◌, ℕ, Bool, Option, None, List, [], ◌∷◌, ◌++◌, length, cond, ltb, eqb, slice_index_or}
use Rattle.std.specs.Map.{lookup}
use Rattle.std.specs.BTreeMap.{is_at}
use Rattle.std.specs.FinMap as map
use Rattle.std.specs.Hash.DefaultHasher.{write, finish}
use Rattle.std.specs.RandomState.{initial_hasher}
use Rattle.std.specs.declared.random_state.RandomState.{RandomState}
use Rattle.nr_model.specs.Bytes.{Bytes}
use Rattle.nr_model.specs.Keyspace.{byte_cmp}
use Rattle.nr_model.specs.Hashes.{Hash}
use Rattle.nr_packs.specs.Packed.{Entries}
use Rattle.nr_packs.specs.Orders.{AreInOrder}

-- the value at a field
abbrev pub held : Bytes → Entries → Option Bytes
held field es = lookup (is_at (byte_cmp field)) es

-- the hash of a field: SipHash-1-3 of its bytes, with the keys of a table
unfoldable pub hash : RandomState → Bytes → ℕ
hash keys field = finish (write (initial_hasher keys) field)

-- The block of a hash among so many, level ≤ count ≤ 2 * level: what is left of the hash by 2 * level where there is such a block, and else that by
-- level, which is less by one level.
abbrev pub slot : ℕ → ℕ → ℕ → ℕ
slot level count hash = cond (ltb (hash % (2 * level)) count) (hash % (2 * level)) (hash % (2 * level) - level)

-- the block of a number, or an empty one
abbrev pub pack_at : List Entries → ℕ → Entries
pack_at packs place = slice_index_or packs place []

-- the pairs of all blocks
abbrev pub pairs_of : List Entries → Entries
pairs_of [] = []
pairs_of (es ∷ packs) = es ++ pairs_of packs

-- the pairs whose fields pass a test
abbrev pub chosen : (Bytes → Bool) → Entries → Entries
chosen test [] = []
chosen test (e ∷ es) = cond (test e.0) (e ∷ chosen test es) (chosen test es)

-- whether a field belongs to a block
abbrev pub belongs : RandomState → ℕ → ℕ → ℕ → Bytes → Bool
belongs keys level count place field = eqb (slot level count (hash keys field)) place

-- what the pairs of blocks, and those beside them, are as a finite map
abbrev pub seen : List Entries → Entries → Hash
seen packs long = map.from_entries (pairs_of packs ++ long)

-- each field stands in its block, and nowhere else; each block is in byte order
pub record IsSpread (keys : RandomState) (level : ℕ) (packs : List Entries) : Type 0 where
  pub some : 0 < level
  pub least : level ≤ length packs
  pub most : length packs ≤ 2 * level
  pub ordered : (place : ℕ) → AreInOrder (pack_at packs place)
  pub placed : (place : ℕ) (field : Bytes) → slot level (length packs) (hash keys field) ≢ place → held field (pack_at packs place) ≡ None

-- a field stands in its block or beside the blocks, and not in both
pub record IsStored (keys : RandomState) (level : ℕ) (packs : List Entries) (long : Entries) : Type 0 where
  pub spread : IsSpread keys level packs
  pub ordered : AreInOrder long
  pub apart : (field : Bytes) → (held field (pairs_of packs) ≡ None) ⊎ (held field long ≡ None)

-- such pairs, of which there are so many
pub record IsTable (keys : RandomState) (level : ℕ) (packs : List Entries) (long : Entries) (count : ℕ) : Type 0 where
  pub stored : IsStored keys level packs long
  pub counted : count ≡ map.len (seen packs long)
  pub few : count < 2 ^ 63
