-- The bytes of a blob, wherever they are.
use Rattle.std.specs.Prelude.{ℕ, List}
use Rattle.nr_blob.specs.declared.blob.Store.{Store}
use Rattle.nr_blob.specs.declared.blob.Store.TheVariants as store

abbrev pub stored : Store → List ℕ
stored (store.Here bytes) = bytes
stored (store.Block block) = block.items
