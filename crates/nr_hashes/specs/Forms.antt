-- The pairs of a hash, in whichever form they are held.
use Rattle.std.specs.Prelude.{Bool, true, false}
use Rattle.std.specs.FinMap as map
use Rattle.nr_packs.specs.Packed.{Entries}
use Rattle.nr_hashes.specs.declared.form.Form.{Form}
use Rattle.nr_hashes.specs.declared.form.Form.TheVariants as form

-- in the fields' byte order
abbrev pub entries_of : Form → Entries
entries_of (form.Packed pairs) = pairs
entries_of (form.Large pairs) = map.entries pairs.value

-- whether they are in one block
abbrev pub is_packed : Form → Bool
is_packed (form.Packed pairs) = true
is_packed (form.Large pairs) = false
