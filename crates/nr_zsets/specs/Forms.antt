-- The items of a sorted set, in whichever form they are held.
use Rattle.std.specs.Prelude.{◌+◌, ◌*◌, ◌^◌, ◌&&◌, ℕ, ℤ, Bool, true, false, nat_lt, nat_le, if◌then◌else◌, List, map, fold, length}
use Rattle.std.specs.Int.{w64, cast_signed}
use Rattle.nr_model.specs.Bytes.{Bytes}
use Rattle.nr_packs.specs.Packed.{Entries}
use Rattle.nr_ordered.specs.Lists.{Item}
use Rattle.nr_zsets.specs.declared.form.Form.{Form}
use Rattle.nr_zsets.specs.declared.form.Form.TheVariants as form

-- a number with one byte more behind it, where it has room in 64 bits
abbrev pub next_number : ℕ → ℕ → ℕ
next_number number byte = if nat_lt number (2 ^ 56) then number * 256 + byte else 0

-- the number that bytes spell, the highest first
unfoldable pub number_in : Bytes → ℕ
number_in bytes = fold next_number 0 bytes

-- the score that bytes spell: the lower ones of its 64 bits, where those above are 0
unfoldable pub score_in : Bytes → ℤ
score_in bytes = cast_signed w64 (number_in bytes)

-- a pair of a block as an item
abbrev pub item_of : Bytes × Bytes → Item
item_of e = (e.0, score_in e.1)

abbrev pub items_in : Entries → List Item
items_in es = map item_of es

abbrev pub items_of : Form → List Item
items_of (form.Packed pairs) = items_in pairs
items_of (form.Large tree) = tree.0

-- whether they are in one block
abbrev pub is_packed : Form → Bool
is_packed (form.Packed pairs) = true
is_packed (form.Large tree) = false

-- whether a block of so many members takes one more, where it may have at most so many
abbrev pub takes : ℕ → ℕ → Bytes → Bool
takes most count member = nat_lt count most && nat_le (length member) 64
