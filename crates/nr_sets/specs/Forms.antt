-- The members of a set, in whichever form they are held.
use Rattle.std.specs.Prelude.{◌≡◌, ◌&&◌, ℕ, nat_le, Bool, true, false, [], ◌∷◌, length}
use Rattle.std.specs.FinMap as map
use Rattle.nr_model.specs.Bytes.{Bytes}
use Rattle.nr_packs.specs.Packed.{Entries}
use Rattle.nr_packs.specs.Orders.{AreInOrder}
use Rattle.nr_sets.specs.declared.form.Form.{Form}
use Rattle.nr_sets.specs.declared.form.Form.TheVariants as form

-- in byte order
abbrev pub entries_of : Form → Entries
entries_of (form.Packed members) = members
entries_of (form.Large members) = map.entries members.value

-- whether they are in one block
abbrev pub is_packed : Form → Bool
is_packed (form.Packed members) = true
is_packed (form.Large members) = false

-- nothing stands at any of them
abbrev pub AreBare : Entries → Type 0
AreBare [] = Unit {0}
AreBare (e ∷ es) = (e.1 ≡ []) × AreBare es

-- members in byte order, each once, and nothing at them
pub record AreMembers (es : Entries) : Type 0 where
  pub ordered : AreInOrder es
  pub bare : AreBare es

-- whether so many members are few, and a member is short
abbrev pub fits : ℕ → Bytes → Bool
fits members member = nat_le (length member) 64 && nat_le members 32
