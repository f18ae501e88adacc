-- The items of a list, and those that a walk has left, in whichever form they are held.
use Rattle.std.specs.Prelude.{List, Bool, true, false}
use Rattle.nr_model.specs.Bytes.{Bytes}
use Rattle.nr_lists.specs.declared.form.Form.{Form}
use Rattle.nr_lists.specs.declared.form.Form.TheVariants as form

abbrev pub items_of : Form → List Bytes
items_of (form.Small items) = items
items_of (form.Large items) = items.value

-- whether they are in one block
abbrev pub is_one_block : Form → Bool
is_one_block (form.Small items) = true
is_one_block (form.Large items) = false
