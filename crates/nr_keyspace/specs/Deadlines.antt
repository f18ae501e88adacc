-- Deadlines with the names of their keys, the earliest first.
use Rattle.std.specs.Prelude.{◌≡◌, ℤ, negsuc, ◌-◌, ◌^◌, Bool, true, false, cond, Option, Some, None, List, map}
use Rattle.std.specs.declared.cmp.Ordering.{Ordering}
use Rattle.std.specs.Ordering.{int_cmp, is_eq, is_gt, is_lt, eq_by_cmp, ordering_then}
use Rattle.std.specs.FinSet as set
use Rattle.std.specs.Coded.{Coded, coded×, coded_ℤ}
use Rattle.nr_model.specs.Bytes.{Bytes}
use Rattle.nr_model.specs.Keyspace.{byte_cmp, coded_bytes}
use Rattle.nr_model.specs.Names.{in_order}
use Rattle.nr_ordered.specs.Lists.{Item}

-- the least number of milliseconds that a deadline may be
abbrev pub least_moment : ℤ
least_moment = negsuc (2 ^ 63 - 1)

-- the deadline for which a number stands, if it does
abbrev pub deadline_kept : ℤ → Option ℤ
deadline_kept moment = cond (is_eq (int_cmp moment least_moment)) None (Some moment)

-- a deadline, and the name of a key that has it
abbrev pub Due : Type 0
Due = ℤ × Bytes

-- by deadline, and then by name
abbrev pub due_cmp : Due → Due → Ordering
due_cmp a b = ordering_then (int_cmp a.0 b.0) (byte_cmp a.1 b.1)

-- a name with its deadline, as the tree holds it
abbrev pub due_of : Item → Due
due_of item = (item.1, item.0)

-- by deadline, and then by name
abbrev pub item_cmp : Item → Item → Ordering
item_cmp a b = due_cmp (due_of a) (due_of b)

-- whether one stands before another
abbrev pub is_before : Item → Item → Bool
is_before at item = is_lt (item_cmp item at)

-- the deadlines that a tree holds
abbrev pub dues_of : List Item → set.FinSet due_cmp
dues_of items = set.from_list (map due_of items)

-- in order, each once
abbrev pub AreInOrder : List Item → Type 0
AreInOrder items = items ≡ in_order item_cmp items

abbrev pub coded_dues : Coded (set.FinSet due_cmp)
coded_dues = set.code (coded× coded_ℤ coded_bytes)

-- whether there is a deadline, and it is this
abbrev pub has_deadline : ℤ → Option ℤ → Bool
has_deadline deadline None = false
has_deadline deadline (Some other) = is_eq (int_cmp deadline other)

-- with a name at its deadline, if it has one
abbrev pub with_deadline : set.FinSet due_cmp → Option ℤ → Bytes → set.FinSet due_cmp
with_deadline dues None name = dues
with_deadline dues (Some deadline) name = set.insert dues (deadline, name)

-- without a name at its deadline, if it has one
abbrev pub without_deadline : set.FinSet due_cmp → Option ℤ → Bytes → set.FinSet due_cmp
without_deadline dues None name = dues
without_deadline dues (Some deadline) name = set.remove dues (deadline, name)

-- the name has this deadline alone, or none, and the others have what they had
pub record IsReplaced (old new : set.FinSet due_cmp) (after : Option ℤ) (name : Bytes) : Type 0 where
  pub found : (deadline : ℤ) (other : Bytes)
      → set.contains new (deadline, other) ≡ cond (eq_by_cmp byte_cmp other name) (has_deadline deadline after) (set.contains old (deadline, other))

-- it is there, and none that is there stands before it
pub record IsFirst (dues : set.FinSet due_cmp) (due : Due) : Type 0 where
  pub there : set.contains dues due ≡ true
  pub earliest : (other : Due) → set.contains dues other ≡ true → is_gt (due_cmp due other) ≡ false
