-- The keys of one database as a finite map.
use Rattle.std.specs.Prelude.{◌≡◌, ℕ, ℤ, Bool, true, false, not, Option, Some, None, is_some, List}
use Rattle.std.specs.Prelude as prelude
use Rattle.std.specs.declared.cmp.Ordering.{Ordering}
use Rattle.std.specs.FinMap as map
use Rattle.std.specs.FinSet as set
use Rattle.std.specs.Coded.{Coded}
use Rattle.nr_model.specs.Bytes.{Bytes}
use Rattle.nr_model.specs.Keyspace.{byte_cmp, Stored, Text, coded_bytes, coded_stored}
use Rattle.nr_keyspace.specs.Values.{value_of}
use Rattle.nr_keyspace.specs.Deadlines.{due_cmp, has_deadline}
use Rattle.nr_keyspace.specs.declared.database.KeyEntry.{KeyEntry}

-- what the definitions store at a name
abbrev pub stored_of : KeyEntry → Stored
stored_of entry = record { value = value_of entry.value; deadline = entry.deadline }

abbrev pub Store : Type 0
Store = map.FinMap byte_cmp Stored

abbrev pub coded_store : Coded Store
coded_store = map.code coded_bytes coded_stored

-- a name is seen as its bytes
abbrev pub bytes_of : Bytes → Bytes
bytes_of name = name

-- each as the bytes of a name and what is stored there
abbrev pub stored_entries : {Name : Type 0} → (Name → Bytes) → List (Name × KeyEntry) → List (Bytes × Stored)
stored_entries bytes entries = prelude.map (λ e. (bytes e.0, stored_of e.1)) entries

abbrev pub store_of : {Name : Type 0} → (Name → Bytes) → List (Name × KeyEntry) → Store
store_of bytes entries = map.from_entries (stored_entries bytes entries)

-- the deadline at a name, if there is one
abbrev pub deadline_of : Option Stored → Option ℤ
deadline_of None = None
deadline_of (Some stored) = stored.deadline

-- whether something is stored, with no deadline
abbrev pub is_undated : Option Stored → Bool
is_undated None = false
is_undated (Some stored) = not (is_some stored.deadline)

-- with a text that has no deadline, where it was written
abbrev pub written_if : {K : Type 0} {R : K → K → Ordering} → Bool → map.FinMap R Stored → K → Bytes → map.FinMap R Stored
written_if false kept at text = kept
written_if true kept at text = map.insert kept at (record { value = Text text; deadline = None })

-- with another deadline where something was stored
abbrev pub redated : {K : Type 0} {R : K → K → Ordering} → map.FinMap R Stored → K → Option Stored → Option ℤ → map.FinMap R Stored
redated kept at None deadline = kept
redated kept at (Some stored) deadline = map.insert kept at (record { value = stored.value; deadline = deadline })

-- the deadlines are those of the names
pub record IsIndexed (store : Store) (dues : set.FinSet due_cmp) : Type 0 where
  pub exact : (deadline : ℤ) (name : Bytes) → set.contains dues (deadline, name) ≡ has_deadline deadline (deadline_of (map.get store name))
