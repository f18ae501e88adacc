-- The value of one key edited in place.
use Rattle.std.specs.Prelude.{◌≡◌, ℕ, Bool, List, [], Option, Some, None, Result, Ok, Err, ℤ}
use Rattle.std.specs.Result.{result_ok}
use Rattle.std.specs.declared.cmp.Ordering.{Ordering}
use Rattle.std.specs.FinMap as map
use Rattle.std.specs.FinSet as set
use Rattle.nr_model.specs.Keyspace as model
use Rattle.nr_model.specs.Bytes.{Bytes}
use Rattle.nr_model.specs.Hashes.{Hash}
use Rattle.nr_model.specs.Sets as sets
use Rattle.nr_model.specs.SortedSets as sorted_sets
use Rattle.nr_model.specs.Commands.Held.{items_of, fields_of, members_of, scores_of, is_emptied, kept}
use Rattle.nr_model.specs.Commands.Reading.{Read}
use Rattle.nr_model.specs.Commands.Shape.{refusal}
use Rattle.nr_model.specs.Commands.Strings.{text_of, or_empty}
use Rattle.nr_model.specs.Keyspace.{Stored}
use Rattle.nr_model.specs.declared.refused.Refused.{Refused}
use Rattle.nr_blob.specs.declared.memory.Memory.{Memory}

-- another value that an edit of the one that is stored allows, under the same deadline
pub record IsEdit {K Given : Type 0} {R : K → K → Ordering} (edits : model.Value → model.Value → Given → Type 0) (old new : map.FinMap R Stored) (key : K)
    (stored : Stored) (given : Given) : Type 0 where
  pub value : model.Value
  pub allowed : edits stored.value value given
  pub written : new ≡ map.insert old key (record { value = value; deadline = stored.deadline })

-- what is stored at a key is edited; where nothing is, nothing changes
abbrev pub IsEdited : {K Given : Type 0} {R : K → K → Ordering} → (model.Value → model.Value → Given → Type 0) → map.FinMap R Stored → map.FinMap R Stored
    → K → Option Stored → Option Given → Type 0
IsEdited edits old new key None None = new ≡ old
IsEdited edits old new key None (Some given) = ⊥
IsEdited edits old new key (Some stored) None = ⊥
IsEdited edits old new key (Some stored) (Some given) = IsEdit edits old new key stored given

-- the text of a value that is a string, and no bytes of another
abbrev pub text_in : model.Value → Bytes
text_in value = or_empty (result_ok (text_of value))

-- an edit of this text is refused so, or there is no text
abbrev pub RefusesText : {Given : Type 0} → (Bytes → Bytes → Result Given Refused → Type 0) → Read Bytes → Refused → Type 0
RefusesText edits (Ok text) why = edits text text (Err why)
RefusesText edits (Err error) why = error ≡ refusal why

-- a string becomes another that the edit allows; where the edit refuses it, or the value is of another kind, the value stays
abbrev pub EditsText : {Given : Type 0} → (Bytes → Bytes → Result Given Refused → Type 0) → model.Value → model.Value → Result Given Refused → Type 0
EditsText edits old new (Ok given) = (text_of old ≡ Ok (text_in old)) × (new ≡ model.Text (text_in new)) × edits (text_in old) (text_in new) (Ok given)
EditsText edits old new (Err why) = (new ≡ old) × RefusesText edits (text_of old) why

-- what was read, or this where it couldn't be
abbrev pub read_or : {A : Type 0} → A → Read A → A
read_or nothing (Ok a) = a
read_or nothing (Err error) = nothing

-- the items of a value that is a list, its fields, its members, its scores; and nothing of another
abbrev pub items_in : model.Value → List Bytes
items_in value = read_or [] (items_of value)

abbrev pub fields_in : model.Value → Hash
fields_in value = read_or map.empty (fields_of value)

abbrev pub members_in : model.Value → sets.Members
members_in value = read_or set.empty (members_of value)

abbrev pub scores_in : model.Value → sorted_sets.Scores
scores_in value = read_or map.empty (scores_of value)

-- a collection, read so, becomes another that the edit allows; where the edit refuses it, or the value is of another kind, the value stays;
-- where memory ran out within it, nothing is said of it
abbrev pub Refuses : {A Given : Type 0} → (A → A → Result Given Refused → Type 0) → Read A → Refused → Type 0
Refuses edits (Ok a) why = edits a a (Err why)
Refuses edits (Err error) why = error ≡ refusal why

abbrev pub EditsRead : {A Given : Type 0} → (model.Value → Read A) → (model.Value → A) → (A → model.Value) → (A → A → Result Given Refused → Type 0)
    → model.Value → model.Value → Result (Result Given Refused) Memory → Type 0
EditsRead read within made edits old new (Ok (Ok given)) = (read old ≡ Ok (within old)) × (new ≡ made (within new)) × edits (within old) (within new) (Ok given)
EditsRead read within made edits old new (Ok (Err why)) = (new ≡ old) × Refuses edits (read old) why
EditsRead read within made edits old new (Err memory) = Unit {0}

abbrev pub EditsItems : {Given : Type 0} → (List Bytes → List Bytes → Result Given Refused → Type 0) → model.Value → model.Value → Result (Result Given Refused) Memory → Type 0
EditsItems edits = EditsRead items_of items_in model.Items edits

abbrev pub EditsFields : {Given : Type 0} → (Hash → Hash → Result Given Refused → Type 0) → model.Value → model.Value → Result (Result Given Refused) Memory → Type 0
EditsFields edits = EditsRead fields_of fields_in model.Fields edits

abbrev pub EditsMembers : {Given : Type 0} → (sets.Members → sets.Members → Result Given Refused → Type 0) → model.Value → model.Value → Result (Result Given Refused) Memory → Type 0
EditsMembers edits = EditsRead members_of members_in model.Members edits

abbrev pub EditsScores : {Given : Type 0} → (sorted_sets.Scores → sorted_sets.Scores → Result Given Refused → Type 0) → model.Value → model.Value → Result (Result Given Refused) Memory → Type 0
EditsScores edits = EditsRead scores_of scores_in model.Scores edits

-- an edit that tells too whether nothing is left
abbrev pub EditsTelling : {A Given : Type 0} → (A → model.Value) → (A → A → Result Given Refused → Type 0) → A → A → Result (Given × Bool) Refused → Type 0
EditsTelling made edits old new (Ok given) = edits old new (Ok given.0) × (given.1 ≡ is_emptied (made new))
EditsTelling made edits old new (Err why) = edits old new (Err why)

-- without a key that is live
abbrev pub without_found : Option Stored → model.Keyspace → model.Key → model.Keyspace
without_found None keyspace key = keyspace
without_found (Some stored) keyspace key = map.remove keyspace key

abbrev pub without : model.Keyspace → ℕ → model.Key → model.Keyspace
without keyspace now key = without_found (map.get (model.live keyspace now) key) keyspace key

-- what an edit leaves of a collection is stored under the same deadline; with nothing left in it there is no key any more
pub record IsKeptEdit {A Given : Type 0} (made : A → model.Value) (edits : A → A → Result Given Refused → Type 0) (old new : model.Keyspace) (key : model.Key)
    (deadline : Option ℤ) (a : A) (given : Given) : Type 0 where
  pub left : A
  pub allowed : edits a left (Ok given)
  pub written : new ≡ kept old key (record { value = made left; deadline = deadline })

-- a collection is edited so; where it is refused, or the value is of another kind, nothing changes
abbrev pub IsEditOf : {A Given : Type 0} → (A → model.Value) → (A → A → Result Given Refused → Type 0) → model.Keyspace → model.Keyspace → model.Key → Option ℤ
    → Read A → Result Given Refused → Type 0
IsEditOf made edits old new key deadline (Ok a) (Ok given) = IsKeptEdit made edits old new key deadline a given
IsEditOf made edits old new key deadline (Ok a) (Err why) = (new ≡ old) × edits a a (Err why)
IsEditOf made edits old new key deadline (Err error) (Ok given) = ⊥
IsEditOf made edits old new key deadline (Err error) (Err why) = (new ≡ old) × (error ≡ refusal why)

-- what is stored at a key is edited so; where nothing is, nothing changes
abbrev pub IsEditedRead : {A Given : Type 0} → (model.Value → Read A) → (A → model.Value) → (A → A → Result Given Refused → Type 0) → model.Keyspace → model.Keyspace → model.Key
    → Option Stored → Option (Result Given Refused) → Type 0
IsEditedRead read made edits old new key None None = new ≡ old
IsEditedRead read made edits old new key None (Some given) = ⊥
IsEditedRead read made edits old new key (Some stored) None = ⊥
IsEditedRead read made edits old new key (Some stored) (Some given) = IsEditOf made edits old new key stored.deadline (read stored.value) given
