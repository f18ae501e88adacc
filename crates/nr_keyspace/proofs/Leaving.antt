-- An edit of a collection, from the value to the keyspace: what is left of it is stored, and with nothing left the key goes.
use Rattle.std.proofs.Common.{◌≡◌, ℕ, Bool, true, false, cond, Option, Some, None, Result, Ok, Err, IfNone, OnSome, refl, ap, sym, ◌∙◌, subst}
use Rattle.std.specs.Option.{option_map}
use Rattle.std.specs.FinMap as map
use Rattle.std.specs.Ordering.{eq_by_cmp}
use Rattle.nr_model.specs.Keyspace.{Key, key_cmp, Keyspace, Stored, Value, is_live_at, live}
use Rattle.nr_model.specs.Commands.Held.{is_emptied}
use Rattle.nr_model.specs.Commands.Reading.{Read}
use Rattle.nr_model.specs.declared.refused.Refused.{Refused}
use Rattle.nr_model.proofs.Live.{get-live, get-live-insert, key_total}
use Rattle.nr_keyspace.specs.Edited.{IsEdited, Refuses, EditsRead, EditsTelling, IsEditOf, IsEditedRead, without, without_found}
use Rattle.nr_blob.specs.declared.memory.Memory.{Memory}
use Rattle.nr_keyspace.specs.Values.{value_of}
use Rattle.nr_keyspace.specs.declared.value.Value as code
use Rattle.nr_keyspace.proofs.Edited.{shown_live}
use Rattle.nr_keyspace.proofs.Kept.{kept}
use Rattle.nr_keyspace.proofs.Orders.{key_exact}

-- a removal took the key out, where it was live
pub taken : (result : Option code.Value) (found : Option Stored) (old new : Keyspace) (key : Key) → option_map value_of result ≡ option_map (λ stored. stored.value) found
    → OnSome result (new ≡ map.remove old key) → IfNone result (new ≡ old) → new ≡ without_found found old key
taken None None old new key is removed unchanged = unchanged
taken None (Some stored) old new key is removed unchanged = absurd (cc is)
taken (Some value) None old new key is removed unchanged = absurd (cc is)
taken (Some value) (Some stored) old new key is removed unchanged = removed

-- a key that was just stored is found
found_stored : (m : Keyspace) (now : ℕ) (key : Key) (stored : Stored) → is_live_at now stored.deadline ≡ true → map.get (live (map.insert m key stored) now) key ≡ Some stored
found_stored m now key stored is_live =
    get-live-insert m key stored now ∙ ap (λ b. cond b (Some stored) None) is_live

twice_gone : (b : Bool) (x y : Option Stored) → cond b None (cond b x y) ≡ cond b None y
twice_gone true x y = refl
twice_gone false x y = refl

-- a key that was just stored leaves nothing
stored_gone : (m : Keyspace) (key : Key) (stored : Stored) → map.remove (map.insert m key stored) key ≡ map.remove m key
stored_gone m key stored = map.same_map key_total key_exact _ _ (λ q.
    map.get-remove key_total (map.insert m key stored) key q
    ∙ ap (cond (eq_by_cmp key_cmp q key) None) (map.get-insert key_total m key stored q)
    ∙ twice_gone (eq_by_cmp key_cmp q key) (Some stored) (map.get m q)
    ∙ sym (map.get-remove key_total m key q))

either : {X : Type 0} (told emptied : Bool) (new x y x' y' : X) → told ≡ emptied → new ≡ cond told x y → x ≡ x' → y ≡ y' → new ≡ cond emptied x' y'
either true true new x y x' y' same is gone stays = is ∙ gone
either false false new x y x' y' same is gone stays = is ∙ stays
either true false new x y x' y' same is gone stays = absurd (cc same)
either false true new x y x' y' same is gone stays = absurd (cc same)

module _ {A Given : Type 0} (read : Value → Read A) (within : Value → A) (made : A → Value) (edits : A → A → Result Given Refused → Type 0) where
  of_refused : (old new : Keyspace) (key : Key) (stored : Stored) (r : Read A) (why : Refused) → new ≡ old → Refuses (EditsTelling made edits) r why
      → IsEditOf made edits old new key stored.deadline r (Err why)
  of_refused old new key stored (Ok a) why same refuses = (same, refuses)
  of_refused old new key stored (Err error) why same refuses = (same, refuses)

  at_refused : (old new : Keyspace) (key : Key) (now : ℕ) (found : Option Stored) (why : Refused) → map.get (live old now) key ≡ found
      → IsEdited (EditsRead read within made (EditsTelling made edits)) old new key found (Some (Ok (Err why)))
      → IsEditedRead read made edits old new key found (Some (Err why))
  at_refused old new key now None why at edit = absurd edit
  at_refused old new key now (Some stored) why at edit =
      of_refused old new key stored (read stored.value) why
      (edit.written
      ∙ ap (λ value. let s : Stored = record { value = value; deadline = stored.deadline } in map.insert old key s) edit.allowed.0
      ∙ kept old key stored (shown_live now (map.get old key) stored (sym (get-live old now key) ∙ at)).is)
      edit.allowed.1

  -- a refused edit changes nothing
  pub refused_edit : (old new : Keyspace) (key : Key) (now : ℕ) (found : Option (Result (Result (Given × Bool) Refused) Memory)) (why : Refused) → found ≡ Some (Ok (Err why))
      → IsEdited (EditsRead read within made (EditsTelling made edits)) old new key (map.get (live old now) key) found
      → IsEditedRead read made edits old new key (map.get (live old now) key) (Some (Err why))
  refused_edit old new key now found why is edit =
      at_refused old new key now (map.get (live old now) key) why refl
      (subst (λ f. IsEdited (EditsRead read within made (EditsTelling made edits)) old new key (map.get (live old now) key) f) is edit)

  at_left : (old mid new : Keyspace) (key : Key) (now : ℕ) (found : Option Stored) (given : Given) (told : Bool) → map.get (live old now) key ≡ found
      → IsEdited (EditsRead read within made (EditsTelling made edits)) old mid key found (Some (Ok (Ok (given, told))))
      → new ≡ cond told (without mid now key) mid
      → IsEditedRead read made edits old new key found (Some (Ok given))
  at_left old mid new key now None given told at edit is = absurd edit
  at_left old mid new key now (Some stored) given told at edit is =
      let left = within edit.value in
      let written : Stored = record { value = made left; deadline = stored.deadline } in
      let stays = edit.written ∙ ap (λ value. let s : Stored = record { value = value; deadline = stored.deadline } in map.insert old key s) edit.allowed.1 in
      let is_live = (shown_live now (map.get old key) stored (sym (get-live old now key) ∙ at)).live in
      let gone = ap (λ m. without m now key) stays
      ∙ ap (λ f. without_found f (map.insert old key written) key) (found_stored old now key written is_live)
      ∙ stored_gone old key written in
      subst (λ r. IsEditOf made edits old new key stored.deadline r (Ok given)) (sym edit.allowed.0) record {
        left = left;
        allowed = edit.allowed.2.0;
        written = either told (is_emptied (made left)) new (without mid now key) mid (map.remove old key) (map.insert old key written) edit.allowed.2.1 is gone stays;
      }

  -- what is left of it is stored, and with nothing left the key goes
  pub left_edit : (old mid new : Keyspace) (key : Key) (now : ℕ) (found : Option (Result (Result (Given × Bool) Refused) Memory)) (given : Given) (told : Bool) → found ≡ Some (Ok (Ok (given, told)))
      → IsEdited (EditsRead read within made (EditsTelling made edits)) old mid key (map.get (live old now) key) found
      → new ≡ cond told (without mid now key) mid
      → IsEditedRead read made edits old new key (map.get (live old now) key) (Some (Ok given))
  left_edit old mid new key now found given told at edit is =
      at_left old mid new key now (map.get (live old now) key) given told refl
      (subst (λ f. IsEdited (EditsRead read within made (EditsTelling made edits)) old mid key (map.get (live old now) key) f) at edit) is
