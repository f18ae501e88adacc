-- An edit of one value, from the entries to what is seen of the keyspace.
use Rattle.std.proofs.Common.{◌≡◌, ℕ, ◌<◌, true, false, cond, Option, Some, None, Result, Ok, Err, IfOk, OnErr, List, length, get_or, set, refl, ap, sym, ◌∙◌, subst}
use Rattle.std.specs.declared.cmp.Ordering.{Ordering}
use Rattle.std.specs.FinMap as map
use Rattle.std.specs.FinSet as set
use Rattle.nr_model.specs.Bytes.{Bytes}
use Rattle.nr_model.specs.Keyspace as model
use Rattle.nr_model.specs.Keyspace.{Key, Keyspace, Stored, is_live_at, live, only_live}
use Rattle.nr_model.proofs.Live.{get-live}
use Rattle.nr_keyspace.specs.Deadlines.{due_cmp, has_deadline}
use Rattle.nr_keyspace.specs.Edited.{IsEdit, IsEdited}
use Rattle.nr_keyspace.specs.Joined.{key_of, joined}
use Rattle.nr_keyspace.specs.Seen.{seen_after, is_seen_after}
use Rattle.nr_keyspace.specs.Stores.{Store, IsIndexed, deadline_of}
use Rattle.nr_keyspace.proofs.Indexed.{insert_indexed}
use Rattle.nr_keyspace.proofs.Joined.{inserted, unchanged}
use Rattle.nr_keyspace.proofs.Replaced.{kept}
use Rattle.nr_keyspace.proofs.Seen.{seen_insert}

pub if_ok_then : {A E : Type 0} {P Q : A → Type 0} (result : Result A E) → IfOk result P → ((x : A) → P x → Q x) → IfOk result Q
if_ok_then (Ok x) holds then = then x holds
if_ok_then (Err e) holds then = tt

-- what is live of what is stored is what is stored, and live
pub record IsLive (now : ℕ) (found : Option Stored) (stored : Stored) : Type 0 where
  pub is : found ≡ Some stored
  pub live : is_live_at now stored.deadline ≡ true

pub shown_live : (now : ℕ) (found : Option Stored) (stored : Stored) → only_live now found ≡ Some stored → IsLive now found stored
shown_live now None stored shown = absurd (let none : ◌≡◌ {A = Option Stored} None (Some stored) = shown in cc none)
shown_live now (Some found) stored shown =
    elim (is_live_at now found.deadline) as (λ b. is_live_at now found.deadline ≡ b → cond b (Some found) None ≡ Some stored → IsLive now (Some found) stored) [
      | true ↦ λ live is.
          let same : found ≡ stored = cc in
          record { is = is; live = ap (λ (s : Stored). is_live_at now s.deadline) (sym same) ∙ live }
      | false ↦ λ _ is. absurd (let none : ◌≡◌ {A = Option Stored} None (Some stored) = is in cc none)
    ] refl shown

module _ {Given : Type 0} (edits : model.Value → model.Value → Given → Type 0) where
  pub unedited : {K : Type 0} {R : K → K → Ordering} (old new : map.FinMap R Stored) (key : K) (found : Option Stored) → found ≡ None → new ≡ old
      → IsEdited edits old new key found None
  unedited old new key found none same = subst (λ (o : Option Stored). IsEdited edits old new key o None) (sym none) same

  pub edited : {K : Type 0} {R : K → K → Ordering} (old new : map.FinMap R Stored) (key : K) (found : Option Stored) (stored : Stored) (given : Given)
      → found ≡ Some stored → IsEdit edits old new key stored given → IsEdited edits old new key found (Some given)
  edited old new key found stored given is edit = subst (λ (o : Option Stored). IsEdited edits old new key o (Some given)) (sym is) edit

  -- the same of what is known to be the same
  pub edited_as : {K : Type 0} {R : K → K → Ordering} (old old' new : map.FinMap R Stored) (key key' : K) (found found' : Option Stored) (given : Option Given)
      → old ≡ old' → key ≡ key' → found ≡ found' → IsEdited edits old new key found given → IsEdited edits old' new key' found' given
  edited_as old old' new key key' found found' given is at shown edit =
      subst (λ o. IsEdited edits o new key' found' given) is
      (subst (λ k. IsEdited edits old new k found' given) at
      (subst (λ (o : Option Stored). IsEdited edits old new key o given) shown edit))

  -- the deadlines are as they were
  edit_indexed : (old new : Store) (dues : set.FinSet due_cmp) (name : Bytes) (found : Option Stored) (given : Option Given) → IsIndexed old dues
      → ((stored : Stored) → found ≡ Some stored → map.get old name ≡ Some stored) → IsEdited edits old new name found given → IsIndexed new dues
  edit_indexed old new dues name None None was at same = subst (λ store. IsIndexed store dues) (sym same) was
  edit_indexed old new dues name None (Some given) was at no_edit = absurd no_edit
  edit_indexed old new dues name (Some stored) None was at no_edit = absurd no_edit
  edit_indexed old new dues name (Some stored) (Some given) was at edit =
      let written : Stored = record { value = edit.value; deadline = stored.deadline } in
      subst (λ store. IsIndexed store dues) (sym edit.written)
      (insert_indexed old dues dues name written was
      (kept dues stored.deadline stored.deadline name
      (λ deadline. was.exact deadline name ∙ ap (λ (o : Option Stored). has_deadline deadline (deadline_of o)) (at stored refl)) refl))

  pub edited_indexed : {E : Type 0} (result : Result (Option Given) E) (old new : Store) (dues : set.FinSet due_cmp) (name : Bytes) (now : ℕ) → IsIndexed old dues
      → IfOk result (λ given. IsEdited edits old new name (only_live now (map.get old name)) given) → OnErr result (new ≡ old) → IsIndexed new dues
  edited_indexed (Ok given) old new dues name now was edit unchanged =
      edit_indexed old new dues name (only_live now (map.get old name)) given was (λ stored shown. (shown_live now (map.get old name) stored shown).is) edit
  edited_indexed (Err e) old new dues name now was edit unchanged = subst (λ store. IsIndexed store dues) (sym unchanged) was

  -- an edit in one database is that edit in the keyspace
  pub edited_in : (stores : List Store) (database : ℕ) (store new : Store) (name : Bytes) (found : Option Stored) (given : Option Given)
      → store ≡ get_or stores database store → database < length stores → IsEdited edits store new name found given
      → IsEdited edits (joined stores) (joined (set stores database new)) (key_of database name) found given
  edited_in stores database store new name None None is below same = ap (λ s. joined (set stores database s)) same ∙ unchanged stores database store is
  edited_in stores database store new name None (Some given) is below no_edit = no_edit
  edited_in stores database store new name (Some stored) None is below no_edit = no_edit
  edited_in stores database store new name (Some stored) (Some given) is below edit = record {
    value = edit.value;
    allowed = edit.allowed;
    written = ap (λ s. joined (set stores database s)) edit.written
        ∙ inserted stores database store name (record { value = edit.value; deadline = stored.deadline }) is below;
  }

  -- an edit of what is seen is seen
  pub edited_seen : (latest : Option ℕ) (old new : Keyspace) (key : Key) (found : Option Stored) (given : Option Given)
      → ((stored : Stored) → found ≡ Some stored → is_seen_after latest stored.deadline ≡ true) → IsEdited edits old new key found given
      → IsEdited edits (seen_after latest old) (seen_after latest new) key found given
  edited_seen latest old new key None None seen same = ap (seen_after latest) same
  edited_seen latest old new key None (Some given) seen no_edit = no_edit
  edited_seen latest old new key (Some stored) None seen no_edit = no_edit
  edited_seen latest old new key (Some stored) (Some given) seen edit = record {
    value = edit.value;
    allowed = edit.allowed;
    written = ap (seen_after latest) edit.written
        ∙ seen_insert latest old key (record { value = edit.value; deadline = stored.deadline }) (seen stored refl);
  }

-- what is found after the latest sweep is seen after it
pub found_seen : (latest : Option ℕ) (keyspace : Keyspace) (now : ℕ) (key : Key) (stored : Stored)
    → map.get (live (seen_after latest keyspace) now) key ≡ Some stored → is_seen_after latest stored.deadline ≡ true
found_seen None keyspace now key stored found = refl
found_seen (Some latest) keyspace now key stored found =
    let seen = shown_live now (map.get (live keyspace latest) key) stored (sym (get-live (live keyspace latest) now key) ∙ found) in
    (shown_live latest (map.get keyspace key) stored (sym (get-live keyspace latest key) ∙ seen.is)).live
