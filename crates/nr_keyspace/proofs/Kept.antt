-- A key that is given what it has.
use Rattle.std.proofs.Common.{◌≡◌, ℕ, Bool, true, false, cond, refl, ap, sym, ◌∙◌, subst}
use Rattle.std.specs.Prelude.{Option, Some, None, Result, Ok, Err}
use Rattle.std.specs.FinMap as map
use Rattle.std.specs.Ordering.{eq_by_cmp}
use Rattle.nr_model.specs.Bytes.{Bytes}
use Rattle.nr_model.specs.Keyspace.{Key, key_cmp, key_of, Stored, Keyspace, Value}
use Rattle.nr_model.specs.Commands.Reading.{Read, fault, read_then}
use Rattle.nr_model.specs.Commands.Strings.{text_of, text_held}
use Rattle.nr_model.specs.declared.refused.Refused.{Refused}
use Rattle.nr_keyspace.specs.Edited.{IsEdited, EditsText, RefusesText}
use Rattle.nr_model.proofs.Live.{key_total}
use Rattle.nr_model.proofs.Ordered.{equal_from}
use Rattle.nr_keyspace.proofs.Orders.{key_exact}

same_at : (b : Bool) (stored : Stored) (held : Option Stored) → (b ≡ true → held ≡ Some stored) → cond b (Some stored) held ≡ held
same_at true stored held same = sym (same refl)
same_at false stored held same = refl

-- the keyspace is as it was
pub kept : (m : Keyspace) (key : Key) (stored : Stored) → map.get m key ≡ Some stored → map.insert m key stored ≡ m
kept m key stored held = map.same_map key_total key_exact _ _ (λ q.
    map.get-insert key_total m key stored q
    ∙ same_at (eq_by_cmp key_cmp q key) stored (map.get m q) (λ tied. ap (map.get m) (key_exact q key (equal_from (key_cmp q key) tied)) ∙ held))

-- what an edit did to a key by its name, in a keyspace whose keys are all live
pub edited_here : {Given : Type 0} (edits : Value → Value → Given → Type 0) (old new seen : Keyspace) (database : ℕ) (name bytes : Bytes) (found given : Option Given)
    → bytes ≡ name → seen ≡ old → found ≡ given
    → IsEdited edits old new (key_of database bytes) (map.get seen (key_of database bytes)) found
    → IsEdited edits old new (key_of database name) (map.get old (key_of database name)) given
edited_here {Given} edits old new seen database name bytes found given named swept is edited =
    subst (λ (g : Option Given). IsEdited edits old new (key_of database name) (map.get old (key_of database name)) g) is
    (subst (λ (m : Keyspace). IsEdited edits old new (key_of database name) (map.get m (key_of database name)) found) swept
    (subst (λ (b : Bytes). IsEdited edits old new (key_of database b) (map.get seen (key_of database b)) found) named edited))

-- what holds of each text that the edit refuses, and where there is none, holds of what was read
refused_text : {Given : Type 0} (edits : Bytes → Bytes → Result Given Refused → Type 0) (why : Refused) (P : Read (Option Bytes) → Type 0) (text : Read Bytes) → RefusesText edits text why
    → ((text : Bytes) → edits text text (Err why) → P (Ok (Some text))) → P (fault why) → P (read_then text (λ text. Ok (Some text)))
refused_text edits why P (Ok text) refuses on_text on_fault = on_text text refuses
refused_text edits why P (Err error) refuses on_text on_fault = subst (λ error. P (Err error)) (sym refuses) on_fault

-- an edit of a string that is refused: the keyspace is as it was, by the text that was held or by its being of another kind
refused_at : {Given : Type 0} (edits : Bytes → Bytes → Result Given Refused → Type 0) (old new : Keyspace) (key : Key) (why : Refused) (P : Read (Option Bytes) → Type 0) (held : Option Stored) → map.get old key ≡ held
    → IsEdited (EditsText edits) old new key held (Some (Err why)) → ((text : Bytes) → edits text text (Err why) → P (Ok (Some text))) → P (fault why)
    → (new ≡ old) × P (text_held held)
refused_at edits old new key why P None at edited on_text on_fault = absurd edited
refused_at edits old new key why P (Some stored) at edited on_text on_fault = (
  edited.written ∙ ap (λ value. let s : Stored = record { value = value; deadline = stored.deadline } in map.insert old key s) edited.allowed.0 ∙ kept old key stored at,
  refused_text edits why P (text_of stored.value) edited.allowed.1 on_text on_fault,
)

pub refused_string : {Given : Type 0} (edits : Bytes → Bytes → Result Given Refused → Type 0) (old new : Keyspace) (key : Key) (why : Refused) (P : Read (Option Bytes) → Type 0)
    → IsEdited (EditsText edits) old new key (map.get old key) (Some (Err why)) → ((text : Bytes) → edits text text (Err why) → P (Ok (Some text))) → P (fault why)
    → (new ≡ old) × P (text_held (map.get old key))
refused_string edits old new key why P edited on_text on_fault = refused_at edits old new key why P (map.get old key) refl edited on_text on_fault
