-- The list of a key edited in place: what becomes of the keyspace.
use Rattle.std.proofs.Common.{◌≡◌, ℕ, ◌<◌, Bool, true, false, cond, List, [], ◌∷◌, length, refl, ap, sym, ◌∙◌, subst, arith}
use Rattle.std.specs.Prelude.{suc, Option, Some, None, Result, Ok, Err}
use Rattle.std.specs.Prelude.{bytes_eq}
use Rattle.std.proofs.lemmas.Bool.{ne_eqb, false≢true}
use Rattle.std.proofs.lemmas.Slice.Eq.{bytes_eq-Decides}
use Rattle.nr_model.proofs.Ordered.{equal_from}
use Rattle.std.specs.Ordering.{eq_by_cmp}
use Rattle.std.specs.FinMap as map
use Rattle.nr_model.specs.Bytes.{Bytes}
use Rattle.nr_model.specs.Keyspace.{Key, key_of, key_cmp, Keyspace, Stored, Items, live, only_live, is_live_at}
use Rattle.nr_model.specs.Commands.Held.{items_of, items_at, held_as, deadline_of, is_emptied, kept, kept_under}
use Rattle.nr_model.specs.Commands.Reading.{Read, fault, read_then}
use Rattle.nr_model.specs.declared.refused.Refused.{Refused}
use Rattle.nr_model.proofs.Live.{key_total, get-live}
use Rattle.nr_keyspace.proofs.Live.{live_remove}
use Rattle.nr_keyspace.proofs.Orders.{key_exact}
use Rattle.nr_keyspace.specs.Edited.{IsEditedRead, IsEditOf}
use Rattle.nr_list_commands.specs.Relisted.{unrefused, IsRelisted}

-- a missing key that gets a list
missing_at : (held : Option Stored) → held_as items_of held ≡ Ok None → held ≡ None
missing_at None is = refl
missing_at (Some stored) is = of_value (items_of stored.value) is
  where
    of_value : (read : Read (List Bytes)) → read_then read (λ a. Ok (Some a)) ≡ Ok None → Some stored ≡ None
    of_value (Ok items) is = absurd (let some : ◌≡◌ {A = Option (List Bytes)} (Some items) None = cc is in cc some)
    of_value (Err error) is = absurd (cc is)

put_some : (old : Keyspace) (key : Key) (list : List Bytes) → 0 < length list
    → let stored : Stored = record { value = Items list; deadline = None } in map.insert old key stored ≡ kept old key stored
put_some old key [] some = absurd (omega (arith, some))
put_some old key (item ∷ list) some =
    let stored : Stored = record { value = Items (item ∷ list); deadline = None } in
    ap (λ b. cond b (map.remove old key) (map.insert old key stored)) (sym (ne_eqb (suc (length list)) 0 (λ none. absurd (omega (arith, none)))))

pub kept_new : (old : Keyspace) (key : Key) (list : List Bytes) → held_as items_of (map.get old key) ≡ Ok None → 0 < length list
    → map.insert old key (record { value = Items list; deadline = None }) ≡ kept_under old key (Items list)
kept_new old key list missing some =
    put_some old key list some
    ∙ ap (λ (held : Option Stored). kept old key (record { value = Items list; deadline = deadline_of held })) (sym (missing_at (map.get old key) missing))

module _ {Given : Type 0} (edits : List Bytes → List Bytes → Given → Type 0) (old new : Keyspace) (key : Key) where
  relisted_value : (stored : Stored) (read : Read (List Bytes)) (given : Given) → map.get old key ≡ Some stored
      → IsEditOf Items (unrefused edits) old new key stored.deadline read (Ok given) → IsRelisted edits old new key (read_then read (λ a. Ok (Some a))) given
  relisted_value stored (Ok items) given is edit = record {
    items = items;
    left = edit.left;
    was = refl;
    allowed = edit.allowed;
    written = edit.written ∙ ap (λ (held : Option Stored). kept old key (record { value = Items edit.left; deadline = deadline_of held })) (sym is);
  }
  relisted_value stored (Err error) given is edit = absurd edit

  relisted_held : (held : Option Stored) (given : Given) → map.get old key ≡ held → IsEditedRead items_of Items (unrefused edits) old new key held (Some (Ok given))
      → IsRelisted edits old new key (held_as items_of held) given
  relisted_held None given is edit = absurd edit
  relisted_held (Some stored) given is edit = relisted_value stored (items_of stored.value) given is edit

  -- the list is edited
  pub relisted : (seen : Keyspace) (found : Option (Result Given Refused)) (given : Given) → seen ≡ old → found ≡ Some (Ok given)
      → IsEditedRead items_of Items (unrefused edits) old new key (map.get seen key) found → IsRelisted edits old new key (held_as items_of (map.get old key)) given
  relisted seen found given swept is edit =
      relisted_held (map.get old key) given refl
      (subst (λ m. IsEditedRead items_of Items (unrefused edits) old new key (map.get m key) (Some (Ok given))) swept
      (subst (λ f. IsEditedRead items_of Items (unrefused edits) old new key (map.get seen key) f) is edit))

  missing_held : (held : Option Stored) → IsEditedRead items_of Items (unrefused edits) old new key held None → (held_as items_of held ≡ Ok None) × (new ≡ old)
  missing_held None edit = (refl, edit)
  missing_held (Some stored) edit = absurd edit

  -- there is no key
  pub missing : (seen : Keyspace) (found : Option (Result Given Refused)) → seen ≡ old → found ≡ None
      → IsEditedRead items_of Items (unrefused edits) old new key (map.get seen key) found → (held_as items_of (map.get old key) ≡ Ok None) × (new ≡ old)
  missing seen found swept is edit =
      missing_held (map.get old key)
      (subst (λ m. IsEditedRead items_of Items (unrefused edits) old new key (map.get m key) None) swept
      (subst (λ f. IsEditedRead items_of Items (unrefused edits) old new key (map.get seen key) f) is edit))

  refused_value : (deadline : _) (read : Read (List Bytes)) (why : Refused) → IsEditOf Items (unrefused edits) old new key deadline read (Err why)
      → (read_then {B = Option (List Bytes)} read (λ a. Ok (Some a)) ≡ fault why) × (new ≡ old)
  refused_value deadline (Ok items) why edit = absurd edit.1
  refused_value deadline (Err error) why edit = (ap (λ e. Err e) edit.1, edit.0)

  refused_held : (held : Option Stored) (why : Refused) → IsEditedRead items_of Items (unrefused edits) old new key held (Some (Err why))
      → (held_as items_of held ≡ fault why) × (new ≡ old)
  refused_held None why edit = absurd edit
  refused_held (Some stored) why edit = refused_value stored.deadline (items_of stored.value) why edit

  -- the key is of another kind
  pub refused : (seen : Keyspace) (found : Option (Result Given Refused)) (why : Refused) → seen ≡ old → found ≡ Some (Err why)
      → IsEditedRead items_of Items (unrefused edits) old new key (map.get seen key) found → (held_as items_of (map.get old key) ≡ fault why) × (new ≡ old)
  refused seen found why swept is edit =
      refused_held (map.get old key) why
      (subst (λ m. IsEditedRead items_of Items (unrefused edits) old new key (map.get m key) (Some (Err why))) swept
      (subst (λ f. IsEditedRead items_of Items (unrefused edits) old new key (map.get seen key) f) is edit))

-- all that is live stays so
live_deadline : (now : ℕ) (held : Option Stored) → only_live now held ≡ held → is_live_at now (deadline_of held) ≡ true
live_deadline now None is = refl
live_deadline now (Some stored) is =
    elim (is_live_at now stored.deadline) as (λ b. is_live_at now stored.deadline ≡ b → cond b (Some stored) None ≡ Some stored → b ≡ true) [
      | true ↦ λ _ _. refl
      | false ↦ λ _ none. absurd (let no : ◌≡◌ {A = Option Stored} None (Some stored) = none in cc no)
    ] refl is

live_put : (now : ℕ) (stored : Stored) (b : Bool) (held : Option Stored) → is_live_at now stored.deadline ≡ true → only_live now held ≡ held
    → only_live now (cond b (Some stored) held) ≡ cond b (Some stored) held
live_put now stored true held live was = ap (λ b. cond b (Some stored) None) live
live_put now stored false held live was = was

live_insert : (m : Keyspace) (now : ℕ) (key : Key) (stored : Stored) → is_live_at now stored.deadline ≡ true → live m now ≡ m
    → live (map.insert m key stored) now ≡ map.insert m key stored
live_insert m now key stored here is = map.same_map key_total key_exact _ _ (λ q.
    get-live (map.insert m key stored) now q
    ∙ ap (only_live now) (map.get-insert key_total m key stored q)
    ∙ live_put now stored (eq_by_cmp key_cmp q key) (map.get m q) here (sym (get-live m now q) ∙ ap (λ n. map.get n q) is)
    ∙ sym (map.get-insert key_total m key stored q))

live_kept : (m : Keyspace) (now : ℕ) (key : Key) (stored : Stored) (b : Bool) → is_live_at now stored.deadline ≡ true → live m now ≡ m
    → let left = cond b (map.remove m key) (map.insert m key stored) in live left now ≡ left
live_kept m now key stored true here is = live_remove m now key is
live_kept m now key stored false here is = live_insert m now key stored here is

pub live_relisted : (old new : Keyspace) (now : ℕ) (key : Key) (left : List Bytes) → live old now ≡ old → new ≡ kept_under old key (Items left) → live new now ≡ new
live_relisted old new now key left is written =
    let stored : Stored = record { value = Items left; deadline = deadline_of (map.get old key) } in
    subst (λ m. live m now ≡ m) (sym written)
    (live_kept old now key stored (is_emptied stored.value) (live_deadline now (map.get old key) (sym (get-live old now key) ∙ ap (λ m. map.get m key) is)) is)

-- another key holds what it held
bytes_same : (a b : Bytes) → bytes_eq a b ≡ false → a ≡ b → ⊥
bytes_same a b apart same = false≢true (sym apart ∙ (bytes_eq-Decides a b).1 same)

other_tied : (database : ℕ) (a b : Bytes) (r : Bool) → bytes_eq a b ≡ false → eq_by_cmp key_cmp (key_of database b) (key_of database a) ≡ r → r ≡ false
other_tied database a b true apart is =
    absurd (bytes_same a b apart (ap (λ (key : Key). key.name) (sym (key_exact (key_of database b) (key_of database a) (equal_from (key_cmp (key_of database b) (key_of database a)) is)))))
other_tied database a b false apart is = refl

other_kept : (m : Keyspace) (key other : Key) (stored : Stored) (b : Bool) → eq_by_cmp key_cmp other key ≡ false
    → map.get (cond b (map.remove m key) (map.insert m key stored)) other ≡ map.get m other
other_kept m key other stored true apart = map.get-remove key_total m key other ∙ ap (λ b. cond b None (map.get m other)) apart
other_kept m key other stored false apart = map.get-insert key_total m key stored other ∙ ap (λ b. cond b (Some stored) (map.get m other)) apart

pub other_held : (old new : Keyspace) (database : ℕ) (a b : Bytes) (left : List Bytes) → bytes_eq a b ≡ false → new ≡ kept_under old (key_of database a) (Items left)
    → map.get new (key_of database b) ≡ map.get old (key_of database b)
other_held old new database a b left apart written =
    let stored : Stored = record { value = Items left; deadline = deadline_of (map.get old (key_of database a)) } in
    ap (λ m. map.get m (key_of database b)) written
    ∙ other_kept old (key_of database a) (key_of database b) stored (is_emptied stored.value) (other_tied database a b _ apart refl)

-- and so read as a list
pub other_items : (old new : Keyspace) (database : ℕ) (a b : Bytes) (left : List Bytes) → bytes_eq a b ≡ false → new ≡ kept_under old (key_of database a) (Items left)
    → items_at new database b ≡ items_at old database b
other_items old new database a b left apart written = ap (held_as items_of) (other_held old new database a b left apart written)
