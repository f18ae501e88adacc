-- The changes of a database, on its entries and its ordered deadlines at once.
use Rattle.std.proofs.Common.{◌≡◌, ℕ, ℤ, Bool, true, false, cond, Option, Some, None, List, refl, ap, sym, ◌∙◌, subst, true≢false, is_some, not, Result, Ok, Err, IfOk, OnOk, OnErr, OnSome, IfNone}
use Rattle.std.specs.Option.{option_map}
use Rattle.std.specs.Map.{lookup, KeepsOthers}
use Rattle.std.specs.FinMap as map
use Rattle.std.specs.FinSet as set
use Rattle.std.specs.Ordering.{eq_by_cmp}
use Rattle.std.specs.Cmp.{Equal-is}
use Rattle.std.specs.Cmp.Lexicographic.{nat_list_cmp_total}
use Rattle.std.proofs.lemmas.Map.Lookups.{exact_bytes}
use Rattle.nr_model.specs.Keyspace as model
use Rattle.nr_model.specs.Bytes.{Bytes}
use Rattle.nr_model.specs.Keyspace.{byte_cmp, Stored, is_live_at, only_live}
use Rattle.nr_keyspace.specs.Deadlines.{due_cmp, has_deadline, without_deadline, IsReplaced}
use Rattle.nr_keyspace.specs.Stores.{Store, IsIndexed, redated, written_if, is_undated, bytes_of, store_of, stored_of, deadline_of}
use Rattle.nr_keyspace.specs.Values.{value_of}
use Rattle.nr_keyspace.specs.declared.value.Value.{Value}
use Rattle.nr_keyspace.specs.declared.database.KeyEntry.{KeyEntry}
use Rattle.nr_keyspace.proofs.Named.{is_name, same_name, get-store, inserted, removed, reordered}
use Rattle.nr_keyspace.proofs.Replaced.{kept}
use Rattle.nr_keyspace.proofs.Indexed.{insert_indexed, remove_indexed}

abbrev pub Entries : Type 0
Entries = List (Bytes × KeyEntry)

abbrev pub IsReordered : Entries → Entries → Type 0
IsReordered old new = (k : Bytes) → lookup (same_name bytes_of k) new ≡ lookup (same_name bytes_of k) old

pub put_store : (old room new : Entries) (name : Bytes) (entry : KeyEntry) → IsReordered old room → lookup (is_name bytes_of name) new ≡ Some entry
    → KeepsOthers (same_name bytes_of) (is_name bytes_of name) room new
    → store_of bytes_of new ≡ map.insert (store_of bytes_of old) name (stored_of entry)
put_store old room new name entry same at_name others =
    inserted bytes_of room new name entry at_name others ∙ ap (λ m. map.insert m name (stored_of entry)) (reordered bytes_of old room same)

pub put_indexed : (old room new : Entries) (dues after : set.FinSet due_cmp) (name : Bytes) (entry : KeyEntry) → IsIndexed (store_of bytes_of old) dues
    → IsReordered old room → lookup (is_name bytes_of name) new ≡ Some entry → KeepsOthers (same_name bytes_of) (is_name bytes_of name) room new
    → IsReplaced dues after entry.deadline name → IsIndexed (store_of bytes_of new) after
put_indexed old room new dues after name entry was same at_name others replaced =
    subst (λ store. IsIndexed store after) (sym (put_store old room new name entry same at_name others))
    (insert_indexed (store_of bytes_of old) dues after name (stored_of entry) was replaced)

pub refused_indexed : (old room : Entries) (dues after : set.FinSet due_cmp) → IsIndexed (store_of bytes_of old) dues → IsReordered old room → after ≡ dues
    → IsIndexed (store_of bytes_of room) after
refused_indexed old room dues after was same kept =
    subst (λ store. IsIndexed store after) (sym (reordered bytes_of old room same)) (subst (IsIndexed (store_of bytes_of old)) (sym kept) was)

pub removed_indexed : (old new : Entries) (dues fewer : set.FinSet due_cmp) (name kept_name : Bytes) (entry : KeyEntry) → IsIndexed (store_of bytes_of old) dues
    → Some entry ≡ lookup (is_name bytes_of name) old → name ≡ kept_name
    → lookup (is_name bytes_of name) new ≡ None → KeepsOthers (same_name bytes_of) (is_name bytes_of name) old new
    → fewer ≡ without_deadline dues entry.deadline kept_name → IsIndexed (store_of bytes_of new) fewer
removed_indexed old new dues fewer name kept_name entry was found named at_name others taken =
    let deadline : deadline_of (map.get (store_of bytes_of old) name) ≡ entry.deadline =
    ap deadline_of (get-store bytes_of old name ∙ ap (option_map stored_of) (sym found)) in
    let same : without_deadline dues (deadline_of (map.get (store_of bytes_of old) name)) name ≡ fewer =
    ap (λ d. without_deadline dues d name) deadline ∙ ap (without_deadline dues entry.deadline) named ∙ sym taken in
    subst (λ store. IsIndexed store fewer) (sym (removed bytes_of old new name at_name others))
    (subst (IsIndexed (map.remove (store_of bytes_of old) name)) same (remove_indexed (store_of bytes_of old) dues name was))

is_some-map : {A B : Type 0} (f : A → B) (o : Option A) → is_some (option_map f o) ≡ is_some o
is_some-map f None = refl
is_some-map f (Some x) = refl

shown_if : (live : Bool) (found : Stored) → is_some (cond live (Some found) None) ≡ true → cond live (Some found) None ≡ Some found
shown_if true found some = refl
shown_if false found some = absurd (true≢false (sym some))

-- what is live and stored is what is stored
pub shown : {A : Type 0} (now : ℕ) (stored : Option Stored) (found : Stored) (f : A → Stored) (seen : Option A) → stored ≡ Some found
    → option_map f seen ≡ only_live now stored → is_some seen ≡ true → only_live now stored ≡ Some found
shown now stored found f seen at is some =
    let live : is_some (only_live now (Some found)) ≡ true = ap (λ o. is_some (only_live now o)) (sym at) ∙ ap is_some (sym is) ∙ is_some-map f seen ∙ some in
    ap (only_live now) at ∙ shown_if (is_live_at now found.deadline) found live

-- what holds whatever came, holds where memory ran out
pub on_err : {A E P : Type 0} (result : Result A E) → P → OnErr result P
on_err (Ok x) holds = tt
on_err (Err e) holds = holds

pub ok_then : {A E P Q : Type 0} (result : Result A E) → OnOk result P → (P → Q) → OnOk result Q
ok_then (Ok x) holds then = then holds
ok_then (Err e) holds then = tt

pub some_then : {A P Q : Type 0} (result : Option A) → OnSome result P → (P → Q) → OnSome result Q
some_then (Some x) holds then = then holds
some_then None holds then = tt

-- the entry at a name with another deadline is what is stored there with another deadline
pub redated_entries : (old new : Entries) (name : Bytes) (found written : KeyEntry) → Some found ≡ lookup (is_name bytes_of name) old
    → lookup (is_name bytes_of name) new ≡ Some written → KeepsOthers (same_name bytes_of) (is_name bytes_of name) old new
    → written.value ≡ found.value → store_of bytes_of new ≡ redated (store_of bytes_of old) name (map.get (store_of bytes_of old) name) written.deadline
redated_entries old new name found written is at_name others same =
    inserted bytes_of old new name written at_name others
    ∙ ap (λ (v : Value). let s : Stored = record { value = value_of v; deadline = written.deadline } in map.insert (store_of bytes_of old) name s) same
    ∙ sym (ap (λ (o : Option Stored). redated (store_of bytes_of old) name o written.deadline)
    (get-store bytes_of old name ∙ ap (option_map stored_of) (sym is)))

pub redated_none : (old : Entries) (name : Bytes) (deadline : Option ℤ) → None ≡ lookup (is_name bytes_of name) old
    → store_of bytes_of old ≡ redated (store_of bytes_of old) name (map.get (store_of bytes_of old) name) deadline
redated_none old name deadline is = sym
    (ap (λ (o : Option Stored). redated (store_of bytes_of old) name o deadline) (get-store bytes_of old name ∙ ap (option_map stored_of) (sym is)))

pub redated_indexed : (old new : Entries) (dues after : set.FinSet due_cmp) (name : Bytes) (stored : Stored) (deadline : Option ℤ)
    → IsIndexed (store_of bytes_of old) dues → map.get (store_of bytes_of old) name ≡ Some stored
    → store_of bytes_of new ≡ redated (store_of bytes_of old) name (map.get (store_of bytes_of old) name) deadline → IsReplaced dues after deadline name
    → IsIndexed (store_of bytes_of new) after
redated_indexed old new dues after name stored deadline was at is replaced =
    let s : Stored = record { value = stored.value; deadline = deadline } in
    subst (λ store. IsIndexed store after) (sym (is ∙ ap (λ (o : Option Stored). redated (store_of bytes_of old) name o deadline) at))
    (insert_indexed (store_of bytes_of old) dues after name s was replaced)

stored_here : (stored : Option Stored) → is_some stored ≡ true → (found : Stored) × (stored ≡ Some found)
stored_here (Some found) some = (found, refl)
stored_here None some = absurd (true≢false (sym some))

live_is_stored : (now : ℕ) (stored : Option Stored) → is_some (only_live now stored) ≡ true → is_some stored ≡ true
live_is_stored now (Some found) some = refl
live_is_stored now None some = some

-- the same where the name was seen to be live
pub redated_live : {A : Type 0} (now : ℕ) (f : A → Stored) (seen : Option A) (old new : Entries) (dues after : set.FinSet due_cmp) (name : Bytes) (deadline : Option ℤ)
    → IsIndexed (store_of bytes_of old) dues → option_map f seen ≡ only_live now (map.get (store_of bytes_of old) name) → is_some seen ≡ true
    → store_of bytes_of new ≡ redated (store_of bytes_of old) name (map.get (store_of bytes_of old) name) deadline → IsReplaced dues after deadline name
    → IsIndexed (store_of bytes_of new) after
redated_live now f seen old new dues after name deadline was live some is replaced =
    let stored = map.get (store_of bytes_of old) name in
    let here = stored_here stored (live_is_stored now stored (ap is_some (sym live) ∙ is_some-map f seen ∙ some)) in
    redated_indexed old new dues after name here.0 deadline was here.1 is replaced

pub none_then : {A P Q : Type 0} (result : Option A) → IfNone result P → (P → Q) → IfNone result Q
none_then (Some x) holds then = tt
none_then None holds then = then holds

pub not_some : {A : Type 0} (option : Option A) (some : Bool) → some ≡ is_some option → some ≡ false → option ≡ None
not_some None some is unset = refl
not_some (Some x) some is unset = absurd (true≢false (sym is ∙ unset))

-- what is stored already changes nothing when it is stored again
insert_again : (store : Store) (name : Bytes) (stored : Stored) → map.get store name ≡ Some stored → map.insert store name stored ≡ store
insert_again store name stored at = map.same_map nat_list_cmp_total exact_bytes _ _ (λ q.
    map.get-insert nat_list_cmp_total store name stored q
    ∙ elim (eq_by_cmp byte_cmp q name) as (λ b. eq_by_cmp byte_cmp q name ≡ b → cond b (Some stored) (map.get store q) ≡ map.get store q) [
      | true ↦ λ here. sym at ∙ ap (map.get store) (sym (exact_bytes q name ((Equal-is (byte_cmp q name)).0 here)))
      | false ↦ λ _. refl
    ] refl)

-- an entry that is written as it was changes nothing
pub entry_kept : (old new : Entries) (name : Bytes) (found written : KeyEntry) → Some found ≡ lookup (is_name bytes_of name) old
    → lookup (is_name bytes_of name) new ≡ Some written → KeepsOthers (same_name bytes_of) (is_name bytes_of name) old new
    → stored_of written ≡ stored_of found → store_of bytes_of new ≡ store_of bytes_of old
entry_kept old new name found written is at_name others same =
    inserted bytes_of old new name written at_name others
    ∙ insert_again (store_of bytes_of old) name (stored_of written) (get-store bytes_of old name ∙ ap (option_map stored_of) (sym is) ∙ ap Some (sym same))

-- where another value is written at a name with no deadline, the deadlines are as they were
pub rewritten_indexed : (result : Option Value) (old new : Entries) (dues : set.FinSet due_cmp) (name : Bytes) (value : model.Value)
    → IsIndexed (store_of bytes_of old) dues
    → IfNone result (store_of bytes_of new ≡ map.insert (store_of bytes_of old) name (record { value = value; deadline = None }))
    → IfNone result (deadline_of (map.get (store_of bytes_of old) name) ≡ None)
    → OnSome result (store_of bytes_of new ≡ store_of bytes_of old) → IsIndexed (store_of bytes_of new) dues
rewritten_indexed None old new dues name value was written undated unchanged =
    let stored : Stored = record { value = value; deadline = None } in
    subst (λ store. IsIndexed store dues) (sym written)
    (insert_indexed (store_of bytes_of old) dues dues name stored was
    (kept dues None None name (λ deadline. was.exact deadline name ∙ ap (has_deadline deadline) undated) refl))
rewritten_indexed (Some back) old new dues name value was written undated unchanged = subst (λ store. IsIndexed store dues) (sym unchanged) was

undated_none : (stored : Option Stored) → is_undated stored ≡ true → deadline_of stored ≡ None
undated_none None undated = refl
undated_none (Some stored) undated = elim stored.deadline as (λ d. not (is_some d) ≡ true → d ≡ None) [
  | None ↦ λ _. refl
  | Some deadline ↦ λ no. absurd (true≢false (sym no))
] undated

-- the same where a text may be written, or memory runs out
pub written_indexed : {E : Type 0} (result : Result Bool E) (old new : Entries) (dues : set.FinSet due_cmp) (name text : Bytes)
    → IsIndexed (store_of bytes_of old) dues
    → IfOk result (λ written. written ≡ is_undated (map.get (store_of bytes_of old) name))
    → IfOk result (λ written. store_of bytes_of new ≡ written_if written (store_of bytes_of old) name text)
    → OnErr result (store_of bytes_of new ≡ store_of bytes_of old) → IsIndexed (store_of bytes_of new) dues
written_indexed (Ok true) old new dues name text was exact written unchanged =
    let stored : Stored = record { value = model.Text text; deadline = None } in
    subst (λ store. IsIndexed store dues) (sym written)
    (insert_indexed (store_of bytes_of old) dues dues name stored was
    (kept dues None None name (λ deadline. was.exact deadline name ∙ ap (has_deadline deadline) (undated_none _ (sym exact))) refl))
written_indexed (Ok false) old new dues name text was exact written unchanged = subst (λ store. IsIndexed store dues) (sym written) was
written_indexed (Err e) old new dues name text was exact written unchanged = subst (λ store. IsIndexed store dues) (sym unchanged) was
