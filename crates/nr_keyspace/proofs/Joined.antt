-- What the databases have at a key, and what a change of one of them is.
use Rattle.std.proofs.Common.{◌≡◌, ◌≢◌, ℤ, ℕ, zero, suc, ◌+◌, ◌<◌, ◌≤◌, Bool, true, false, cond, ◌&&◌, eqb, Option, Some, None, List, [], ◌∷◌, ◌++◌, length, get_or, set, refl, ap, sym, ◌∙◌, true≢false, arith, ltb, ltb-false, le_trans, get_or-set_same, get_or-set_other}
use Rattle.std.specs.declared.cmp.Ordering.{Ordering}
use Rattle.std.specs.declared.cmp.Ordering.TheVariants.{Less, Equal, Greater}
use Rattle.std.specs.Ordering.{is_eq, eq_by_cmp, nat_cmp, ordering_then}
use Rattle.std.specs.Cmp.{unsigned_tied, unsigned_Decides}
use Rattle.std.specs.Cmp.Lexicographic.{nat_list_cmp_total}
use Rattle.std.specs.Option.{option_or}
use Rattle.std.specs.List.{SwappedAt}
use Rattle.std.specs.FinMap as map
use Rattle.std.proofs.lemmas.List.{get_or_default, get_or_past, set-get_or}
use Rattle.nr_model.specs.Bytes.{Bytes}
use Rattle.nr_model.specs.Keyspace.{Key, Keyspace, key_cmp, byte_cmp, Stored, Text, live, only_live}
use Rattle.nr_model.proofs.Live.{key_total, get-live}
use Rattle.nr_keyspace.specs.Stores.{Store, redated, written_if}
use Rattle.nr_keyspace.specs.Joined.{key_of, with_entries, joined_from, joined, store_at, IsSwept, other_of, exchanged}
use Rattle.nr_keyspace.proofs.Orders.{key_exact}

same_number : (a b : ℕ) → eqb a b ≡ true → a ≡ b
same_number a b e = (unsigned_Decides a b).0 e

other_number : (a b : ℕ) → eqb a b ≡ false → a ≢ b
other_number a b e same = true≢false (sym ((unsigned_Decides a b).1 same) ∙ e)

differ : (a b : ℕ) → a ≢ b → eqb a b ≡ false
differ a b apart = elim (eqb a b) as (λ t. eqb a b ≡ t → t ≡ false) [ true ↦ λ e. absurd (apart (same_number a b e)) | false ↦ λ _. refl ] refl

both_equal : (r s : Ordering) → is_eq (ordering_then r s) ≡ (is_eq r && is_eq s)
both_equal Less s = refl
both_equal Equal s = refl
both_equal Greater s = refl

-- two keys tie where their databases and their names do
pub tied : (key : Key) (database : ℕ) (name : Bytes)
    → eq_by_cmp key_cmp key (key_of database name) ≡ (eqb key.database database && eq_by_cmp byte_cmp key.name name)
tied key database name = both_equal (nat_cmp key.database database) (byte_cmp key.name name)
    ∙ ap (λ b. b && eq_by_cmp byte_cmp key.name name) (unsigned_tied key.database database)

first_of : {A : Type 0} (a b : Bool) (x : A) (found rest : Option A)
    → cond (a && b) (Some x) (cond a (option_or found rest) rest) ≡ cond a (option_or (cond b (Some x) found) rest) rest
first_of true true x found rest = refl
first_of true false x found rest = refl
first_of false b x found rest = refl

get-with_entries : (database : ℕ) (entries : List (Bytes × Stored)) (keyspace : Keyspace) (key : Key)
    → map.get (with_entries database entries keyspace) key
    ≡ cond (eqb key.database database) (option_or (map.find byte_cmp key.name entries) (map.get keyspace key)) (map.get keyspace key)
get-with_entries database [] keyspace key =
    elim (eqb key.database database) as
    (λ b. map.get keyspace key ≡ cond b (option_or None (map.get keyspace key)) (map.get keyspace key)) [ true ↦ refl | false ↦ refl ]
get-with_entries database (e ∷ entries) keyspace key =
    map.get-insert key_total (with_entries database entries keyspace) (key_of database e.0) e.1 key
    ∙ ap (λ b. cond b (Some e.1) (map.get (with_entries database entries keyspace) key)) (tied key database e.0)
    ∙ ap (cond (eqb key.database database && eq_by_cmp byte_cmp key.name e.0) (Some e.1)) (get-with_entries database entries keyspace key)
    ∙ first_of (eqb key.database database) (eq_by_cmp byte_cmp key.name e.0) e.1 (map.find byte_cmp key.name entries) (map.get keyspace key)

none_below : (database : ℕ) (stores : List Store) (key : Key) → key.database < database → map.get (joined_from database stores) key ≡ None
none_below database [] key below = map.get-empty key_cmp key
none_below database (store ∷ stores) key below =
    get-with_entries database (map.entries store) (joined_from (suc database) stores) key
    ∙ ap (λ b. cond b (option_or (map.find byte_cmp key.name (map.entries store)) (map.get (joined_from (suc database) stores) key))
    (map.get (joined_from (suc database) stores) key)) (differ key.database database (λ e. absurd (omega arith)))
    ∙ none_below (suc database) stores key (omega arith)

or_none : {A : Type 0} (o : Option A) → option_or o None ≡ o
or_none None = refl
or_none (Some x) = refl

get-joined_from : (first : ℕ) (stores : List Store) (key : Key) (place : ℕ) → key.database ≡ first + place
    → map.get (joined_from first stores) key ≡ map.get (store_at stores place) key.name
get-joined_from first [] key place at = map.get-empty key_cmp key ∙ sym (map.get-empty byte_cmp key.name)
get-joined_from first (store ∷ stores) key zero at =
    get-with_entries first (map.entries store) (joined_from (suc first) stores) key
    ∙ ap (λ b. cond b (option_or (map.find byte_cmp key.name (map.entries store)) (map.get (joined_from (suc first) stores) key))
    (map.get (joined_from (suc first) stores) key)) ((unsigned_Decides key.database first).1 (omega arith))
    ∙ ap (option_or (map.find byte_cmp key.name (map.entries store))) (none_below (suc first) stores key (omega arith))
    ∙ or_none (map.find byte_cmp key.name (map.entries store))
    ∙ sym (map.get-entries store key.name)
get-joined_from first (store ∷ stores) key (suc place) at =
    get-with_entries first (map.entries store) (joined_from (suc first) stores) key
    ∙ ap (λ b. cond b (option_or (map.find byte_cmp key.name (map.entries store)) (map.get (joined_from (suc first) stores) key))
    (map.get (joined_from (suc first) stores) key)) (differ key.database first (λ e. absurd (omega arith)))
    ∙ get-joined_from (suc first) stores key place (omega arith)

pub get-joined : (stores : List Store) (key : Key) → map.get (joined stores) key ≡ map.get (store_at stores key.database) key.name
get-joined stores key = get-joined_from 0 stores key key.database (omega arith)

-- what is read at a place, as `v[i]` gives it
pub get-at : (stores : List Store) (database : ℕ) (store : Store) (name : Bytes) → store ≡ get_or stores database store → database < length stores
    → map.get (joined stores) (key_of database name) ≡ map.get store name
get-at stores database store name is below =
    get-joined stores (key_of database name) ∙ ap (λ s. map.get s name) (get_or_default stores database map.empty store below ∙ sym is)

pub get-live_at : (stores : List Store) (now database : ℕ) (store : Store) (name : Bytes) → store ≡ get_or stores database store → database < length stores
    → map.get (live (joined stores) now) (key_of database name) ≡ only_live now (map.get store name)
get-live_at stores now database store name is below =
    get-live (joined stores) now (key_of database name) ∙ ap (only_live now) (get-at stores database store name is below)

get-set : (stores : List Store) (database : ℕ) (store : Store) (key : Key) → database < length stores
    → map.get (joined (set stores database store)) key ≡ cond (eqb key.database database) (map.get store key.name) (map.get (joined stores) key)
get-set stores database store key below =
    get-joined (set stores database store) key
    ∙ elim (eqb key.database database) as
    (λ b. eqb key.database database ≡ b
    → map.get (store_at (set stores database store) key.database) key.name ≡ cond b (map.get store key.name) (map.get (joined stores) key)) [
      | true ↦ λ e. ap (λ k. map.get (store_at (set stores database store) k) key.name) (same_number key.database database e)
          ∙ ap (λ s. map.get s key.name) (get_or-set_same stores database store map.empty below)
      | false ↦ λ e. ap (λ s. map.get s key.name) (get_or-set_other stores database key.database store map.empty (other_number key.database database e))
          ∙ sym (get-joined stores key)
    ] refl

pub get-set_other : (stores : List Store) (database : ℕ) (store : Store) (key : Key) → database < length stores → key.database ≢ database
    → map.get (joined (set stores database store)) key ≡ map.get (joined stores) key
get-set_other stores database store key below apart =
    get-set stores database store key below
    ∙ ap (λ b. cond b (map.get store key.name) (map.get (joined stores) key)) (differ key.database database apart)

narrowed : {A : Type 0} (a b : Bool) (x y z : A) → (a ≡ true → y ≡ z) → cond a (cond b x y) z ≡ cond (a && b) x z
narrowed true true x y z same = refl
narrowed true false x y z same = same refl
narrowed false b x y z same = refl

-- one key changed in one database is that key changed in the keyspace
changed : (stores : List Store) (database : ℕ) (store new : Store) (name : Bytes) (w : Option Stored) → store ≡ get_or stores database store
    → database < length stores
    → ((q : Bytes) → map.get new q ≡ cond (eq_by_cmp byte_cmp q name) w (map.get store q))
    → (key : Key) → map.get (joined (set stores database new)) key ≡ cond (eq_by_cmp key_cmp key (key_of database name)) w (map.get (joined stores) key)
changed stores database store new name w is below change key =
    get-set stores database new key below
    ∙ ap (λ o. cond (eqb key.database database) o (map.get (joined stores) key)) (change key.name)
    ∙ narrowed (eqb key.database database) (eq_by_cmp byte_cmp key.name name) w (map.get store key.name) (map.get (joined stores) key)
    (λ e. sym (get-at stores database store key.name is below)
    ∙ ap (λ d. map.get (joined stores) (key_of d key.name)) (sym (same_number key.database database e)))
    ∙ ap (λ b. cond b w (map.get (joined stores) key)) (sym (tied key database name))

pub inserted : (stores : List Store) (database : ℕ) (store : Store) (name : Bytes) (stored : Stored) → store ≡ get_or stores database store
    → database < length stores
    → joined (set stores database (map.insert store name stored)) ≡ map.insert (joined stores) (key_of database name) stored
inserted stores database store name stored is below = map.same_map key_total key_exact _ _ (λ key.
    changed stores database store (map.insert store name stored) name (Some stored) is below (map.get-insert nat_list_cmp_total store name stored) key
    ∙ sym (map.get-insert key_total (joined stores) (key_of database name) stored key))

pub removed : (stores : List Store) (database : ℕ) (store : Store) (name : Bytes) → store ≡ get_or stores database store → database < length stores
    → joined (set stores database (map.remove store name)) ≡ map.remove (joined stores) (key_of database name)
removed stores database store name is below = map.same_map key_total key_exact _ _ (λ key.
    changed stores database store (map.remove store name) name None is below (map.get-remove nat_list_cmp_total store name) key
    ∙ sym (map.get-remove key_total (joined stores) (key_of database name) key))

pub unchanged : (stores : List Store) (database : ℕ) (store : Store) → store ≡ get_or stores database store → joined (set stores database store) ≡ joined stores
unchanged stores database store is = ap joined (ap (set stores database) is ∙ set-get_or stores database store)

-- a text that is written in one database, or not
pub written_in : (stores : List Store) (database : ℕ) (store : Store) (name text : Bytes) (written : Bool) → store ≡ get_or stores database store
    → database < length stores
    → joined (set stores database (written_if written store name text)) ≡ written_if written (joined stores) (key_of database name) text
written_in stores database store name text true is below = inserted stores database store name (record { value = Text text; deadline = None }) is below
written_in stores database store name text false is below = unchanged stores database store is

pub swept : (now : ℕ) (old new : List Store) → IsSwept now old new → joined new ≡ live (joined old) now
swept now old new is = map.same_map key_total key_exact _ _ (λ key.
    get-joined new key ∙ is.left key.database key.name ∙ ap (only_live now) (sym (get-joined old key)) ∙ sym (get-live (joined old) now key))

pub cleared : (stores : List Store) (database : ℕ) (key : Key) → database < length stores
    → map.get (joined (set stores database map.empty)) key ≡ cond (eqb key.database database) None (map.get (joined stores) key)
cleared stores database key below = get-set stores database map.empty key below
    ∙ ap (λ (o : Option Stored). cond (eqb key.database database) o (map.get (joined stores) key)) (map.get-empty byte_cmp key.name)

-- a database in which what is live stays so leaves the live keys as they were
pub live_in : (now : ℕ) (stores : List Store) (database : ℕ) (store new : Store) → store ≡ get_or stores database store → database < length stores
    → ((q : Bytes) → only_live now (map.get new q) ≡ only_live now (map.get store q))
    → live (joined (set stores database new)) now ≡ live (joined stores) now
live_in now stores database store new is below same = map.same_map key_total key_exact _ _ (λ key.
    get-live (joined (set stores database new)) now key
    ∙ ap (only_live now) (get-set stores database new key below)
    ∙ elim (eqb key.database database) as
    (λ b. eqb key.database database ≡ b
    → only_live now (cond b (map.get new key.name) (map.get (joined stores) key)) ≡ only_live now (map.get (joined stores) key)) [
      | true ↦ λ e. same key.name ∙ ap (only_live now) (sym (get-at stores database store key.name is below)
          ∙ ap (λ d. map.get (joined stores) (key_of d key.name)) (sym (same_number key.database database e)))
      | false ↦ λ _. refl
    ] refl
    ∙ sym (get-live (joined stores) now key))

pub none_stored : (stores : List Store) → ((database : ℕ) → store_at stores database ≡ map.empty) → joined stores ≡ map.empty
none_stored stores empty = map.same_map key_total key_exact _ _ (λ key.
    get-joined stores key ∙ ap (λ s. map.get s key.name) (empty key.database) ∙ map.get-empty byte_cmp key.name ∙ sym (map.get-empty key_cmp key))

pub empty_push : (stores : List Store) → ((database : ℕ) → store_at stores database ≡ map.empty) → (database : ℕ)
    → store_at (stores ++ map.empty ∷ []) database ≡ map.empty
empty_push [] empty zero = refl
empty_push [] empty (suc database) = refl
empty_push (store ∷ stores) empty zero = empty 0
empty_push (store ∷ stores) empty (suc database) = empty_push stores (λ k. empty (suc k)) database

-- the first ones swept, where there are no others
pub all_swept : (now count : ℕ) (old new : List Store) → length old ≤ count
    → ((k : ℕ) (name : Bytes) → map.get (store_at new k) name
    ≡ cond (ltb k count) (only_live now (map.get (store_at old k) name)) (map.get (store_at old k) name))
    → IsSwept now old new
all_swept now count old new all is = record {
  left = λ k name.
      is k name
      ∙ elim (ltb k count) as (λ b. ltb k count ≡ b
      → cond b (only_live now (map.get (store_at old k) name)) (map.get (store_at old k) name) ≡ only_live now (map.get (store_at old k) name)) [
        | true ↦ λ _. refl
        | false ↦ λ past.
            let none : map.get (store_at old k) name ≡ None =
            ap (λ s. map.get s name) (get_or_past old k map.empty (le_trans all (ltb-false k count past))) ∙ map.get-empty byte_cmp name in
            none ∙ sym (ap (only_live now) none)
      ] refl;
}

-- the first ones empty, where there are no others
pub all_cleared : (count : ℕ) (old new : List Store) → length old ≤ count
    → ((k : ℕ) → store_at new k ≡ cond (ltb k count) map.empty (store_at old k)) → (database : ℕ) → store_at new database ≡ map.empty
all_cleared count old new all is k =
    is k ∙ elim (ltb k count) as (λ b. ltb k count ≡ b → cond b map.empty (store_at old k) ≡ map.empty) [
      | true ↦ λ _. refl
      | false ↦ λ past. get_or_past old k map.empty (le_trans all (ltb-false k count past))
    ] refl

pub redated_at : (stores : List Store) (database : ℕ) (store : Store) (name : Bytes) (stored : Option Stored) (deadline : Option ℤ)
    → store ≡ get_or stores database store → database < length stores
    → joined (set stores database (redated store name stored deadline)) ≡ redated (joined stores) (key_of database name) stored deadline
redated_at stores database store name None deadline is below = unchanged stores database store is
redated_at stores database store name (Some stored) deadline is below =
    inserted stores database store name (record { value = stored.value; deadline = deadline }) is below

store-swap : (a b : ℕ) (old new : List Store) → SwappedAt old new a b → (database : ℕ) → store_at new database ≡ store_at old (other_of a b database)
store-swap a b old new at database =
    elim (eqb database a) as (λ t. eqb database a ≡ t → store_at new database ≡ store_at old (cond t b (cond (eqb database b) a database))) [
      | true ↦ λ is. ap (store_at new) (same_number database a is) ∙ at.0 map.empty
      | false ↦ λ not_a. elim (eqb database b) as (λ t. eqb database b ≡ t → store_at new database ≡ store_at old (cond t a database)) [
        | true ↦ λ is. ap (store_at new) (same_number database b is) ∙ at.1 map.empty
        | false ↦ λ not_b. at.2 database map.empty (other_number database a not_a) (other_number database b not_b)
      ] refl
    ] refl

pub exchanged_in : (a b : ℕ) (old new : List Store) → SwappedAt old new a b → (key : Key) → map.get (joined new) key ≡ map.get (joined old) (exchanged a b key)
exchanged_in a b old new at key = get-joined new key ∙ ap (λ s. map.get s key.name) (store-swap a b old new at key.database)
    ∙ sym (get-joined old (exchanged a b key))
