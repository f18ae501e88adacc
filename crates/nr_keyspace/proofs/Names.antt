-- The names of a database's keys are those that it lists.
use Rattle.std.proofs.Common.{◌≡◌, ℕ, ◌<◌, get_or, Bool, true, false, cond, T, ◌&&◌, eqb, Option, Some, None, List, [], ◌∷◌, length, refl, ap, sym, ◌∙◌, subst}
use Rattle.std.specs.Prelude as prelude
use Rattle.std.specs.Prelude.{filter}
use Rattle.std.specs.declared.cmp.Ordering.{Ordering}
use Rattle.std.specs.declared.cmp.Ordering.TheVariants.{Less, Equal, Greater}
use Rattle.std.specs.Ordering.{is_lt, eq_by_cmp, nat_cmp, ordering_then}
use Rattle.std.specs.Cmp.{nat_cmp_total, tied_itself, unsigned_Decides, nat_eq_equiv}
use Rattle.std.specs.Cmp.Lexicographic.{nat_list_cmp_total}
use Rattle.std.specs.List.{AllByRecursion}
use Rattle.std.specs.List.Sorted.{IsStrictlySortedBy}
use Rattle.std.specs.FinMap as map
use Rattle.std.specs.FinMap.Entries.{below_all, is_sorted, find}
use Rattle.std.proofs.lemmas.List.{length-map}
use Rattle.std.proofs.lemmas.Map.Lookups.{exact_bytes}
use Rattle.nr_model.specs.Bytes.{Bytes}
use Rattle.nr_model.specs.Keyspace.{Key, Keyspace, key_cmp, byte_cmp, Stored, is_stored_live, live, only_live, names_in}
use Rattle.nr_keyspace.specs.Stores.{Store}
use Rattle.nr_keyspace.specs.Joined.{key_of, joined}
use Rattle.nr_keyspace.specs.Names.{live_store}
use Rattle.nr_keyspace.proofs.Joined.{tied, get-live_at}

both : (a b : Bool) → T a → T b → T (a && b)
both true b p q = q
both false b p q = p

first : (a b : Bool) → T (a && b) → T a
first true b p = tt
first false b p = p

second : (a b : Bool) → T (a && b) → T b
second true b p = p
second false b p = absurd p

-- what a keyspace has in one database
abbrev entries_in : ℕ → List (Key × Stored) → List (Bytes × Stored)
entries_in database [] = []
entries_in database (e ∷ entries) = cond (eqb e.0.database database) ((e.0.name, e.1) ∷ entries_in database entries) (entries_in database entries)

names_of : (database : ℕ) (entries : List (Key × Stored))
    → prelude.map (λ (e : Bytes × Stored). e.0) (entries_in database entries)
    ≡ prelude.map (λ (key : Key). key.name) (filter (λ (key : Key). eqb key.database database) (prelude.map (λ (e : Key × Stored). e.0) entries))
names_of database [] = refl
names_of database (e ∷ entries) =
    elim (eqb e.0.database database) as
    (λ b. prelude.map (λ (e : Bytes × Stored). e.0) (cond b ((e.0.name, e.1) ∷ entries_in database entries) (entries_in database entries))
    ≡ prelude.map (λ (key : Key). key.name)
    (cond b (e.0 ∷ filter (λ (key : Key). eqb key.database database) (prelude.map (λ (e : Key × Stored). e.0) entries))
    (filter (λ (key : Key). eqb key.database database) (prelude.map (λ (e : Key × Stored). e.0) entries)))) [
      | true ↦ ap (λ names. e.0.name ∷ names) (names_of database entries)
      | false ↦ names_of database entries
    ]

find_in : (database : ℕ) (q : Bytes) (entries : List (Key × Stored)) → find byte_cmp q (entries_in database entries) ≡ find key_cmp (key_of database q) entries
find_in database q [] = refl
find_in database q (e ∷ entries) =
    elim (eqb e.0.database database) as
    (λ b. find byte_cmp q (cond b ((e.0.name, e.1) ∷ entries_in database entries) (entries_in database entries))
    ≡ cond (b && eq_by_cmp byte_cmp q e.0.name) (Some e.1) (find key_cmp (key_of database q) entries)) [
      | true ↦ ap (cond (eq_by_cmp byte_cmp q e.0.name) (Some e.1)) (find_in database q entries)
      | false ↦ find_in database q entries
    ]
    ∙ ap (λ b. cond (b && eq_by_cmp byte_cmp q e.0.name) (Some e.1) (find key_cmp (key_of database q) entries)) (nat_eq_equiv.symm e.0.database database)
    ∙ ap (λ b. cond b (Some e.1) (find key_cmp (key_of database q) entries)) (sym (tied (key_of database q) e.0.database e.0.name))

-- within one database keys stand as their names do
by_name : (a b : Key) → a.database ≡ b.database → is_lt (key_cmp a b) ≡ is_lt (byte_cmp a.name b.name)
by_name a b same = ap (λ r. is_lt (ordering_then r (byte_cmp a.name b.name))) (ap (nat_cmp a.database) (sym same) ∙ tied_itself nat_cmp_total a.database)

below_in : (database : ℕ) (key : Key) (entries : List (Key × Stored)) → key.database ≡ database → T (below_all key_cmp key entries)
    → T (below_all byte_cmp key.name (entries_in database entries))
below_in database key [] at below = tt
below_in database key (e ∷ entries) at below =
    let rest = below_in database key entries at (second _ _ below) in
    elim (eqb e.0.database database) as
    (λ b. eqb e.0.database database ≡ b
    → T (below_all byte_cmp key.name (cond b ((e.0.name, e.1) ∷ entries_in database entries) (entries_in database entries)))) [
      | true ↦ λ is. both (is_lt (byte_cmp key.name e.0.name)) (below_all byte_cmp key.name (entries_in database entries))
          (subst T (by_name key e.0 (at ∙ sym ((unsigned_Decides e.0.database database).0 is))) (first _ _ below)) rest
      | false ↦ λ _. rest
    ] refl

sorted_in : (database : ℕ) (entries : List (Key × Stored)) → T (is_sorted key_cmp entries) → T (is_sorted byte_cmp (entries_in database entries))
sorted_in database [] rising = tt
sorted_in database (e ∷ entries) rising =
    let rest = sorted_in database entries (second _ _ rising) in
    elim (eqb e.0.database database) as
    (λ b. eqb e.0.database database ≡ b → T (is_sorted byte_cmp (cond b ((e.0.name, e.1) ∷ entries_in database entries) (entries_in database entries)))) [
      | true ↦ λ is. both (below_all byte_cmp e.0.name (entries_in database entries)) (is_sorted byte_cmp (entries_in database entries))
          (below_in database e.0 entries ((unsigned_Decides e.0.database database).0 is) (first _ _ rising)) rest
      | false ↦ λ _. rest
    ] refl

-- a keyspace that has in a database what a store has lists the store's names
pub names_from : (keyspace : Keyspace) (database : ℕ) (store : Store) → ((q : Bytes) → map.get keyspace (key_of database q) ≡ map.get store q)
    → names_in keyspace database ≡ map.keys store
names_from keyspace database store same =
    let entries = entries_in database (map.entries keyspace) in
    let rising : T (is_sorted byte_cmp entries) = sorted_in database (map.entries keyspace) (map.entries_sorted keyspace) in
    let made : map.from_sorted {R = byte_cmp} entries ≡ store = map.same_map nat_list_cmp_total exact_bytes _ _ (λ q.
    map.get-from_sorted byte_cmp entries q rising ∙ find_in database q (map.entries keyspace) ∙ sym (map.get-entries keyspace (key_of database q)) ∙ same q) in
    sym (names_of database (map.entries keyspace))
    ∙ ap (prelude.map (λ (e : Bytes × Stored). e.0)) (sym (map.entries-from_sorted byte_cmp entries rising))
    ∙ ap map.keys made

live_cond : (now : ℕ) (stored : Option Stored) → cond (is_stored_live now stored) stored None ≡ only_live now stored
live_cond now None = refl
live_cond now (Some stored) = refl

pub get-live_store : (store : Store) (now : ℕ) (q : Bytes) → map.get (live_store store now) q ≡ only_live now (map.get store q)
get-live_store store now q =
    map.get-retain_keys store (λ n. is_stored_live now (map.get store n)) q (λ x same. ap (is_stored_live now) (map.get_tied nat_list_cmp_total store q x same))
    ∙ live_cond now (map.get store q)

less : (r : Ordering) → T (is_lt r) → r ≡ Less
less Less p = refl
less Equal p = absurd p
less Greater p = absurd p

all_below : (name : Bytes) (entries : List (Bytes × Stored)) → T (below_all byte_cmp name entries)
    → AllByRecursion (λ y. byte_cmp name y ≡ Less) (prelude.map (λ (e : Bytes × Stored). e.0) entries)
all_below name [] below = tt
all_below name (e ∷ entries) below = (less (byte_cmp name e.0) (first _ _ below), all_below name entries (second _ _ below))

rising_names : (entries : List (Bytes × Stored)) → T (is_sorted byte_cmp entries)
    → IsStrictlySortedBy byte_cmp (prelude.map (λ (e : Bytes × Stored). e.0) entries)
unfolding IsStrictlySortedBy
rising_names [] rising = tt
rising_names (e ∷ entries) rising = (all_below e.0 entries (first _ _ rising), rising_names entries (second _ _ rising))

pub keys_rise : (store : Store) → IsStrictlySortedBy byte_cmp (map.keys store)
keys_rise store = rising_names (map.entries store) (map.entries_sorted store)

pub names_at : (stores : List Store) (now database : ℕ) (store : Store) → store ≡ get_or stores database store → database < length stores
    → names_in (live (joined stores) now) database ≡ map.keys (live_store store now)
names_at stores now database store is below =
    names_from (live (joined stores) now) database (live_store store now)
    (λ q. get-live_at stores now database store q is below ∙ sym (get-live_store store now q))

pub len_keys : (store : Store) → map.len store ≡ length (map.keys store)
len_keys store = map.len-entries store ∙ sym (length-map (map.entries store) (λ (e : Bytes × Stored). e.0))
