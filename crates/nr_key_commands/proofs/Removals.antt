-- Removals one after the other.
use Rattle.std.proofs.Common.{◌≡◌, ℕ, ◌+◌, ◌<◌, ◌≤◌, Bool, true, false, cond, List, [], ◌∷◌, ◌++◌, length, drop, get_or, suc, refl, ap, sym, ◌∙◌, append-nil, drop-cons, add-one, length-append, arith}
use Rattle.std.proofs.lemmas.List.{drop_all}
use Rattle.std.specs.FinMap as map
use Rattle.nr_model.specs.Bytes.{Bytes}
use Rattle.nr_model.specs.Keyspace.{Key, Keyspace}
use Rattle.nr_model.specs.Commands.Keys.{Removal, remove_one, remove_all}
use Rattle.nr_keyspace.specs.Joined.{key_of}
use Rattle.nr_keyspace.specs.Touched.{Touches}
use Rattle.nr_key_commands.specs.Removed.{Removes}
use Rattle.nr_keyspace.proofs.Touching.{touches_more}

-- The first of the names were taken out: so many, and whoever keeps account was told of them.
pub record Along {T : Type 0} (after : T → Key → T) (start keyspace : Keyspace) (told told' : T) (count : ℕ) (database : ℕ) (names : List Bytes) (i : ℕ) : Type 0 where
  pub removed : List Key
  pub counted : count ≡ length removed
  pub few : count ≤ i
  pub touched : Touches after told told' removed
  pub further : remove_all (record { keyspace = keyspace; removed = removed }) database (drop i names) ≡ remove_all (record { keyspace = start; removed = [] }) database names

pub none_yet : {T : Type 0} (after : T → Key → T) (start : Keyspace) (told : T) (database : ℕ) (names : List Bytes) → Along after start start told told 0 database names 0
none_yet after start told database names = record { removed = []; counted = refl; few = omega arith; touched = refl; further = refl }

by_flag : (b : Bool) (key : Key) (keyspace : Keyspace) (before : List Key)
    → ◌≡◌ {A = Removal} (cond b (record { keyspace = map.remove keyspace key; removed = before ++ key ∷ [] }) (record { keyspace = keyspace; removed = before }))
    (record { keyspace = cond b (map.remove keyspace key) keyspace; removed = before ++ cond b (key ∷ []) [] })
by_flag true key keyspace before = refl
by_flag false key keyspace before = ap {B = Removal} (λ (ks : List Key). record { keyspace = keyspace; removed = ks }) (sym (append-nil before))

abbrev pub counted_on : Bool → ℕ → ℕ
counted_on true n = n + 1
counted_on false n = n

grown : (b : Bool) (key : Key) (before : List Key) (count : ℕ) → count ≡ length before → counted_on b count ≡ length (before ++ cond b (key ∷ []) [])
grown true key before count e = omega (arith, e, length-append before (key ∷ []))
grown false key before count e = e ∙ ap length (sym (append-nil before))

still_few : (b : Bool) (count i : ℕ) → count ≤ i → counted_on b count ≤ i + 1
still_few true count i h = omega arith
still_few false count i h = omega arith

-- one name further
pub one_further : {T : Type 0} (after : T → Key → T) (start old new : Keyspace) (told told' told'' : T) (count : ℕ) (database : ℕ) (names : List Bytes) (i : ℕ) (name : Bytes) (removed : Bool)
    → i < length names → name ≡ get_or names i name → Along after start old told told' count database names i → Removes after removed old new told' told'' (key_of database name)
    → Along after start new told told'' (counted_on removed count) database names (i + 1)
one_further after start old new told told' told'' count database names i name removed below at so_far step =
    let key = key_of database name in
    let cut : drop i names ≡ name ∷ drop (i + 1) names = rw add-one (drop-cons names i name below ∙ ap (λ x. x ∷ drop (suc i) names) (sym at)) in
    let stepped : remove_one (record { keyspace = old; removed = so_far.removed }) key ≡ record { keyspace = new; removed = so_far.removed ++ cond removed (key ∷ []) [] } =
    ap {B = Removal} (λ b. cond b (record { keyspace = map.remove old key; removed = so_far.removed ++ key ∷ [] }) (record { keyspace = old; removed = so_far.removed })) (sym step.was_there)
    ∙ by_flag removed key old so_far.removed
    ∙ ap {B = Removal} (λ (k : Keyspace). record { keyspace = k; removed = so_far.removed ++ cond removed (key ∷ []) [] }) (sym step.keyspace) in record {
      removed = so_far.removed ++ cond removed (key ∷ []) [];
      counted = grown removed key so_far.removed count so_far.counted;
      few = still_few removed count i so_far.few;
      touched = touches_more after told told' told'' so_far.removed (cond removed (key ∷ []) []) so_far.touched step.touched;
      further =
          ap (λ (r : Removal). remove_all r database (drop (i + 1) names)) (sym stepped)
          ∙ ap (remove_all (record { keyspace = old; removed = so_far.removed }) database) (sym cut)
          ∙ so_far.further;
    }

-- past the last name
pub no_further : {T : Type 0} (after : T → Key → T) (start keyspace : Keyspace) (told told' : T) (count : ℕ) (database : ℕ) (names : List Bytes) (i : ℕ) → length names ≤ i → (along : Along after start keyspace told told' count database names i)
    → record { keyspace = keyspace; removed = along.removed } ≡ remove_all (record { keyspace = start; removed = [] }) database names
no_further after start keyspace told told' count database names i past along =
    sym (ap (remove_all (record { keyspace = keyspace; removed = along.removed }) database) (drop_all i names past)) ∙ along.further
