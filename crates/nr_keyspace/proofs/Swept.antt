-- What a sweep of a few keys leaves of their database.
use Rattle.std.proofs.Common.{◌≡◌, ℕ, ◌+◌, ◌<◌, ◌≤◌, Bool, true, false, List, length, get_or, set, refl, ap, sym, ◌∙◌, arith, get_or-set_same, length-set}
use Rattle.std.specs.FinMap as map
use Rattle.nr_model.specs.Bytes.{Bytes}
use Rattle.nr_model.specs.Keyspace.{only_live, names_in}
use Rattle.nr_keyspace.specs.Joined.{joined}
use Rattle.nr_keyspace.specs.Stores.{Store}
use Rattle.nr_keyspace.specs.Swept.{IsSweptAt}
use Rattle.nr_keyspace.proofs.Joined.{get-at, get-live_at, get-set_other}
use Rattle.nr_keyspace.proofs.Names.{names_from, len_keys}

-- how many keys a database has
names_stored : (stores : List Store) (database : ℕ) (store : Store) → store ≡ get_or stores database store → database < length stores
    → length (names_in (joined stores) database) ≡ map.len store
names_stored stores database store is below =
    ap (λ (names : List Bytes). length names)
    (names_from (joined stores) database store (λ q. get-at stores database store q is below))
    ∙ sym (len_keys store)

pub swept_at : (now : ℕ) (more : Bool) (stores : List Store) (database : ℕ) (store new : Store) → store ≡ get_or stores database store
    → database < length stores → map.len store ≤ map.len new + 4 → (more ≡ true → map.len new + 4 ≡ map.len store)
    → (more ≡ false → (name : Bytes) → only_live now (map.get new name) ≡ map.get new name)
    → IsSweptAt now database more (joined stores) (joined (set stores database new))
swept_at now more stores database store new is below few taken none_left =
    let after = set stores database new in
    let stands : new ≡ get_or after database new = rw get_or-set_same refl in
    let within : database < length after = omega (arith, below, length-set stores database new) in
    let had = names_stored stores database store is below in
    let has = names_stored after database new stands within in
    record {
      few = omega (arith, few, had, has);
      taken = λ holds. let exact = taken holds in omega (arith, exact, had, has);
      none_left = λ over name.
          get-live_at after now database new name stands within
          ∙ none_left over name
          ∙ sym (get-at after database new name stands within);
      others = λ key apart. get-set_other stores database new key below apart;
    }
