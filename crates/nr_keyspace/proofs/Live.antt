-- A keyspace whose keys are all live.
use Rattle.std.proofs.Common.{◌≡◌, ℕ, Bool, true, false, cond, refl, ap, sym, ◌∙◌, subst, is_some, OnSome}
use Rattle.std.specs.Prelude.{Option, Some, None}
use Rattle.std.specs.FinMap as map
use Rattle.std.specs.Ordering.{eq_by_cmp}
use Rattle.nr_model.specs.Keyspace.{Key, key_cmp, Stored, Keyspace, live, is_live_at, only_live}
use Rattle.nr_model.proofs.Live.{key_total, get-live}
use Rattle.nr_keyspace.proofs.Orders.{key_exact}

live_if : (now : ℕ) (stored : Stored) (b : Bool) → is_live_at now stored.deadline ≡ b → only_live now (cond b (Some stored) None) ≡ cond b (Some stored) None
live_if now stored true is = ap (λ b. cond b (Some stored) None) is
live_if now stored false is = refl

only_live-twice : (now : ℕ) (stored : Option Stored) → only_live now (only_live now stored) ≡ only_live now stored
only_live-twice now None = refl
only_live-twice now (Some stored) = live_if now stored (is_live_at now stored.deadline) refl

-- what is live at a moment is all live at it
pub live_live : (m : Keyspace) (now : ℕ) → live (live m now) now ≡ live m now
live_live m now = map.same_map key_total key_exact _ _ (λ key.
    get-live (live m now) now key ∙ ap (only_live now) (get-live m now key) ∙ only_live-twice now (map.get m key) ∙ sym (get-live m now key))

only_live-cond : (now : ℕ) (b : Bool) (stored : Option Stored) → only_live now stored ≡ stored → only_live now (cond b None stored) ≡ cond b None stored
only_live-cond now true stored is = refl
only_live-cond now false stored is = is

-- and stays so where a key is removed
pub live_remove : (m : Keyspace) (now : ℕ) (key : Key) → live m now ≡ m → live (map.remove m key) now ≡ map.remove m key
live_remove m now key is = map.same_map key_total key_exact _ _ (λ q.
    get-live (map.remove m key) now q
    ∙ ap (only_live now) (map.get-remove key_total m key q)
    ∙ only_live-cond now (eq_by_cmp key_cmp q key) (map.get m q) (sym (get-live m now q) ∙ ap (λ n. map.get n q) is)
    ∙ sym (map.get-remove key_total m key q))

-- as where the removal says so by what it gave
pub live_removed : {A : Type 0} (given : Option A) (old new : Keyspace) (now : ℕ) (key : Key) → is_some given ≡ true → OnSome given (new ≡ map.remove old key) → live old now ≡ old → live new now ≡ new
live_removed (Some x) old new now key some removed is = subst (λ m. live m now ≡ m) (sym removed) (live_remove old now key is)
live_removed None old new now key some removed is = absurd (cc)
