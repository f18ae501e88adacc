-- What commands that only look find.
use Rattle.std.proofs.Common.{◌≡◌, ℕ, ◌≤◌, Bool, true, false, not, cond, List, length, filter, refl, arith}
use Rattle.std.specs.Prelude.{Option, Some, None, IfSome, ℤ, option_map}
use Rattle.std.proofs.lemmas.List.Filters.{length-filter_both}
use Rattle.std.specs.FinMap as map
use Rattle.nr_model.specs.Keyspace.{Key, Stored, Keyspace, live, is_live_at, only_live}
use Rattle.nr_model.proofs.Live.{get-live}

-- no more are counted than there are
pub count_few : {X : Type 0} (p : X → Bool) (xs : List X) (n : ℕ) → n ≡ length (filter p xs) → n ≤ length xs
count_few p xs n e = omega (arith, e, length-filter_both p (λ x. not (p x)) (λ x. refl) xs)

live_only : (now : ℕ) (stored : Stored) (b : Bool) → is_live_at now stored.deadline ≡ b → IfSome (option_map (λ (s : Stored). s.deadline) (cond b (Some stored) None)) (λ deadline. is_live_at now deadline ≡ true)
live_only now stored true e = e
live_only now stored false e = tt

later_only : (now : ℕ) (stored : Option Stored) → IfSome (option_map (λ (s : Stored). s.deadline) (only_live now stored)) (λ deadline. is_live_at now deadline ≡ true)
later_only now None = tt
later_only now (Some stored) = live_only now stored (is_live_at now stored.deadline) refl

-- a deadline that is found is after the moment
pub found_later : (m : Keyspace) (now : ℕ) (key : Key) (found : Option (Option ℤ)) → found ≡ option_map (λ (s : Stored). s.deadline) (map.get (live m now) key)
    → IfSome found (λ deadline. is_live_at now deadline ≡ true)
found_later m now key found e = rw (e, get-live m now key) (later_only now (map.get m key))
