-- A key that is given another deadline.
use Rattle.std.proofs.Common.{◌≡◌, ℕ, ℤ, true, false, cond, refl, ap, sym, ◌∙◌}
use Rattle.std.specs.Prelude.{Option, Some, None}
use Rattle.std.specs.FinMap as map
use Rattle.nr_model.specs.Keyspace.{Key, Keyspace, Stored, is_live_at, live}
use Rattle.nr_keyspace.specs.Redated.{redated_until}
use Rattle.nr_keyspace.specs.Stores.{redated}
use Rattle.nr_keyspace.proofs.Missing.{remove_missing}

redated_live : (now : ℕ) (m : Keyspace) (key : Key) (held : Option Stored) (deadline : Option ℤ) → is_live_at now deadline ≡ true
    → redated m key held deadline ≡ redated_until now m key held deadline
redated_live now m key None deadline is = refl
redated_live now m key (Some stored) deadline is = sym (ap (λ b. cond b (map.insert m key (record { value = stored.value; deadline = deadline })) (map.remove m key)) is)

-- a deadline to come
pub redated_later : (now : ℕ) (old new : Keyspace) (key : Key) (deadline : Option ℤ) → live old now ≡ old → is_live_at now deadline ≡ true
    → new ≡ redated old key (map.get (live old now) key) deadline → new ≡ redated_until now old key (map.get old key) deadline
redated_later now old new key deadline swept is step =
    step ∙ ap (λ m. redated old key (map.get m key) deadline) swept ∙ redated_live now old key (map.get old key) deadline is

removed_at : (now : ℕ) (m : Keyspace) (key : Key) (held : Option Stored) (deadline : Option ℤ) → map.get m key ≡ held → is_live_at now deadline ≡ false
    → map.remove m key ≡ redated_until now m key held deadline
removed_at now m key None deadline at is = remove_missing m key at
removed_at now m key (Some stored) deadline at is = sym (ap (λ b. cond b (map.insert m key (record { value = stored.value; deadline = deadline })) (map.remove m key)) is)

-- one that is past
pub redated_gone : (now : ℕ) (old new : Keyspace) (key : Key) (deadline : Option ℤ) → is_live_at now deadline ≡ false
    → new ≡ map.remove old key → new ≡ redated_until now old key (map.get old key) deadline
redated_gone now old new key deadline is step = step ∙ removed_at now old key (map.get old key) deadline refl is
