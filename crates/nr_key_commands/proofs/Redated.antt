-- EXPIRE of a key, by what was found of its deadline.
use Rattle.std.proofs.Common.{◌≡◌, ℕ, ℤ, pos, Bool, true, false, [], ◌∷◌, refl, ap, sym, ◌∙◌, subst}
use Rattle.std.specs.Prelude.{Option, Some, None, if◌then◌else◌}
use Rattle.std.specs.Option.{option_map}
use Rattle.std.specs.FinMap as map
use Rattle.nr_model.specs.Bytes.{Bytes}
use Rattle.nr_model.specs.Replies.{Int}
use Rattle.nr_model.specs.Keyspace.{Key, key_of, Keyspace, Stored}
use Rattle.nr_model.specs.Commands.Shape.{Effect, staying, unchanged}
use Rattle.nr_model.specs.Commands.Keys.{Conditions, is_met, redated, held_until}
use Rattle.nr_resp.specs.Done.{IsDone}
use Rattle.nr_keyspace.specs.Redated.{redated_until}

same_deadline : (before after : Option ℤ) → ◌≡◌ {A = Option (Option ℤ)} (Some before) (Some after) → after ≡ before
same_deadline before after is = cc is

module _ {T : Type 0} (telling : T → Key → T) (now : ℕ) (m : Keyspace) (database : ℕ) (conditions : Conditions) (deadline : ℤ) (told : T) where
  abbrev choice : Key → Stored → Bool → Effect
  choice key stored met =
      if met then record {
        reply = Int (pos 1);
        keyspace = held_until now m key (record { value = stored.value; deadline = Some deadline });
        touched = key ∷ [];
      }
      else unchanged m (Int (pos 0))

  at_none : (key : Key) (held : Option Stored) → None ≡ option_map (λ (stored : Stored). stored.deadline) held
      → IsDone telling (Int (pos 0)) m database told told (staying database (redated now m key conditions deadline held))
  at_none key None is = record { replied = refl; left = refl; selected = refl; touched = refl }
  at_none key (Some stored) is = absurd (cc is)

  at_unmet : (key : Key) (held : Option Stored) (before : Option ℤ) → Some before ≡ option_map (λ (stored : Stored). stored.deadline) held
      → is_met conditions before deadline ≡ false
      → IsDone telling (Int (pos 0)) m database told told (staying database (redated now m key conditions deadline held))
  at_unmet key None before is unmet = absurd (cc is)
  at_unmet key (Some stored) before is unmet =
      subst (λ (b : Bool). IsDone telling (Int (pos 0)) m database told told (staying database (choice key stored b)))
      (sym (ap (λ d. is_met conditions d deadline) (same_deadline before stored.deadline is) ∙ unmet))
      (record { replied = refl; left = refl; selected = refl; touched = refl })

  at_met : (key : Key) (held : Option Stored) (before : Option ℤ) (new : Keyspace) (told' : T)
      → Some before ≡ option_map (λ (stored : Stored). stored.deadline) held
      → is_met conditions before deadline ≡ true → new ≡ redated_until now m key held (Some deadline) → told' ≡ telling told key
      → IsDone telling (Int (pos 1)) new database told told' (staying database (redated now m key conditions deadline held))
  at_met key None before new told' is met left touched = absurd (cc is)
  at_met key (Some stored) before new told' is met left touched =
      subst (λ (b : Bool). IsDone telling (Int (pos 1)) new database told told' (staying database (choice key stored b)))
      (sym (ap (λ d. is_met conditions d deadline) (same_deadline before stored.deadline is) ∙ met))
      (record { replied = refl; left = left; selected = refl; touched = touched })

  module _ (seen : Keyspace) (name bytes : Bytes) (named : bytes ≡ name) (swept : seen ≡ m) where
    found : (before : Option (Option ℤ)) → before ≡ option_map (λ (stored : Stored). stored.deadline) (map.get seen (key_of database bytes))
        → before ≡ option_map (λ (stored : Stored). stored.deadline) (map.get m (key_of database name))
    found before is = is ∙ (λ i. option_map (λ (stored : Stored). stored.deadline) (map.get (swept i) (key_of database (named i))))

    pub not_there : None ≡ option_map (λ (stored : Stored). stored.deadline) (map.get seen (key_of database bytes))
        → IsDone telling (Int (pos 0)) m database told told
        (staying database (redated now m (key_of database name) conditions deadline (map.get m (key_of database name))))
    not_there is = at_none (key_of database name) (map.get m (key_of database name)) (found None is)

    pub not_met : (before : Option ℤ) → Some before ≡ option_map (λ (stored : Stored). stored.deadline) (map.get seen (key_of database bytes))
        → is_met conditions before deadline ≡ false
        → IsDone telling (Int (pos 0)) m database told told
        (staying database (redated now m (key_of database name) conditions deadline (map.get m (key_of database name))))
    not_met before is unmet = at_unmet (key_of database name) (map.get m (key_of database name)) before (found (Some before) is) unmet

    pub is_redated : (before : Option ℤ) (new : Keyspace) (told' : T)
        → Some before ≡ option_map (λ (stored : Stored). stored.deadline) (map.get seen (key_of database bytes))
        → is_met conditions before deadline ≡ true
        → new ≡ redated_until now m (key_of database name) (map.get m (key_of database name)) (Some deadline)
        → told' ≡ telling told (key_of database name)
        → IsDone telling (Int (pos 1)) new database told told'
        (staying database (redated now m (key_of database name) conditions deadline (map.get m (key_of database name))))
    is_redated before new told' is met left touched =
        at_met (key_of database name) (map.get m (key_of database name)) before new told' (found (Some before) is) met left touched
