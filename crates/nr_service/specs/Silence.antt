-- When a client was heard last, and when it is silent for too long.
use Rattle.std.specs.Prelude.{◌≡◌, ℕ, ◌-◌, ◌<◌, ◌≤◌, Bool, true, false, ◌⊎◌, List, [], ◌∷◌, ◌++◌, length, Option, Some, IfSome, All}
use Rattle.nr_model.specs.Bytes.{Bytes}
use Rattle.nr_service.specs.declared.client.Client.{Client}
use Rattle.nr_service.specs.declared.leaving.LeavingBounds.{LeavingBounds}

-- A client wasn't heard for so many milliseconds, where that is bounded at all: 0 is no bound. Where the clock went back behind the moment at which it was
-- heard it isn't silent.
abbrev pub IsSilent : {S : Type 0} → LeavingBounds → Client S → Type 0
IsSilent bounds client = (0 < bounds.timeout) × (bounds.timeout ≤ bounds.now - client.heard)

-- where they are known, bytes grow by at least one
abbrev pub IsMore : Option Bytes → Option Bytes → Type 0
IsMore old new = IfSome old (λ before. (more : Bytes) × (0 < length more) × (new ≡ Some (before ++ more)))

-- The moment at which a client was heard last is this one, and its stream received, or sent, at least a byte, where that is known; or it is as before, and
-- so is what it received, or sent.
abbrev pub IsHeard : ℕ → ℕ → ℕ → Option Bytes → Option Bytes → Type 0
IsHeard now before after old new = ((after ≡ now) × IsMore old new) ⊎ ((after ≡ before) × (new ≡ old))

-- Before a client is read it counts as heard at this moment where it is new or messages may come to it, and else as it did before.
abbrev pub IsHeardBefore : (Bool → Type 0) → ℕ → Bool → ℕ → ℕ → Type 0
IsHeardBefore listens now is_new before after =
    ((after ≡ now) × ((is_new ≡ true) ⊎ listens true)) ⊎ ((after ≡ before) × (is_new ≡ false) × listens false)

-- Behind a try to read it that is so too, or at this moment bytes came; and else none came.
abbrev pub IsHeardBehind : (Bool → Type 0) → ℕ → Bool → ℕ → ℕ → Option Bytes → Option Bytes → Type 0
IsHeardBehind listens now is_new before after old new =
    ((after ≡ now) × ((is_new ≡ true) ⊎ listens true ⊎ IsMore old new)) ⊎ ((after ≡ before) × (new ≡ old) × (is_new ≡ false) × listens false)

-- each in its place was heard last at this moment, or when it was before
abbrev pub AreHeard : {S : Type 0} → ℕ → List (Client S) → List (Client S) → Type 0
AreHeard now [] [] = Unit {0}
AreHeard now [] (new ∷ news) = ⊥
AreHeard now (old ∷ olds) [] = ⊥
AreHeard now (old ∷ olds) (new ∷ news) = ((new.heard ≡ now) ⊎ (new.heard ≡ old.heard)) × AreHeard now olds news

-- some stand behind the others, each as heard at this moment
pub record OpensAt {S : Type 0} (now : ℕ) (old new : List (Client S)) : Type 0 where
  pub opened : List (Client S)
  pub items : new ≡ old ++ opened
  pub heard : All (λ client. client.heard ≡ now) opened
