-- Items, lists of them that are cut, and what is lent of them.
use Rattle.std.specs.Prelude.{◌≡◌, ℕ, zero, suc, ◌-◌, Bool, false, cond, List, [], ◌∷◌, take, drop, filter, ℤ}
use Rattle.nr_model.specs.Bytes.{Bytes}
use Rattle.nr_model.specs.declared.command.Direction.{Direction}
use Rattle.nr_model.specs.declared.command.Direction.TheVariants.{Ascending, Descending}
use denote.Ref.{Bor}

-- bytes with a number
abbrev pub Item : Type 0
Item = Bytes × ℤ

-- the items that pass stand in front of those that don't
abbrev pub IsParted : {A : Type 0} → (A → Bool) → List A → Type 0
IsParted test [] = Unit {0}
IsParted test (x ∷ xs) = (test x ≡ false → filter test xs ≡ []) × IsParted test xs

-- how many pass before the first that doesn't
abbrev pub front : {A : Type 0} → (A → Bool) → List A → ℕ
front test [] = 0
front test (x ∷ xs) = cond (test x) (suc (front test xs)) 0

-- the items from one place to another
abbrev pub part : {A : Type 0} → ℕ → ℕ → List A → List A
part from to xs = drop from (take to xs)

-- an item that is lent
abbrev pub shown : Bor Bytes × ℤ → Item
shown lent = (lent.0.now, lent.1)

-- the same items, of which the one at a place has another number
abbrev pub renumbered : List Item → ℕ → ℤ → List Item
renumbered [] place number = []
renumbered (x ∷ xs) zero number = (x.0, number) ∷ xs
renumbered (x ∷ xs) (suc place) number = x ∷ renumbered xs place number

-- where it is told what stands at a place, among so many
abbrev pub told_place : Direction → ℕ → ℕ → ℕ
told_place Ascending place len = place
told_place Descending place len = len - suc place
