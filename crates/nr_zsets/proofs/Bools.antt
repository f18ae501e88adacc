-- Tests, and what follows from their answers.
use Rattle.std.proofs.Common.{◌≡◌, Bool, true, false, not, ◌||◌, ◌&&◌, T, refl, sym, true≢false}
use Rattle.std.specs.declared.cmp.Ordering.{Ordering}
use Rattle.std.specs.declared.cmp.Ordering.TheVariants.{Less, Equal, Greater}
use Rattle.std.specs.Ordering.{is_lt}

pub first_holds : (a b : Bool) → T (a && b) → T a
first_holds true b h = tt
first_holds false b h = h

pub second_holds : (a b : Bool) → T (a && b) → T b
second_holds true b h = h
second_holds false b h = absurd h

pub in_tail : (a b : Bool) → b ≡ true → (a || b) ≡ true
in_tail true b h = refl
in_tail false b h = h

pub neither : (a b : Bool) → (a || b) ≡ false → (a ≡ false) × (b ≡ false)
neither true b h = absurd (true≢false h)
neither false b h = (refl, h)

pub and_false : (a : Bool) → (a && false) ≡ false
and_false true = refl
and_false false = refl

pub and_true : (a : Bool) → (a && true) ≡ a
and_true true = refl
and_true false = refl

pub or_false : (a : Bool) → (a || false) ≡ a
or_false true = refl
or_false false = refl

pub or_true : (a : Bool) → (a || true) ≡ true
or_true true = refl
or_true false = refl

pub not_not : (b : Bool) → not (not b) ≡ b
not_not true = refl
not_not false = refl

pub twice : (b : Bool) → not (not b) ≡ true → b ≡ true
twice true h = refl
twice false h = h

pub untwice : (b : Bool) → not b ≡ false → b ≡ true
untwice true h = refl
untwice false h = sym h

pub is_false : (b : Bool) → (b ≡ true → ⊥) → b ≡ false
is_false b never = elim b as (λ x. (x ≡ true → ⊥) → x ≡ false) [ true ↦ λ never. absurd (never refl) | false ↦ λ _. refl ] never

pub less_is : (r : Ordering) → is_lt r ≡ true → r ≡ Less
less_is Less h = refl
less_is Equal h = absurd (true≢false (sym h))
less_is Greater h = absurd (true≢false (sym h))
