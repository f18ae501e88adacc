-- The numbers that pass a test, in order: which of them is the next from one on, and which are left behind it.
use Rattle.std.proofs.Common.{◌≡◌, ℕ, zero, suc, ◌+◌, ◌<◌, ◌≤◌, Bool, true, false, cond, inl, inr, List, [], ◌∷◌, Some, None, refl, ap, sym, ◌∙◌, subst, arith}
use Rattle.std.specs.Prelude.{nat_le, filter}
use Rattle.std.specs.List.{AllByRecursion, find, range_with_len}
use Rattle.std.proofs.lemmas.Bool.{cases_Bool, leb-true, leb-false, le-leb, lt-leb}

-- what passes of a list whose items all do, and of one none of whose items is found to
all_pass : (test : ℕ → Bool) (xs : List ℕ) → AllByRecursion (λ x. test x ≡ true) xs → filter test xs ≡ xs
all_pass test [] all = refl
all_pass test (x ∷ xs) all = ap (λ b. cond b (x ∷ filter test xs) (filter test xs)) all.0 ∙ ap (λ ys. x ∷ ys) (all_pass test xs all.1)

pub none_left : (test : ℕ → Bool) (xs : List ℕ) → find test xs ≡ None → filter test xs ≡ []
none_left test [] none = refl
none_left test (x ∷ xs) none = elim (cases_Bool (test x)) [
  | inl e ↦ absurd (cc (sym none ∙ ap (λ b. cond b (Some x) (find test xs)) e))
  | inr e ↦ ap (λ b. cond b (x ∷ filter test xs) (filter test xs)) e
      ∙ none_left test xs (sym (ap (λ b. cond b (Some x) (find test xs)) e) ∙ none)
]

-- what is found passes, and has what all have
pub found_passes : (test : ℕ → Bool) (xs : List ℕ) (s : ℕ) → find test xs ≡ Some s → test s ≡ true
found_passes test [] s found = absurd (cc found)
found_passes test (x ∷ xs) s found = elim (cases_Bool (test x)) [
  | inl e ↦
      let same : x ≡ s = cc (sym (ap (λ b. cond b (Some x) (find test xs)) e) ∙ found) in
      ap test (sym same) ∙ e
  | inr e ↦ found_passes test xs s (sym (ap (λ b. cond b (Some x) (find test xs)) e) ∙ found)
]

pub found_has : (P : ℕ → Type 0) (test : ℕ → Bool) (xs : List ℕ) (s : ℕ) → AllByRecursion P xs → find test xs ≡ Some s → P s
found_has P test [] s all found = absurd (cc found)
found_has P test (x ∷ xs) s all found = elim (cases_Bool (test x)) [
  | inl e ↦
      let same : x ≡ s = cc (sym (ap (λ b. cond b (Some x) (find test xs)) e) ∙ found) in
      subst P same all.0
  | inr e ↦ found_has P test xs s all.1 (sym (ap (λ b. cond b (Some x) (find test xs)) e) ∙ found)
]

-- each is above those before it
abbrev pub Ascends : List ℕ → Type 0
Ascends [] = Unit {0}
Ascends (x ∷ xs) = AllByRecursion (λ y. x < y) xs × Ascends xs

above_all : (from x : ℕ) (xs : List ℕ) → from ≤ x + 1 → AllByRecursion (λ y. x < y) xs → AllByRecursion (λ y. nat_le from y ≡ true) xs
above_all from x [] near all = tt
above_all from x (y ∷ ys) near all = (le-leb from y (omega (arith, near, all.0)), above_all from x ys near all.1)

above_pass : (from x : ℕ) (xs : List ℕ) → from ≤ x + 1 → AllByRecursion (λ y. x < y) xs → filter (nat_le from) xs ≡ xs
above_pass from x xs near all = all_pass (nat_le from) xs (above_all from x xs near all)

-- the one found leads those from there on, and behind it stand those from the number after it on
pub first_leads : (from s : ℕ) (xs : List ℕ) → Ascends xs → find (nat_le from) xs ≡ Some s → filter (nat_le from) xs ≡ s ∷ filter (nat_le (s + 1)) xs
first_leads from s [] up found = absurd (cc found)
first_leads from s (x ∷ xs) up found = elim (cases_Bool (nat_le from x)) [
  | inl e ↦
      let same : x ≡ s = cc (sym (ap (λ b. cond b (Some x) (find (nat_le from) xs)) e) ∙ found) in
      let past : nat_le (s + 1) x ≡ false = lt-leb (s + 1) x (omega (arith, same)) in
      let mine : filter (nat_le from) xs ≡ xs = above_pass from x xs (omega (arith, leb-true from x e)) up.0 in
      let others : filter (nat_le (s + 1)) xs ≡ xs = above_pass (s + 1) x xs (omega (arith, same)) up.0 in
      ap (λ b. cond b (x ∷ filter (nat_le from) xs) (filter (nat_le from) xs)) e ∙ (λ i. same i ∷ mine i)
      ∙ ap (λ ys. s ∷ ys) (sym (ap (λ b. cond b (x ∷ filter (nat_le (s + 1)) xs) (filter (nat_le (s + 1)) xs)) past ∙ others))
  | inr e ↦
      let later : find (nat_le from) xs ≡ Some s = sym (ap (λ b. cond b (Some x) (find (nat_le from) xs)) e) ∙ found in
      let behind : from ≤ s = leb-true from s (found_passes (nat_le from) xs s later) in
      let past : nat_le (s + 1) x ≡ false = lt-leb (s + 1) x (omega (arith, leb-false from x e, behind)) in
      ap (λ b. cond b (x ∷ filter (nat_le from) xs) (filter (nat_le from) xs)) e ∙ first_leads from s xs up.1 later
      ∙ ap (λ ys. s ∷ ys) (sym (ap (λ b. cond b (x ∷ filter (nat_le (s + 1)) xs) (filter (nat_le (s + 1)) xs)) past))
]

-- what passes of a range ascends, passes, and is in the range
kept_above : (p : ℕ → Bool) (x : ℕ) (xs : List ℕ) → AllByRecursion (λ y. x < y) xs → AllByRecursion (λ y. x < y) (filter p xs)
kept_above p x [] all = tt
kept_above p x (y ∷ ys) all =
    elim (p y) as (λ b. AllByRecursion (λ z. x < z) (cond b (y ∷ filter p ys) (filter p ys))) [
      | true ↦ (all.0, kept_above p x ys all.1)
      | false ↦ kept_above p x ys all.1
    ]

range_above : (x a n : ℕ) → x < a → AllByRecursion (λ y. x < y) (range_with_len a n)
range_above x a zero near = tt
range_above x a (suc n) near = (near, range_above x (a + 1) n (omega (arith, near)))

pub ascends : (p : ℕ → Bool) (a n : ℕ) → Ascends (filter p (range_with_len a n))
ascends p a zero = tt
ascends p a (suc n) =
    let rest = range_with_len (a + 1) n in
    elim (p a) as (λ b. Ascends (cond b (a ∷ filter p rest) (filter p rest))) [
      | true ↦ (kept_above p a rest (range_above a (a + 1) n (omega arith)), ascends p (a + 1) n)
      | false ↦ ascends p (a + 1) n
    ]

pub all_within : (p : ℕ → Bool) (a n : ℕ) → AllByRecursion (λ y. (p y ≡ true) × (y < a + n)) (filter p (range_with_len a n))
all_within p a zero = tt
all_within p a (suc n) =
    let rest = range_with_len (a + 1) n in
    let others : AllByRecursion (λ y. (p y ≡ true) × (y < a + suc n)) (filter p rest) =
    subst (λ (m : ℕ). AllByRecursion (λ y. (p y ≡ true) × (y < m)) (filter p rest)) (omega arith) (all_within p (a + 1) n) in
    elim (cases_Bool (p a)) [
      | inl e ↦ subst (λ b. AllByRecursion (λ y. (p y ≡ true) × (y < a + suc n)) (cond b (a ∷ filter p rest) (filter p rest))) (sym e) ((e, omega arith), others)
      | inr e ↦ subst (λ b. AllByRecursion (λ y. (p y ≡ true) × (y < a + suc n)) (cond b (a ∷ filter p rest) (filter p rest))) (sym e) others
    ]

-- none stands past the end
pub none_past : (p : ℕ → Bool) (from end : ℕ) (xs : List ℕ) → AllByRecursion (λ y. (p y ≡ true) × (y < end)) xs → end ≤ from → filter (nat_le from) xs ≡ []
none_past p from end [] all past = refl
none_past p from end (x ∷ xs) all past =
    ap (λ b. cond b (x ∷ filter (nat_le from) xs) (filter (nat_le from) xs)) (lt-leb from x (omega (arith, all.0.1, past))) ∙ none_past p from end xs all.1 past

-- from a number on, tests that agree there leave the same
pub agree_behind : (test p q : ℕ → Bool) (xs : List ℕ) → ((x : ℕ) → test x ≡ true → p x ≡ q x) → filter test (filter p xs) ≡ filter test (filter q xs)
agree_behind test p q [] same = refl
agree_behind test p q (x ∷ xs) same =
    let drops : (b : Bool) → test x ≡ false → filter test (cond b (x ∷ filter p xs) (filter p xs)) ≡ filter test (filter p xs) =
    λ b e. elim b as (λ b. filter test (cond b (x ∷ filter p xs) (filter p xs)) ≡ filter test (filter p xs)) [
      | true ↦ ap (λ c. cond c (x ∷ filter test (filter p xs)) (filter test (filter p xs))) e
      | false ↦ refl
    ] in
    let drops_q : (b : Bool) → test x ≡ false → filter test (cond b (x ∷ filter q xs) (filter q xs)) ≡ filter test (filter q xs) =
    λ b e. elim b as (λ b. filter test (cond b (x ∷ filter q xs) (filter q xs)) ≡ filter test (filter q xs)) [
      | true ↦ ap (λ c. cond c (x ∷ filter test (filter q xs)) (filter test (filter q xs))) e
      | false ↦ refl
    ] in
    let on = agree_behind test p q xs same in
    elim (cases_Bool (test x)) [
      | inl e ↦
          ap (λ b. filter test (cond b (x ∷ filter p xs) (filter p xs))) (same x e)
          ∙ (elim (q x) as (λ b. filter test (cond b (x ∷ filter p xs) (filter p xs)) ≡ filter test (cond b (x ∷ filter q xs) (filter q xs))) [
            | true ↦ λ i. cond (test x) (x ∷ on i) (on i)
            | false ↦ on
          ])
      | inr e ↦ drops (p x) e ∙ on ∙ sym (drops_q (q x) e)
    ]

-- all are from 0 on
pub from_zero : (xs : List ℕ) → filter (nat_le 0) xs ≡ xs
from_zero [] = refl
from_zero (x ∷ xs) = ap (λ b. cond b (x ∷ filter (nat_le 0) xs) (filter (nat_le 0) xs)) (le-leb 0 x (omega arith)) ∙ ap (λ ys. x ∷ ys) (from_zero xs)
