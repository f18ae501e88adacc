-- Seats that are given away one after the other, and what is made of them.
use Rattle.std.specs.Option.{unwrap_or}
use Rattle.std.proofs.Common.{◌≡◌, inl, inr, ◌⊎◌, ℕ, zero, suc, ◌+◌, ◌<◌, List, [], ◌∷◌, ◌++◌, length, slice_get, Some, refl, ap, sym, ◌∙◌, subst, arith, append_assoc, length-append}
use Rattle.atomic_table.specs.Seated.{TableId}
use Rattle.nr_slots.specs.Seats.{SlotsView}
use Rattle.nr_combiner.specs.Opened.{AreNamed, AreOfWorkers}
use Rattle.nr_combiner.specs.Shared.{NodeView}
use Rattle.nr_combiner.specs.Workers.{NodeHandleState, fresh_worker, fresh_workers}

-- what holds of each that is left holds of the first
pub first_is : {A : Type 0} (xs ys : List A) (x : A) (f : ℕ → A) (n : ℕ) → xs ≡ x ∷ ys → ((k : ℕ) → k < length xs → slice_get xs k ≡ Some (f (n + k))) → x ≡ f n
first_is xs ys x f n is all =
    let some : 0 < length xs = subst (λ l. 0 < length l) (sym is) (omega arith) in
    let plain : n + 0 ≡ n = omega arith in
    ap (λ p. unwrap_or p x) (ap (λ l. slice_get l 0) (sym is) ∙ all 0 some ∙ ap (λ k. Some (f k)) plain)

-- and of the others
pub others_are : {A : Type 0} (xs ys : List A) (x : A) (f : ℕ → A) (n m : ℕ) → xs ≡ x ∷ ys → m ≡ n + 1 → ((k : ℕ) → k < length xs → slice_get xs k ≡ Some (f (n + k)))
    → (k : ℕ) → k < length ys → slice_get ys k ≡ Some (f (m + k))
others_are xs ys x f n m is more all k near =
    let long : length xs ≡ suc (length ys) = ap length is in
    let same : n + suc k ≡ m + k = omega (arith, more) in
    ap (λ l. slice_get l (suc k)) (sym is) ∙ all (suc k) (omega (arith, long, near)) ∙ ap (λ j. Some (f j)) same

-- so it does where each that is left has a fact of its own
pub first_has : {A : Type 0} (xs ys : List A) (x : A) (P : ℕ → A → Type 0) (n : ℕ) → xs ≡ x ∷ ys → ((k : ℕ) (a : A) → slice_get xs k ≡ Some a → P (n + k) a) → P n x
first_has xs ys x P n is all =
    let plain : n + 0 ≡ n = omega arith in
    subst (λ (k : ℕ). P k x) plain (all 0 x (ap (λ l. slice_get l 0) is))

pub others_have : {A : Type 0} (xs ys : List A) (x : A) (P : ℕ → A → Type 0) (n m : ℕ) → xs ≡ x ∷ ys → m ≡ n + 1 → ((k : ℕ) (a : A) → slice_get xs k ≡ Some a → P (n + k) a)
    → (k : ℕ) (a : A) → slice_get ys k ≡ Some a → P (m + k) a
others_have xs ys x P n m is more all k a at =
    let same : n + suc k ≡ m + k = omega (arith, more) in
    subst (λ (j : ℕ). P j a) same (all (suc k) a (ap (λ l. slice_get l (suc k)) is ∙ at))

-- a list with one more at its end
at_end : {A : Type 0} (xs : List A) (x : A) (k : ℕ) (a : A) → slice_get (xs ++ x ∷ []) k ≡ Some a → (slice_get xs k ≡ Some a) ⊎ ((k ≡ length xs) × (x ≡ a))
at_end [] x zero a e = inr (refl, cc e)
at_end [] x (suc k) a e = absurd (cc e)
at_end (y ∷ ys) x zero a e = inl e
at_end (y ∷ ys) x (suc k) a e = elim (at_end ys x k a e) [ inl h ↦ inl h | inr h ↦ inr (ap suc h.0, h.1) ]

pub one_added : {A : Type 0} (xs ys : List A) (x : A) (P : ℕ → A → Type 0) → ys ≡ xs ++ x ∷ [] → P (length xs) x → ((k : ℕ) (a : A) → slice_get xs k ≡ Some a → P k a)
    → (k : ℕ) (a : A) → slice_get ys k ≡ Some a → P k a
one_added xs ys x P is last all k a e = elim (at_end xs x k a (ap (λ l. slice_get l k) (sym is) ∙ e)) [
  | inl h ↦ all k a h
  | inr h ↦ subst (λ b. P k b) h.1 (subst (λ j. P j x) (sym h.0) last)
]

-- the slots of a node, of so many workers
abbrev pub IsSlotsOf : (ℕ → TableId) → ℕ → ℕ → SlotsView → Type 0
IsSlotsOf name workers node one = (one.id ≡ name node) × (one.workers ≡ workers)

pub all_slots : (name : ℕ → TableId) (workers : ℕ) (slots : List SlotsView) → AreNamed name slots → AreOfWorkers workers slots
    → (k : ℕ) (one : SlotsView) → slice_get slots k ≡ Some one → IsSlotsOf name workers (0 + k) one
all_slots name workers slots named wide k one at =
    let plain : k ≡ 0 + k = omega arith in
    subst (λ (j : ℕ). IsSlotsOf name workers j one) plain (named k one at, wide k one at)

pub none_of : (workers : ℕ) (slots : List SlotsView) → slots ≡ [] → AreOfWorkers workers slots
none_of workers slots is node one at = absurd (cc (sym at ∙ ap (λ l. slice_get l node) is))

-- workers that were made, and those that are to be made, are all
pub one_made : (shared : NodeView) (whole : ℕ) (ws vs : List NodeHandleState) (w : NodeHandleState) (count left : ℕ) → vs ≡ ws ++ w ∷ [] → w ≡ fresh_worker shared (length ws)
    → count ≡ suc left → ws ++ fresh_workers shared (length ws) count ≡ fresh_workers shared 0 whole
    → vs ++ fresh_workers shared (length vs) left ≡ fresh_workers shared 0 whole
one_made shared whole ws vs w count left more is fewer all =
    let long : length vs ≡ suc (length ws) = omega (arith, ap length more, length-append ws (w ∷ [])) in
    ap (λ n. vs ++ fresh_workers shared n left) long
    ∙ ap (λ l. l ++ fresh_workers shared (suc (length ws)) left) more
    ∙ append_assoc ws (w ∷ []) (fresh_workers shared (suc (length ws)) left)
    ∙ ap (λ v. ws ++ v ∷ fresh_workers shared (suc (length ws)) left) is
    ∙ ap (λ n. ws ++ fresh_workers shared (length ws) n) (sym fewer)
    ∙ all
