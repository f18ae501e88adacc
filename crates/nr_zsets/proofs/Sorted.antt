-- Lists in an order, each item once: where an item stands, and what is put in or taken out there.
use Rattle.std.proofs.Common.{◌≡◌, ℕ, zero, suc, ◌+◌, ◌-◌, ◌≤◌, Bool, true, false, cond, not, nat_lt, ◌||◌, T, Some, None, List, [], ◌∷◌, ◌++◌, length, take, drop, map, refl, ap, sym, ◌∙◌, subst, arith, length-append, true≢false}
use Rattle.std.specs.Prelude.{filter, reverse}
use Rattle.std.specs.declared.cmp.Ordering.{Ordering}
use Rattle.std.specs.declared.cmp.Ordering.TheVariants.{Less, Equal, Greater}
use Rattle.std.specs.Ordering.{eq_by_cmp, is_eq, is_lt, ordering_reverse}
use Rattle.std.specs.Cmp.{IsTotalOrder, tied_itself}
use Rattle.std.specs.List.{AllByRecursion, list_any, insert, remove, slice_get, position, position_or_len}
use Rattle.std.specs.FinMap.{IsAntisymmetric}
use Rattle.std.specs.FinMap.Entries as entries
use Rattle.std.proofs.lemmas.List.{take-append-drop, reverse-append}
use Rattle.std.proofs.lemmas.List.Folds.{list_any-append}
use Rattle.std.proofs.lemmas.List.Edits.{remove-append_right}
use Rattle.std.proofs.lemmas.Bool.{lt-ltb, le-ltb}
use Rattle.nr_model.specs.Names.{put}
use Rattle.nr_model.proofs.Ordered.{has, IsOrdered, equal_from}
use Rattle.nr_ordered.specs.Lists.{IsParted}
use Rattle.nr_zsets.proofs.Bools.{first_holds, second_holds, less_is, in_tail, neither, is_false}
use Rattle.nr_ordered.proofs.Places.{same_Some, seam_at}

less_from : (r : Ordering) → T (is_lt r) → r ≡ Less
less_from Less h = refl
less_from Equal h = absurd h
less_from Greater h = absurd h

module _ {A : Type 0} where
  pub all_at : (P : A → Type 0) (xs : List A) (k : ℕ) (x : A) → AllByRecursion P xs → slice_get xs k ≡ Some x → P x
  all_at P [] k x all at = absurd (cc)
  all_at P (y ∷ xs) zero x all at = subst P (same_Some y x at) all.0
  all_at P (y ∷ xs) (suc k) x all at = all_at P xs k x all.1 at

  -- one that passes stands at a place
  pub passing : (p : A → Bool) (xs : List A) → list_any p xs ≡ true → (k : ℕ) × (x : A) × (slice_get xs k ≡ Some x) × (p x ≡ true)
  passing p [] h = absurd (true≢false (sym h))
  passing p (y ∷ xs) h =
      elim (p y) as (λ b. p y ≡ b → (b || list_any p xs) ≡ true → (k : ℕ) × (x : A) × (slice_get (y ∷ xs) k ≡ Some x) × (p x ≡ true)) [
        | true ↦ λ passes _. (0, y, refl, passes)
        | false ↦ λ _ rest. let more = passing p xs rest in (suc more.0, more.1, more.2, more.3)
      ] refl h

  pub passes_at : (p : A → Bool) (xs : List A) (k : ℕ) (x : A) → slice_get xs k ≡ Some x → p x ≡ true → list_any p xs ≡ true
  passes_at p [] k x at passes = absurd (cc)
  passes_at p (y ∷ xs) zero x at passes = ap (λ z. p z || list_any p xs) (same_Some y x at) ∙ ap (λ b. b || list_any p xs) passes
  passes_at p (y ∷ xs) (suc k) x at passes = in_tail (p y) (list_any p xs) (passes_at p xs k x at passes)

  pub length-front : (xs : List A) (k : ℕ) → k ≤ length xs → length (take k xs) ≡ k
  length-front xs zero within = refl
  length-front [] (suc k) within = absurd (omega (arith, within))
  length-front (x ∷ xs) (suc k) within = ap suc (length-front xs k (omega (arith, within)))

  -- what is put in at a place stands there, and taken out again it leaves what was
  pub inserted_at : (xs : List A) (k : ℕ) (x : A) → k ≤ length xs → slice_get (insert xs k x) k ≡ Some x
  inserted_at xs k x within = ap (slice_get (insert xs k x)) (sym (length-front xs k within)) ∙ seam_at (take k xs) x (drop k xs)

  pub removed_again : (xs : List A) (k : ℕ) (x : A) → k ≤ length xs → remove (insert xs k x) k ≡ xs
  removed_again xs k x within =
      let size = length-front xs k within in
      let here : k - k ≡ 0 = omega arith in
      remove-append_right (take k xs) (x ∷ drop k xs) k k size (omega arith)
      ∙ ap (λ i. take k xs ++ remove (x ∷ drop k xs) i) here
      ∙ take-append-drop k xs

  pub any-front : (p : A → Bool) (xs : List A) (k : ℕ) → list_any p xs ≡ false → (list_any p (take k xs) ≡ false) × (list_any p (drop k xs) ≡ false)
  any-front p xs k none = neither (list_any p (take k xs)) (list_any p (drop k xs))
      (sym (list_any-append p (take k xs) (drop k xs)) ∙ ap (list_any p) (take-append-drop k xs) ∙ none)

  pub any-reverse : (p : A → Bool) (xs : List A) → list_any p xs ≡ false → list_any p (reverse xs) ≡ false
  any-reverse p [] none = refl
  any-reverse p (x ∷ xs) none =
      let parts = neither (p x) (list_any p xs) none in
      ap (list_any p) (reverse-append (x ∷ []) xs)
      ∙ list_any-append p (reverse xs) (x ∷ [])
      ∙ ap (λ b. b || (p x || false)) (any-reverse p xs parts.1)
      ∙ ap (λ b. b || false) parts.0

  position_len : (p : A → Bool) (l : List A) (x : A) (r : List A) → list_any p l ≡ false → p x ≡ true → position_or_len p (l ++ x ∷ r) ≡ length l
  position_len p [] x r none passes = ap (λ b. cond (not b) (1 + position_or_len p r) 0) passes
  position_len p (y ∷ l) x r none passes =
      let parts = neither (p y) (list_any p l) none in
      ap (λ b. cond (not b) (1 + position_or_len p (l ++ x ∷ r)) 0) parts.0 ∙ omega (arith, position_len p l x r parts.1 passes)

module _ {K : Type 0} (R : K → K → Ordering) where
  -- each stands before all behind it
  abbrev pub Rises : List K → Type 0
  Rises [] = Unit {0}
  Rises (x ∷ xs) = AllByRecursion (λ y. R x y ≡ Less) xs × Rises xs

  abbrev marked : List K → List (K × Unit {0})
  marked xs = map (λ y. (y, tt)) xs

  all_below : (x : K) (xs : List K) → T (entries.below_all R x (marked xs)) → AllByRecursion (λ y. R x y ≡ Less) xs
  all_below x [] h = tt
  all_below x (y ∷ xs) h = (less_from (R x y) (first_holds _ _ h), all_below x xs (second_holds _ _ h))

  pub rises : (xs : List K) → IsOrdered R xs → Rises xs
  rises [] h = tt
  rises (x ∷ xs) h = (all_below x xs (first_holds _ _ h), rises xs (second_holds _ _ h))

  -- a test that no item passes behind one that fails parts the list, if all items are such that this holds of them
  module _ (P : K → Type 0) (test : K → Bool) (falls : (x y : K) → P x → P y → R x y ≡ Less → test x ≡ false → test y ≡ false) where
    none_behind : (x : K) (xs : List K) → P x → AllByRecursion P xs → AllByRecursion (λ y. R x y ≡ Less) xs → test x ≡ false → filter test xs ≡ []
    none_behind x [] own each all fails = refl
    none_behind x (y ∷ xs) own each all fails =
        ap (λ b. cond b (y ∷ filter test xs) (filter test xs)) (falls x y own each.0 all.0 fails) ∙ none_behind x xs own each.1 all.1 fails

    pub parted_where : (xs : List K) → AllByRecursion P xs → Rises xs → IsParted test xs
    parted_where [] each rise = tt
    parted_where (x ∷ xs) each rise = (none_behind x xs each.0 each.1 rise.0, parted_where xs each.1 rise.1)

  pub all_such : (xs : List K) → AllByRecursion (λ x. Unit {0}) xs
  all_such [] = tt
  all_such (x ∷ xs) = (tt, all_such xs)

  module _ (o : IsTotalOrder R) where
    abbrev pub front : K → K → Bool
    front at x = is_lt (R x at)

    pub front_falls : (at x y : K) → R x y ≡ Less → front at x ≡ false → front at y ≡ false
    front_falls at x y before fails =
        is_false (front at y) (λ passes. true≢false (sym (ap is_lt (o.trans x y at before (less_is (R y at) passes))) ∙ fails))

    pub parted_front : (at : K) (xs : List K) → Rises xs → IsParted (front at) xs
    parted_front at xs rise = parted_where (λ x. Unit {0}) (front at) (λ x y _ _. front_falls at x y) xs (all_such xs) rise

    not_front : (x y : K) (r : Ordering) → R x y ≡ r → front x y ≡ is_lt (ordering_reverse r)
    not_front x y r is = ap is_lt (o.antisymm y x ∙ ap ordering_reverse is)

    -- the place at which an item is put
    pub inserted_put : (x : K) (xs : List K) → Rises xs → has R x xs ≡ false → insert xs (length (filter (front x) xs)) x ≡ put R x xs
    inserted_put x [] rise new = refl
    inserted_put x (y ∷ ys) rise new =
        let F = filter (front x) ys in
        let placed : Ordering → List K = λ r. elim r [ Less ↦ x ∷ y ∷ ys | Equal ↦ y ∷ ys | Greater ↦ y ∷ put R x ys ] in
        let at : (r : Ordering) → R x y ≡ r → insert (y ∷ ys) (length (filter (front x) (y ∷ ys))) x ≡ placed (R x y) =
        λ r. elim r as (λ r. R x y ≡ r → insert (y ∷ ys) (length (filter (front x) (y ∷ ys))) x ≡ placed (R x y)) [
          | Less ↦ λ e.
              let fails = not_front x y Less e in
              ap (λ b. insert (y ∷ ys) (length (cond b (y ∷ F) F)) x) fails
              ∙ ap (λ (f : List K). insert (y ∷ ys) (length f) x) ((parted_front x (y ∷ ys) rise).0 fails)
              ∙ sym (ap placed e)
          | Equal ↦ λ e. absurd (true≢false (sym (ap (λ r. is_eq r || has R x ys) e) ∙ new))
          | Greater ↦ λ e.
              ap (λ b. insert (y ∷ ys) (length (cond b (y ∷ F) F)) x) (not_front x y Greater e)
              ∙ ap (λ zs. y ∷ zs) (inserted_put x ys rise.1 (sym (ap (λ r. is_eq r || has R x ys) e) ∙ new))
              ∙ sym (ap placed e)
        ] in
        at (R x y) refl

    -- an item stands behind all that are before it
    pub place_of_item : (x : K) (xs : List K) (k : ℕ) → Rises xs → slice_get xs k ≡ Some x → length (filter (front x) xs) ≡ k
    place_of_item x [] k rise at = absurd (cc)
    place_of_item x (y ∷ ys) zero rise at =
        let fails : front x y ≡ false = ap (λ z. is_lt (R y z)) (sym (same_Some y x at)) ∙ ap is_lt (tied_itself o y) in
        ap (λ b. length (cond b (y ∷ filter (front x) ys) (filter (front x) ys))) fails ∙ ap length ((parted_front x (y ∷ ys) rise).0 fails)
    place_of_item x (y ∷ ys) (suc k) rise at =
        let passes : front x y ≡ true = ap is_lt (all_at (λ z. R y z ≡ Less) ys k x rise.0 at) in
        ap (λ b. length (cond b (y ∷ filter (front x) ys) (filter (front x) ys))) passes ∙ ap suc (place_of_item x ys k rise.1 at)

    pub has_at : (xs : List K) (k : ℕ) (x : K) → slice_get xs k ≡ Some x → has R x xs ≡ true
    has_at xs k x at = passes_at (eq_by_cmp R x) xs k x at (ap is_eq (tied_itself o x))

    pub length-put : (x : K) (ys : List K) → has R x ys ≡ false → length (put R x ys) ≡ suc (length ys)
    length-put x [] new = refl
    length-put x (y ∷ ys) new =
        let placed : Ordering → List K = λ r. elim r [ Less ↦ x ∷ y ∷ ys | Equal ↦ y ∷ ys | Greater ↦ y ∷ put R x ys ] in
        let at : (r : Ordering) → R x y ≡ r → length (placed (R x y)) ≡ suc (suc (length ys)) =
        λ r. elim r as (λ r. R x y ≡ r → length (placed (R x y)) ≡ suc (suc (length ys))) [
          | Less ↦ λ e. ap (λ r. length (placed r)) e
          | Equal ↦ λ e. absurd (true≢false (sym (ap (λ r. is_eq r || has R x ys) e) ∙ new))
          | Greater ↦ λ e. ap (λ r. length (placed r)) e ∙ ap suc (length-put x ys (sym (ap (λ r. is_eq r || has R x ys) e) ∙ new))
        ] in
        at (R x y) refl

    module _ (exact : IsAntisymmetric R) where
      -- an item that is there stands at its place
      pub stands : (x : K) (xs : List K) → Rises xs → has R x xs ≡ true → slice_get xs (length (filter (front x) xs)) ≡ Some x
      stands x xs rise there =
          let one = passing (eq_by_cmp R x) xs there in
          let same : x ≡ one.1 = exact x one.1 (equal_from (R x one.1) one.3) in
          let at : slice_get xs one.0 ≡ Some x = one.2 ∙ ap Some (sym same) in
          ap (slice_get xs) (place_of_item x xs one.0 rise at) ∙ at

-- the first that passes, from either end
module _ {A : Type 0} (p : A → Bool) where
  pub first_passing : (l : List A) (x : A) (r : List A) → list_any p l ≡ false → p x ≡ true → position p (l ++ x ∷ r) ≡ Some (length l)
  first_passing l x r none passes =
      ap (λ n. cond (nat_lt n (length (l ++ x ∷ r))) (Some n) None) (position_len p l x r none passes)
      ∙ ap (λ b. cond b (Some (length l)) None) (lt-ltb (length l) (length (l ++ x ∷ r)) (omega (arith, length-append l (x ∷ r))))

  none_len : (xs : List A) → list_any p xs ≡ false → position_or_len p xs ≡ length xs
  none_len [] none = refl
  none_len (x ∷ xs) none =
      let parts = neither (p x) (list_any p xs) none in
      ap (λ b. cond (not b) (1 + position_or_len p xs) 0) parts.0 ∙ omega (arith, none_len xs parts.1)

  pub no_position : (xs : List A) → list_any p xs ≡ false → position p xs ≡ None
  no_position xs none =
      ap (λ n. cond (nat_lt n (length xs)) (Some n) None) (none_len xs none)
      ∙ ap (λ b. cond b (Some (length xs)) None) (le-ltb (length xs) (length xs) (omega arith))
