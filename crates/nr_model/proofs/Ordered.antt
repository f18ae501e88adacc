-- Lists in an order, each item once: two with the same items are equal.
use Rattle.std.proofs.Common.{◌≡◌, Bool, true, false, cond, List, [], ◌∷◌, map, refl, ap, sym, ◌∙◌, subst}
use Rattle.std.specs.Prelude.{◌&&◌, ◌||◌, filter, flat_map, fold, Option, Some, None, is_some, T}
use Rattle.std.specs.List.{list_any}
use Rattle.std.specs.declared.cmp.Ordering.{Ordering}
use Rattle.std.specs.declared.cmp.Ordering.TheVariants.{Less, Equal, Greater}
use Rattle.std.specs.Ordering.{eq_by_cmp, is_eq}
use Rattle.std.specs.Cmp.{IsTotalOrder}
use Rattle.std.specs.FinMap.{IsAntisymmetric}
use Rattle.std.specs.FinMap.Entries as entries
use Rattle.std.proofs.lemmas.List.Folds.{list_any-append}
use Rattle.nr_model.specs.Names.{put, in_order}

-- an item stands in a list
abbrev pub has : {K : Type 0} → (K → K → Ordering) → K → List K → Bool
has R q xs = list_any (eq_by_cmp R q) xs

-- as entries with nothing at each key
abbrev marked : {K : Type 0} → List K → List (K × Unit {0})
marked xs = map (λ x. (x, tt)) xs

-- in order, and each once
abbrev pub IsOrdered : {K : Type 0} → (K → K → Ordering) → List K → Type 0
IsOrdered R xs = T (entries.is_sorted R (marked xs))

unmarked : {K : Type 0} (xs : List K) → map (λ e. e.0) (marked xs) ≡ xs
unmarked [] = refl
unmarked (x ∷ xs) = ap (λ ys. x ∷ ys) (unmarked xs)

has-marked : {K : Type 0} (R : K → K → Ordering) (q : K) (xs : List K) → has R q xs ≡ is_some (entries.find R q (marked xs))
has-marked R q xs = ap (has R q) (sym (unmarked xs)) ∙ sym (entries.is_some-find R q (marked xs))

some_mark : (o : Option (Unit {0})) → o ≡ cond (is_some o) (Some tt) None
some_mark None = refl
some_mark (Some u) = refl

some_or : (b : Bool) (o : Option (Unit {0})) → is_some (cond b (Some tt) o) ≡ (b || is_some o)
some_or true o = refl
some_or false o = refl

or_left_swap : (a b c : Bool) → (a || (b || c)) ≡ (b || (a || c))
or_left_swap true true c = refl
or_left_swap true false c = refl
or_left_swap false b c = refl

pub or_false : (a : Bool) → (a || false) ≡ a
or_false true = refl
or_false false = refl

pub or_true : (a : Bool) → (a || true) ≡ true
or_true true = refl
or_true false = refl

pub or_assoc : (a b c : Bool) → ((a || b) || c) ≡ (a || (b || c))
or_assoc true b c = refl
or_assoc false b c = refl

pub has-flat_map : {A K : Type 0} (R : K → K → Ordering) (q : K) (f : A → List K) (xs : List A) → has R q (flat_map f xs) ≡ list_any (λ x. has R q (f x)) xs
has-flat_map R q f [] = refl
has-flat_map R q f (x ∷ xs) = list_any-append (eq_by_cmp R q) (f x) (flat_map f xs) ∙ ap (λ b. has R q (f x) || b) (has-flat_map R q f xs)

marked-filter : {K : Type 0} (R : K → K → Ordering) (p : K → Bool) (xs : List K) → marked (filter p xs) ≡ entries.where_key R p (marked xs)
marked-filter R p [] = refl
marked-filter R p (x ∷ xs) =
    let more = marked-filter R p xs in
    elim (p x) as (λ b. marked (cond b (x ∷ filter p xs) (filter p xs)) ≡ cond b ((x, tt) ∷ entries.where_key R p (marked xs)) (entries.where_key R p (marked xs))) [
      | true ↦ ap (λ es. (x, tt) ∷ es) more
      | false ↦ more
    ]

pub ordered-filter : {K : Type 0} (R : K → K → Ordering) (p : K → Bool) (xs : List K) → IsOrdered R xs → IsOrdered R (filter p xs)
ordered-filter R p xs h = subst (λ es. T (entries.is_sorted R es)) (sym (marked-filter R p xs)) (entries.is_sorted-where_key R p (marked xs) h)

pub equal_from : (r : Ordering) → is_eq r ≡ true → r ≡ Equal
equal_from Less h = absurd (cc)
equal_from Equal h = refl
equal_from Greater h = absurd (cc)

no_more : (a : Bool) → false ≡ (a && false)
no_more true = refl
no_more false = refl

module _ {K : Type 0} (R : K → K → Ordering) where
  here : (keeps wanted more : Bool) (x : K) (left : List K) (q : K) → eq_by_cmp R q x ≡ true → wanted ≡ keeps → has R q left ≡ (wanted && more)
      → has R q (cond keeps (x ∷ left) left) ≡ (wanted && (eq_by_cmp R q x || more))
  here true true more x left q e same is = rw e refl
  here true false more x left q e same is = absurd (cc)
  here false true more x left q e same is = absurd (cc)
  here false false more x left q e same is = is

  there : (keeps wanted more : Bool) (x : K) (left : List K) (q : K) → eq_by_cmp R q x ≡ false → has R q left ≡ (wanted && more)
      → has R q (cond keeps (x ∷ left) left) ≡ (wanted && (eq_by_cmp R q x || more))
  there true wanted more x left q e is = rw e is
  there false wanted more x left q e is = rw e is

module _ {K : Type 0} (R : K → K → Ordering) (o : IsTotalOrder R) where
  marked-put : (x : K) (ys : List K) → marked (put R x ys) ≡ entries.put R x tt (marked ys)
  marked-put x [] = refl
  marked-put x (y ∷ ys) =
      let placed : Ordering → List (K × Unit {0}) = λ r. marked (elim r [ Less ↦ x ∷ y ∷ ys | Equal ↦ y ∷ ys | Greater ↦ y ∷ put R x ys ]) in
      let at : (r : Ordering) → R x y ≡ r → marked (put R x (y ∷ ys)) ≡ entries.put R x tt (marked (y ∷ ys)) =
      λ r. elim r as (λ r. R x y ≡ r → marked (put R x (y ∷ ys)) ≡ entries.put R x tt (marked (y ∷ ys))) [
        | Less ↦ λ e. rw e (ap placed e)
        | Equal ↦ λ e. rw e (ap placed e)
        | Greater ↦ λ e. rw e (ap placed e ∙ ap (λ es. (y, tt) ∷ es) (marked-put x ys))
      ] in
      at (R x y) refl

  pub ordered-put : (x : K) (ys : List K) → IsOrdered R ys → IsOrdered R (put R x ys)
  ordered-put x ys h = subst (λ es. T (entries.is_sorted R es)) (sym (marked-put x ys)) (entries.is_sorted-put R o x tt (marked ys) h)

  pub has-put : (q x : K) (ys : List K) → has R q (put R x ys) ≡ (eq_by_cmp R q x || has R q ys)
  has-put q x ys =
      has-marked R q (put R x ys)
      ∙ ap (λ es. is_some (entries.find R q es)) (marked-put x ys)
      ∙ ap is_some (entries.find-put R o q x tt (marked ys))
      ∙ some_or (eq_by_cmp R q x) (entries.find R q (marked ys))
      ∙ ap (λ b. eq_by_cmp R q x || b) (sym (has-marked R q ys))

  pub ordered-puts : (xs ys : List K) → IsOrdered R ys → IsOrdered R (fold (λ zs x. put R x zs) ys xs)
  ordered-puts [] ys h = h
  ordered-puts (x ∷ xs) ys h = ordered-puts xs (put R x ys) (ordered-put x ys h)

  pub has-puts : (q : K) (xs ys : List K) → has R q (fold (λ zs x. put R x zs) ys xs) ≡ (has R q xs || has R q ys)
  has-puts q [] ys = refl
  has-puts q (x ∷ xs) ys =
      has-puts q xs (put R x ys) ∙ ap (λ b. has R q xs || b) (has-put q x ys)
      ∙ or_left_swap (has R q xs) (eq_by_cmp R q x) (has R q ys) ∙ sym (or_assoc (eq_by_cmp R q x) (has R q xs) (has R q ys))

  pub ordered-in_order : (xs : List K) → IsOrdered R (in_order R xs)
  ordered-in_order xs = ordered-puts xs [] tt

  pub has-in_order : (q : K) (xs : List K) → has R q (in_order R xs) ≡ has R q xs
  has-in_order q xs = has-puts q xs [] ∙ or_false (has R q xs)

  module _ (exact : IsAntisymmetric R) where
    pub tied-is : (x y : K) → eq_by_cmp R x y ≡ true → x ≡ y
    tied-is x y h = exact x y (equal_from (R x y) h)

    pub has-filter : (q : K) (p : K → Bool) (xs : List K) → has R q (filter p xs) ≡ (p q && has R q xs)
    has-filter q p [] = no_more (p q)
    has-filter q p (x ∷ xs) =
        let more = has-filter q p xs in
        let at : (own : Bool) → eq_by_cmp R q x ≡ own → has R q (filter p (x ∷ xs)) ≡ (p q && has R q (x ∷ xs)) =
        λ own. elim own as (λ own. eq_by_cmp R q x ≡ own → has R q (filter p (x ∷ xs)) ≡ (p q && has R q (x ∷ xs))) [
          | true ↦ λ e. here R (p x) (p q) (has R q xs) x (filter p xs) q e (ap p (tied-is q x e)) more
          | false ↦ λ e. there R (p x) (p q) (has R q xs) x (filter p xs) q e more
        ] in
        at (eq_by_cmp R q x) refl

    pub same_ordered : (xs ys : List K) → IsOrdered R xs → IsOrdered R ys → ((q : K) → has R q xs ≡ has R q ys) → xs ≡ ys
    same_ordered xs ys g h is =
        let found : (q : K) → entries.find R q (marked xs) ≡ entries.find R q (marked ys) =
        λ q. some_mark (entries.find R q (marked xs))
        ∙ ap (λ b. cond b (Some tt) None) (sym (has-marked R q xs) ∙ is q ∙ has-marked R q ys)
        ∙ sym (some_mark (entries.find R q (marked ys))) in
        sym (unmarked xs) ∙ ap (map (λ e. e.0)) (entries.same_entries R o exact (marked xs) (marked ys) g h found) ∙ unmarked ys
