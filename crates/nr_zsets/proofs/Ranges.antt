-- Members between bounds: which of them stand behind one another, and from where to where.
use Rattle.std.proofs.Common.{◌≡◌, ℕ, ℤ, zero, suc, ◌+◌, ◌-◌, ◌≤◌, ◌<◌, min, ◌⊎◌, inl, inr, Bool, true, false, cond, not, ◌&&◌, Option, Some, None, List, [], ◌∷◌, ◌++◌, length, take, drop, refl, ap, sym, ◌∙◌, subst, arith, append-nil, append_assoc, length-drop, true≢false}
use Rattle.std.specs.Prelude.{filter, reverse}
use Rattle.std.specs.declared.cmp.Ordering.{Ordering}
use Rattle.std.specs.declared.cmp.Ordering.TheVariants.{Less, Equal, Greater}
use Rattle.std.specs.Ordering.{is_lt, int_cmp, ordering_then, ordering_reverse}
use Rattle.std.specs.Cmp.{IsTotalOrder, int_cmp_total, alike_right, tied_itself}
use Rattle.std.specs.Cmp.Lexicographic.{nat_list_cmp_total}
use Rattle.std.specs.List.{AllByRecursion, slice_get}
use Rattle.std.specs.Option.{option_to_list}
use Rattle.std.proofs.lemmas.List.{drop_all, take_all, reverse-append}
use Rattle.std.proofs.lemmas.List.Filters.{length-filter_both}
use Rattle.std.proofs.lemmas.Option.{slice_get_within}
use Rattle.std.proofs.lemmas.List.Elements.{filter-append}
use Rattle.std.proofs.lemmas.Map.Lookups.{exact_signed}
use Rattle.nr_model.specs.Keyspace.{byte_cmp}
use Rattle.nr_model.specs.SortedSets as model
use Rattle.nr_model.specs.SortedSets.{Scored, Scores, scored_cmp, ranked, Bound, Lowest, Highest, Including, Excluding, Bounds, ByScore, ByBytes, is_between, between, told_in}
use Rattle.nr_model.specs.declared.command.Direction.{Direction}
use Rattle.nr_model.specs.declared.command.Direction.TheVariants.{Ascending, Descending}
use Rattle.nr_zbounds.specs.Ranges.{is_from, is_up_to}
use Rattle.nr_ordered.specs.Lists.{IsParted, part, told_place}
use Rattle.nr_ordered.proofs.Places.{same_Some}
use Rattle.nr_ordered.proofs.Parts.{length-told, told_at, got}
use Rattle.nr_zsets.specs.Lists.{at_most, fewest, told_ends}
use Rattle.nr_zsets.specs.Scores.{HaveOneScore, StandTogether, held, held_at, before}
use Rattle.nr_zsets.proofs.Bools.{less_is, is_false, twice, untwice, not_not}
use Rattle.nr_zsets.proofs.Parts.{drop_at, fewest_is, take_none, window, told_part}
use Rattle.nr_zsets.proofs.Sorted.{Rises, parted_where, all_such, all_at}
use Rattle.nr_zsets.proofs.Ranked.{rising}

-- those that pass one test and not another, where fronts pass both
module _ {A : Type 0} (f g : A → Bool) where
  none_to : (from : ℕ) (xs : List A) → part from 0 xs ≡ []
  none_to zero xs = refl
  none_to (suc from) xs = refl

  passing_is : (xs : List A) → IsParted f xs → IsParted g xs → filter (λ x. not (f x) && g x) xs ≡ part (length (filter f xs)) (length (filter g xs)) xs
  passing_is [] first second = refl
  passing_is (x ∷ xs) first second =
      let F = filter f xs in
      let G = filter g xs in
      let H = filter (λ x. not (f x) && g x) xs in
      let more = passing_is xs first.1 second.1 in
      let goal : Bool → Bool → Type 0 = λ a b. cond (not a && b) (x ∷ H) H ≡ part (length (cond a (x ∷ F) F)) (length (cond b (x ∷ G) G)) (x ∷ xs) in
      elim (f x) as (λ a. f x ≡ a → goal a (g x)) [
        | true ↦ λ fx. elim (g x) as (λ b. g x ≡ b → goal true b) [
          | true ↦ λ gx. more
          | false ↦ λ gx.
              let none = second.0 gx in
              more ∙ ap (λ (ys : List A). part (length F) (length ys) xs) none ∙ none_to (length F) xs
              ∙ sym (ap (λ (ys : List A). part (suc (length F)) (length ys) (x ∷ xs)) none)
        ] refl
        | false ↦ λ fx.
            let none_f = first.0 fx in
            elim (g x) as (λ b. g x ≡ b → goal false b) [
              | true ↦ λ gx.
                  ap (λ ys. x ∷ ys) (more ∙ ap (λ (ys : List A). part (length ys) (length G) xs) none_f)
                  ∙ sym (ap (λ (ys : List A). part (length ys) (suc (length G)) (x ∷ xs)) none_f)
              | false ↦ λ gx.
                  let none_g = second.0 gx in
                  more ∙ ap (λ (ys : List A). part (length F) (length ys) xs) none_g ∙ none_to (length F) xs
                  ∙ sym (ap (λ (ys : List A). part (length F) (length ys) (x ∷ xs)) none_g ∙ none_to (length F) (x ∷ xs))
            ] refl
      ] refl

-- a bound lets in all behind one that it lets in, or all before it
module _ {A : Type 0} (R : A → A → Ordering) (o : IsTotalOrder R) where
  abbrev pub NotAfter : A → A → Type 0
  NotAfter a b = (R a b ≡ Less) ⊎ (R a b ≡ Equal)

  below : (a b c : A) → NotAfter a b → R b c ≡ Less → R a c ≡ Less
  below a b c (inl before) less = o.trans a b c before less
  below a b c (inr same) less = o.congr a b c same ∙ less

  above : (a b c : A) → R c a ≡ Less → NotAfter a b → R c b ≡ Less
  above a b c less (inl before) = o.trans c a b less before
  above a b c less (inr same) = sym (alike_right o a b c same) ∙ less

  pub from_falls : (low : Bound A) (a b : A) → NotAfter a b → not (model.is_from R low a) ≡ false → not (model.is_from R low b) ≡ false
  from_falls Lowest a b order h = refl
  from_falls Highest a b order h = absurd (true≢false h)
  from_falls (Including low) a b order h =
      is_false _ (λ out. true≢false (sym (ap (λ r. not (not (is_lt r))) (below a b low order (less_is _ (twice _ out)))) ∙ h))
  from_falls (Excluding low) a b order h =
      ap (λ r. not (is_lt r)) (above a b low (less_is _ (untwice _ h)) order)

  pub up_to_falls : (high : Bound A) (a b : A) → NotAfter a b → model.is_up_to R high a ≡ false → model.is_up_to R high b ≡ false
  up_to_falls Lowest a b order h = refl
  up_to_falls Highest a b order h = absurd (true≢false h)
  up_to_falls (Including high) a b order h = ap (λ r. not (is_lt r)) (above a b high (less_is _ (untwice _ h)) order)
  up_to_falls (Excluding high) a b order h =
      is_false _ (λ inside. true≢false (sym (ap is_lt (below a b high order (less_is _ inside))) ∙ h))

first_not_after : (r s : Ordering) → ordering_then r s ≡ Less → (r ≡ Less) ⊎ (r ≡ Equal)
first_not_after Less s h = inl refl
first_not_after Equal s h = inr refl
first_not_after Greater s h = absurd (cc)

score_order : (x y : Scored) → scored_cmp x y ≡ Less → NotAfter int_cmp int_cmp_total x.1 y.1
score_order x y before = first_not_after (int_cmp x.1 y.1) (byte_cmp x.0 y.0) before

then_equal : (r s : Ordering) → r ≡ Equal → ordering_then r s ≡ Less → s ≡ Less
then_equal r s same h = sym (ap (λ t. ordering_then t s) same) ∙ h

between_is : (bounds : Bounds) (x : Scored) → is_between bounds x ≡ (not (not (is_from bounds x)) && is_up_to bounds x)
between_is (ByScore min max) x = ap (λ b. b && model.is_up_to int_cmp max x.1) (sym (not_not (model.is_from int_cmp min x.1)))
between_is (ByBytes min max) x = ap (λ b. b && model.is_up_to byte_cmp max x.0) (sym (not_not (model.is_from byte_cmp min x.0)))

filter_alike : {A : Type 0} (f g : A → Bool) → ((x : A) → f x ≡ g x) → (xs : List A) → filter f xs ≡ filter g xs
filter_alike f g alike [] = refl
filter_alike f g alike (x ∷ xs) =
    (λ i. cond (alike x i) (x ∷ filter f xs) (filter f xs)) ∙ ap (λ ys. cond (g x) (x ∷ ys) ys) (filter_alike f g alike xs)

-- where all have one score, the bytes alone say the order
same_score : (score : ℤ) (x y : Scored) → x.1 ≡ score → y.1 ≡ score → scored_cmp x y ≡ Less → NotAfter byte_cmp nat_list_cmp_total x.0 y.0
same_score score x y own other before =
    let tied : int_cmp x.1 y.1 ≡ Equal = (λ i. int_cmp (own i) (other i)) ∙ tied_itself int_cmp_total score in
    inl (then_equal (int_cmp x.1 y.1) (byte_cmp x.0 y.0) tied before)

parted_below : (bounds : Bounds) (xs : List Scored) → Rises scored_cmp xs → StandTogether bounds xs → IsParted (λ x. not (is_from bounds x)) xs
parted_below (ByScore min max) xs rise together =
    parted_where scored_cmp (λ x. Unit {0}) (λ x. not (model.is_from int_cmp min x.1))
    (λ x y _ _ before. from_falls int_cmp int_cmp_total min x.1 y.1 (score_order x y before)) xs (all_such scored_cmp xs) rise
parted_below (ByBytes min max) [] rise together = tt
parted_below (ByBytes min max) (z ∷ xs) rise together =
    parted_where scored_cmp (λ x. x.1 ≡ z.1) (λ x. not (model.is_from byte_cmp min x.0))
    (λ x y own other before. from_falls byte_cmp nat_list_cmp_total min x.0 y.0 (same_score z.1 x y own other before)) (z ∷ xs) (refl, together) rise

parted_above : (bounds : Bounds) (xs : List Scored) → Rises scored_cmp xs → StandTogether bounds xs → IsParted (is_up_to bounds) xs
parted_above (ByScore min max) xs rise together =
    parted_where scored_cmp (λ x. Unit {0}) (λ x. model.is_up_to int_cmp max x.1)
    (λ x y _ _ before. up_to_falls int_cmp int_cmp_total max x.1 y.1 (score_order x y before)) xs (all_such scored_cmp xs) rise
parted_above (ByBytes min max) [] rise together = tt
parted_above (ByBytes min max) (z ∷ xs) rise together =
    parted_where scored_cmp (λ x. x.1 ≡ z.1) (λ x. model.is_up_to byte_cmp max x.0)
    (λ x y own other before. up_to_falls byte_cmp nat_list_cmp_total max x.0 y.0 (same_score z.1 x y own other before)) (z ∷ xs) (refl, together) rise

-- those between bounds, from the place of the one cut to that of the other
pub between_part : (bounds : Bounds) (xs : List Scored) (scores : Scores) (low high : ℕ) → xs ≡ ranked scores → StandTogether bounds (ranked scores)
    → (IsParted (λ x. not (is_from bounds x)) xs → low ≡ length (filter (λ x. not (is_from bounds x)) xs))
    → (IsParted (is_up_to bounds) xs → high ≡ length (filter (is_up_to bounds) xs))
    → between bounds (ranked scores) ≡ part low high (ranked scores)
between_part bounds xs scores low high is together found_low found_high =
    let rise = rising scores in
    let first = parted_below bounds (ranked scores) rise together in
    let second = parted_above bounds (ranked scores) rise together in
    let low_is = found_low (subst (IsParted (λ x. not (is_from bounds x))) (sym is) first) ∙ ap (λ ys. length (filter (λ x. not (is_from bounds x)) ys)) is in
    let high_is = found_high (subst (IsParted (is_up_to bounds)) (sym is) second) ∙ ap (λ ys. length (filter (is_up_to bounds) ys)) is in
    filter_alike (is_between bounds) (λ x. not (not (is_from bounds x)) && is_up_to bounds x) (between_is bounds) (ranked scores)
    ∙ passing_is (λ x. not (is_from bounds x)) (is_up_to bounds) (ranked scores) first second
    ∙ sym (λ i. part (low_is i) (high_is i) (ranked scores))

-- none has a greater score than the last
not_after_last : (xs : List Scored) (k : ℕ) (last : Scored) → Rises scored_cmp xs → slice_get xs k ≡ Some last → suc k ≡ length xs
    → AllByRecursion (λ y. NotAfter int_cmp int_cmp_total y.1 last.1) xs
not_after_last [] k last rise at end = tt
not_after_last (y ∷ []) zero last rise at end = (inr (ap (λ (z : Scored). int_cmp y.1 z.1) (sym (same_Some y last at)) ∙ tied_itself int_cmp_total y.1), tt)
not_after_last (y ∷ []) (suc k) last rise at end = absurd (cc)
not_after_last (y ∷ z ∷ xs) zero last rise at end = absurd (omega (arith, end))
not_after_last (y ∷ z ∷ xs) (suc k) last rise at end =
    (score_order y last (all_at (λ w. scored_cmp y w ≡ Less) (z ∷ xs) k last rise.0 at), not_after_last (z ∷ xs) k last rise.1 at (omega (arith, end)))

tied_between : (a b : ℤ) → NotAfter int_cmp int_cmp_total a b → NotAfter int_cmp int_cmp_total b a → b ≡ a
tied_between a b (inl before) (inl behind) = absurd (true≢false (sym (ap is_lt before) ∙ ap is_lt (int_cmp_total.antisymm a b ∙ ap ordering_reverse behind)))
tied_between a b (inl before) (inr same) = exact_signed b a same
tied_between a b (inr same) order = sym (exact_signed a b same)

all_tied : (first : Scored) (xs : List Scored) → AllByRecursion (λ y. scored_cmp first y ≡ Less) xs
    → AllByRecursion (λ y. NotAfter int_cmp int_cmp_total y.1 first.1) xs → AllByRecursion (λ y. y.1 ≡ first.1) xs
all_tied first [] rise low = tt
all_tied first (y ∷ xs) rise low = (tied_between first.1 y.1 (score_order first y rise.0) low.0, all_tied first xs rise.1 low.1)

-- where the last has the score of the first, all have it
pub one_score : (scores : Scores) (k : ℕ) (first last : Scored) → slice_get (ranked scores) 0 ≡ Some first → slice_get (ranked scores) k ≡ Some last
    → suc k ≡ length (ranked scores) → first.1 ≡ last.1 → HaveOneScore (ranked scores)
one_score scores k first last at_first at_last end same = one_of (ranked scores) (rising scores) at_first at_last end where
  one_of : (xs : List Scored) → Rises scored_cmp xs → slice_get xs 0 ≡ Some first → slice_get xs k ≡ Some last → suc k ≡ length xs → HaveOneScore xs
  one_of [] rise at_first at_last end = tt
  one_of (x ∷ xs) rise at_first at_last end =
      let score : last.1 ≡ x.1 = sym same ∙ ap (λ (z : Scored). z.1) (sym (same_Some x first at_first)) in
      let low = not_after_last (x ∷ xs) k last rise at_last end in
      all_tied x xs rise.0 (subst (λ s. AllByRecursion (λ y. NotAfter int_cmp int_cmp_total y.1 s) xs) score low.1)

pub no_score : (xs : List Scored) → slice_get xs 0 ≡ None → HaveOneScore xs
no_score [] none = tt
no_score (x ∷ xs) none = absurd (cc)

-- where all have one score, the first and another have it
pub score_shared : (xs : List Scored) (k : ℕ) (first last : Scored) → slice_get xs 0 ≡ Some first → slice_get xs k ≡ Some last → HaveOneScore xs → first.1 ≡ last.1
score_shared [] k first last at_first at_last one = absurd (cc)
score_shared (x ∷ xs) zero first last at_first at_last one = ap (λ (z : Scored). z.1) (sym (same_Some x first at_first) ∙ same_Some x last at_last)
score_shared (x ∷ xs) (suc k) first last at_first at_last one =
    ap (λ (z : Scored). z.1) (sym (same_Some x first at_first)) ∙ sym (all_at (λ y. y.1 ≡ x.1) xs k last one at_last)

-- what is left to look at from a place on, by what stands there
pub next_between : (bounds : Bounds) (xs : List Scored) (place : ℕ) → place < length xs
    → between bounds (drop place xs) ≡ option_to_list (held_at bounds place xs) ++ between bounds (drop (place + 1) xs)
next_between bounds xs place low =
    let one = got xs place low in
    let more : suc place ≡ place + 1 = omega arith in
    ap (between bounds) (drop_at xs place one.0 one.1)
    ∙ elim (is_between bounds one.0) as (λ b. cond b (one.0 ∷ between bounds (drop (suc place) xs)) (between bounds (drop (suc place) xs))
    ≡ option_to_list (cond b (Some one.0) None) ++ between bounds (drop (suc place) xs)) [ true ↦ refl | false ↦ refl ]
    ∙ (λ i. option_to_list (held bounds (sym one.1 i)) ++ between bounds (drop (more i) xs))

pub held_there : (bounds : Bounds) (xs ys : List Scored) (place : ℕ) (x : Scored) (holds : Bool) → xs ≡ ys → Some x ≡ slice_get xs place
    → holds ≡ is_between bounds x → held_at bounds place ys ≡ cond holds (Some x) None
held_there bounds xs ys place x holds is at own =
    ap (λ zs. held_at bounds place zs) (sym is) ∙ ap (held bounds) (sym at) ∙ ap (λ b. cond b (Some x) None) (sym own)

told_between : (direction : Direction) (bounds : Bounds) (xs : List Scored) → told_in direction (between bounds xs) ≡ between bounds (told_in direction xs)
told_between Ascending bounds xs = refl
told_between Descending bounds xs = reversed xs where
  reversed : (xs : List Scored) → reverse (between bounds xs) ≡ between bounds (reverse xs)
  reversed [] = refl
  reversed (x ∷ xs) =
      elim (is_between bounds x) as (λ b. reverse (cond b (x ∷ between bounds xs) (between bounds xs)) ≡ between bounds (reverse xs) ++ cond b (x ∷ []) []) [
        | true ↦ reverse-append (x ∷ []) (between bounds xs) ∙ ap (λ ys. ys ++ x ∷ []) (reversed xs)
        | false ↦ reversed xs ∙ sym (append-nil (between bounds (reverse xs)))
      ]
      ∙ sym (ap (between bounds) (reverse-append (x ∷ []) xs) ∙ filter-append (is_between bounds) (reverse xs) (x ∷ []))

length_between : (bounds : Bounds) (xs : List Scored) → length (between bounds xs) ≤ length xs
length_between bounds xs = omega (arith, length-filter_both (is_between bounds) (λ y. not (is_between bounds y)) (λ y. refl) xs)

-- what was lent and what is left to lend are all
pub sift_begins : (direction : Direction) (bounds : Bounds) (offset left len : ℕ) (count : Option ℕ) (xs : List Scored) → len ≡ length xs → left ≡ fewest count len
    → take left (drop offset (between bounds (drop 0 (told_in direction xs)))) ≡ at_most count (drop offset (told_in direction (between bounds xs)))
sift_begins direction bounds offset left len count xs size is =
    let ys = drop offset (told_in direction (between bounds xs)) in
    let short : length ys ≤ len =
    omega (arith, size, length-drop offset (told_in direction (between bounds xs)), length-told direction (between bounds xs), length_between bounds xs) in
    ap (λ n. take n (drop offset (between bounds (told_in direction xs)))) is
    ∙ ap (λ zs. take (fewest count len) (drop offset zs)) (sym (told_between direction bounds xs))
    ∙ sym (fewest_is count len ys)
    ∙ ap (at_most count) (take_all len ys short)

module _ (direction : Direction) (bounds : Bounds) (xs : List Scored) (place len : ℕ) (size : len ≡ length xs) (low : place < len) where
  told_held : held_at bounds (told_place direction place len) xs ≡ held_at bounds place (told_in direction xs)
  told_held = ap (held bounds) (told_at direction place len xs size low)

  told_low : place < length (told_in direction xs)
  told_low = rw (length-told direction xs) (omega (arith, low, size))

  pub sift_skips : None ≡ held_at bounds (told_place direction place len) xs
      → between bounds (drop (place + 1) (told_in direction xs)) ≡ between bounds (drop place (told_in direction xs))
  sift_skips none =
      sym (next_between bounds (told_in direction xs) place told_low
      ∙ ap (λ o. option_to_list o ++ between bounds (drop (place + 1) (told_in direction xs))) (sym (none ∙ told_held)))

  pub sift_finds : (x : Scored) → Some x ≡ held_at bounds (told_place direction place len) xs
      → between bounds (drop place (told_in direction xs)) ≡ x ∷ between bounds (drop (place + 1) (told_in direction xs))
  sift_finds x found =
      next_between bounds (told_in direction xs) place told_low
      ∙ ap (λ o. option_to_list o ++ between bounds (drop (place + 1) (told_in direction xs))) (sym (found ∙ told_held))

module _ {A : Type 0} where
  pub sift_passes : (lent : List A) (left passed : ℕ) (x : A) (rest all whole : List A) → 0 < passed → all ≡ x ∷ rest
      → lent ++ take left (drop passed all) ≡ whole → lent ++ take left (drop (passed - 1) rest) ≡ whole
  sift_passes lent left passed x rest all whole some is so_far =
      let one : passed ≡ suc (passed - 1) = omega (arith, some) in
      sym (ap (λ ys. lent ++ take left ys) ((λ i. drop (one i) (is i)))) ∙ so_far

  pub sift_lends : (lent new : List A) (left passed : ℕ) (x : A) (rest all whole : List A) → passed ≤ 0 → 0 < left → all ≡ x ∷ rest → new ≡ lent ++ x ∷ []
      → lent ++ take left (drop passed all) ≡ whole → new ++ take (left - 1) (drop passed rest) ≡ whole
  sift_lends lent new left passed x rest all whole none some is more so_far =
      let one : left ≡ suc (left - 1) = omega (arith, some) in
      let zero : passed ≡ 0 = omega (arith, none) in
      (λ i. more i ++ take (left - 1) (drop (zero i) rest))
      ∙ append_assoc lent (x ∷ []) (take (left - 1) rest)
      ∙ sym (λ i. lent ++ take (one i) (drop (zero i) (is i)))
      ∙ so_far

  pub sift_full : (lent : List A) (left passed : ℕ) (all whole : List A) → left ≡ 0 → lent ++ take left (drop passed all) ≡ whole → lent ≡ whole
  sift_full lent left passed all whole none so_far =
      sym (append-nil lent) ∙ ap (λ n. lent ++ take n (drop passed all)) (sym none) ∙ so_far

pub sift_ends : (lent : List Scored) (left passed place : ℕ) (bounds : Bounds) (ys whole : List Scored) → length ys ≤ place
    → lent ++ take left (drop passed (between bounds (drop place ys))) ≡ whole → lent ≡ whole
sift_ends lent left passed place bounds ys whole past so_far =
    sym (append-nil lent)
    ∙ ap (λ zs. lent ++ zs) (sym (ap (λ zs. take left (drop passed (between bounds zs))) (drop_all place ys past) ∙ nothing left passed))
    ∙ so_far
  where
    nothing : (n m : ℕ) → take {A = Scored} n (drop m []) ≡ []
    nothing n zero = take_none n
    nothing n (suc m) = take_none n

pub lent_between : (direction : Direction) (bounds : Bounds) (xs : List Scored) (low high len offset from most : ℕ) (count : Option ℕ) (ends : ℕ × ℕ)
    → between bounds xs ≡ part low high xs → len ≡ length xs → high ≤ len → ends ≡ told_ends direction low high len
    → from ≡ ends.0 + min offset (ends.1 - ends.0) → most ≡ fewest count (ends.1 - from)
    → part from (from + most) (told_in direction xs) ≡ at_most count (drop offset (told_in direction (between bounds xs)))
lent_between direction bounds xs low high len offset from most count ends is size within told start few =
    window ends.0 ends.1 offset from most count (told_in direction xs) start few
    ∙ ap (λ (e : ℕ × ℕ). at_most count (drop offset (part e.0 e.1 (told_in direction xs)))) told
    ∙ ap (λ ys. at_most count (drop offset ys)) (told_part direction low high len xs size within ∙ ap (told_in direction) (sym is))

pub last_place : (xs ys : List Scored) (len : ℕ) → xs ≡ ys → len ≡ length xs → (x : Scored) → Some x ≡ slice_get xs 0 → suc (len - 1) ≡ length ys
last_place xs ys len is size x at =
    let some : 0 < length xs = slice_get_within xs 0 x (sym at) in
    omega (arith, ap length is, size, some)

pub before_counted : (min max : Bound ℤ) (xs : List Scored) (scores : Scores) (n : ℕ) → xs ≡ ranked scores
    → (IsParted (λ x. not (is_from (ByScore min max) x)) xs → n ≡ length (filter (λ x. not (is_from (ByScore min max) x)) xs))
    → n ≡ length (before min (ranked scores))
before_counted min max xs scores n is found =
    found (subst (IsParted (λ x. not (is_from (ByScore min max) x))) (sym is) (parted_below (ByScore min max) (ranked scores) (rising scores) tt))
    ∙ ap (λ ys. length (before min ys)) is
