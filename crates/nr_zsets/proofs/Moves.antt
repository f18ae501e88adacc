-- A member that gets another score: where it stood, where it stands, and the list with it brought there. And several members that are taken out.
use Rattle.std.proofs.Common.{◌≡◌, ℕ, ℤ, zero, suc, ◌+◌, ◌-◌, ◌≤◌, ◌<◌, Bool, true, false, cond, nat_lt, Some, List, [], ◌∷◌, length, map, min, refl, ap, sym, ◌∙◌, subst, arith}
use Rattle.std.specs.Prelude.{filter, fold}
use Rattle.std.specs.declared.cmp.Ordering.TheVariants.{Less, Equal, Greater}
use Rattle.std.specs.Ordering.{is_lt, ordering_reverse}
use Rattle.std.specs.Cmp.{tied_itself}
use Rattle.std.specs.List.{insert, remove, slice_get}
use Rattle.std.specs.Option.{option_map}
use Rattle.std.specs.FinMap as finmap
use Rattle.std.proofs.lemmas.Bool.{lt-ltb, le-ltb, ltb-true, ltb-false}
use Rattle.std.proofs.lemmas.List.Edits.{length-remove}
use Rattle.nr_model.specs.Bytes.{Bytes}
use Rattle.nr_model.specs.SortedSets.{Scored, Scores, scored_cmp, ranked, without}
use Rattle.nr_ordered.specs.Lists.{Item, part, renumbered}
use Rattle.nr_ordered.proofs.Places.{same_Some}
use Rattle.nr_ordered.proofs.Parts.{got, none_from, length-part}
use Rattle.nr_zsets.specs.Lists.{moved}
use Rattle.nr_zsets.specs.Scores.{is_before, place_in}
use Rattle.nr_zsets.proofs.Bools.{less_is}
use Rattle.nr_zsets.proofs.Parts.{part_first, part_counted}
use Rattle.nr_zsets.proofs.Ranked.{scored_total, scored_exact, seam, standing, taken, taken_at, added, anew, without_it, score_at, fewer_by_one}

module _ {A : Type 0} where
  -- put in behind, and then taken out in front, or the other way round
  put_behind : (xs : List A) (from to : ℕ) (x : A) → from ≤ to → to < length xs → remove (insert xs (suc to) x) from ≡ insert (remove xs from) to x
  put_behind [] from to x order within = absurd (omega (arith, within))
  put_behind (y ∷ xs) zero to x order within = refl
  put_behind (y ∷ xs) (suc from) zero x order within = absurd (omega (arith, order))
  put_behind (y ∷ xs) (suc from) (suc to) x order within = ap (λ zs. y ∷ zs) (put_behind xs from to x (omega (arith, order)) (omega (arith, within)))

  put_in_front : (xs : List A) (from to : ℕ) (x : A) → to ≤ from → from < length xs → remove (insert xs to x) (suc from) ≡ insert (remove xs from) to x
  put_in_front [] from to x order within = absurd (omega (arith, within))
  put_in_front (y ∷ xs) from zero x order within = refl
  put_in_front (y ∷ xs) zero (suc to) x order within = absurd (omega (arith, order))
  put_in_front (y ∷ xs) (suc from) (suc to) x order within = ap (λ zs. y ∷ zs) (put_in_front xs from to x (omega (arith, order)) (omega (arith, within)))

  pub moved_behind : (xs mid new : List A) (from to : ℕ) (x : A) → from < to → to ≤ length xs → mid ≡ insert xs to x → new ≡ remove mid from → new ≡ moved xs from to x
  moved_behind xs mid new from to x order within put out =
      let next : to ≡ suc (to - 1) = omega (arith, order) in
      out ∙ ap (λ zs. remove zs from) (put ∙ ap (λ k. insert xs k x) next)
      ∙ put_behind xs from (to - 1) x (omega (arith, order)) (omega (arith, order, within))
      ∙ sym (ap (λ b. insert (remove xs from) (cond b (to - 1) to) x) (lt-ltb from to order))

  pub moved_in_front : (xs mid new : List A) (from to : ℕ) (x : A) → to ≤ from → from < length xs → mid ≡ insert xs to x → new ≡ remove mid (from + 1)
      → new ≡ moved xs from to x
  moved_in_front xs mid new from to x order within put out =
      let next : from + 1 ≡ suc from = omega arith in
      out ∙ (λ i. remove (put i) (next i))
      ∙ put_in_front xs from to x order within
      ∙ sym (ap (λ b. insert (remove xs from) (cond b (to - 1) to) x) (le-ltb from to order))

  counted_in : (test : A → Bool) (xs : List A) (k : ℕ) (x : A) → length (filter test (insert xs k x)) ≡ length (filter test xs) + cond (test x) 1 0
  counted_in test xs zero x =
      elim (test x) as (λ b. length (cond b (x ∷ filter test xs) (filter test xs)) ≡ length (filter test xs) + cond b 1 0) [ true ↦ omega arith | false ↦ omega arith ]
  counted_in test [] (suc k) x = elim (test x) as (λ b. length (cond b (x ∷ []) []) ≡ 0 + cond b 1 0) [ true ↦ refl | false ↦ refl ]
  counted_in test (y ∷ xs) (suc k) x =
      let more = counted_in test xs k x in
      elim (test y) as (λ b. length (cond b (y ∷ filter test (insert xs k x)) (filter test (insert xs k x)))
      ≡ length (cond b (y ∷ filter test xs) (filter test xs)) + cond (test x) 1 0) [ true ↦ omega (arith, more) | false ↦ more ]

  more_pass : (f g : A → Bool) → ((x : A) → f x ≡ true → g x ≡ true) → (xs : List A) → length (filter f xs) ≤ length (filter g xs)
  more_pass f g more [] = omega arith
  more_pass f g more (x ∷ xs) =
      let rest = more_pass f g more xs in
      let F = filter f xs in
      let G = filter g xs in
      elim (f x) as (λ b. f x ≡ b → length (cond b (x ∷ F) F) ≤ length (cond (g x) (x ∷ G) G)) [
        | true ↦ λ passes. subst (λ b. suc (length F) ≤ length (cond b (x ∷ G) G)) (sym (more x passes)) (omega (arith, rest))
        | false ↦ λ _. elim (g x) as (λ b. length F ≤ length (cond b (x ∷ G) G)) [ true ↦ omega (arith, rest) | false ↦ rest ]
      ] refl

-- a number that is set where an item stands
renumbered_is : (xs : List Item) (k : ℕ) (member : Bytes) (n : ℤ) → option_map (λ x. x.0) (slice_get xs k) ≡ Some member → renumbered xs k n ≡ insert (remove xs k) k (member, n)
renumbered_is [] k member n at = absurd (cc)
renumbered_is (x ∷ xs) zero member n at = ap (λ (m : Bytes). let item : Item = (m, n) in item ∷ xs) (same_Some x.0 member at)
renumbered_is (x ∷ xs) (suc k) member n at = ap (λ ys. x ∷ ys) (renumbered_is xs k member n at)

-- the place of what is put in where it stood, or just behind
same_place : (from to : ℕ) → from ≤ to → to ≤ from + 1 → cond (nat_lt from to) (to - 1) to ≡ from
same_place from to low high =
    elim (nat_lt from to) as (λ b. nat_lt from to ≡ b → cond b (to - 1) to ≡ from) [
      | true ↦ λ more. let less = ltb-true from to more in omega (arith, less, high)
      | false ↦ λ not_more. let less = ltb-false from to not_more in omega (arith, less, low)
    ] refl

pub set_there : (xs new : List Item) (from to : ℕ) (member : Bytes) (n : ℤ) → from ≤ to → to ≤ from + 1 → option_map (λ x. x.0) (slice_get xs from) ≡ Some member
    → new ≡ renumbered xs from n → new ≡ moved xs from to (member, n)
set_there xs new from to member n low high at is =
    is ∙ renumbered_is xs from member n at ∙ sym (ap (λ k. insert (remove xs from) k (member, n)) (same_place from to low high))

pub moved_here : (xs : List Item) (from to : ℕ) (x : Item) → from ≤ to → to ≤ from + 1 → moved xs from from x ≡ moved xs from to x
moved_here xs from to x low high = ap (λ k. insert (remove xs from) k x) (same_place from from (omega arith) (omega arith) ∙ sym (same_place from to low high))

pub stands_within : (xs : List Item) (k : ℕ) (member : Bytes) → option_map (λ x. x.0) (slice_get xs k) ≡ Some member → k < length xs
stands_within [] k member at = absurd (cc)
stands_within (x ∷ xs) zero member at = omega arith
stands_within (x ∷ xs) (suc k) member at = omega (arith, stands_within xs k member at)

pub stands_at : (xs : List Scored) (scores : Scores) (x : Scored) (place : ℕ) (member : Bytes) → xs ≡ ranked scores → place ≡ place_in (ranked scores) x
    → finmap.get scores x.0 ≡ Some x.1 → member ≡ x.0 → option_map (λ y. y.0) (slice_get xs place) ≡ Some member
stands_at xs scores x place member is here at same =
    (λ i. option_map (λ (y : Scored). y.0) (slice_get (is i) (here i))) ∙ ap (option_map (λ (y : Scored). y.0)) (standing scores x at) ∙ ap Some (sym same)

-- the place of a member that has another score now, among the others
place_moved : (scores : Scores) (member : Bytes) (before score : ℤ) → finmap.get scores member ≡ Some before → (from to : ℕ)
    → from ≡ place_in (ranked scores) (member, before) → to ≡ place_in (ranked scores) (member, score)
    → cond (nat_lt from to) (to - 1) to ≡ place_in (ranked (finmap.remove scores member)) (member, score)
place_moved scores member before score at from to is_from is_to =
    let x : Scored = (member, before) in
    let y : Scored = (member, score) in
    let ys = ranked (finmap.remove scores member) in
    let s = seam scores x at in
    let first = is_from ∙ ap (λ zs. place_in zs x) s.whole ∙ counted_in (is_before x) ys s.place x
    ∙ ap (λ r. place_in ys x + cond (is_lt r) 1 0) (tied_itself scored_total x) in
    let second = is_to ∙ ap (λ zs. place_in zs y) s.whole ∙ counted_in (is_before y) ys s.place x in
    elim (scored_cmp x y) as (λ r. scored_cmp x y ≡ r → cond (nat_lt from to) (to - 1) to ≡ place_in ys y) [
      | Less ↦ λ e.
          let one = second ∙ ap (λ r. place_in ys y + cond (is_lt r) 1 0) e in
          let more = more_pass (is_before x) (is_before y) (λ z h. ap is_lt (scored_total.trans z x y (less_is (scored_cmp z x) h) e)) ys in
          ap (λ b. cond b (to - 1) to) (lt-ltb from to (omega (arith, one, first, more))) ∙ omega (arith, one)
      | Equal ↦ λ e.
          let one = second ∙ ap (λ r. place_in ys y + cond (is_lt r) 1 0) e in
          let same : x ≡ y = scored_exact x y e in
          let here = is_from ∙ ap (place_in (ranked scores)) same ∙ sym is_to in
          ap (λ b. cond b (to - 1) to) (le-ltb from to (omega (arith, here))) ∙ omega (arith, one)
      | Greater ↦ λ e.
          let one = second ∙ ap (λ r. place_in ys y + cond (is_lt r) 1 0) e in
          let back = scored_total.antisymm y x ∙ ap ordering_reverse e in
          let more = more_pass (is_before y) (is_before x) (λ z h. ap is_lt (scored_total.trans z y x (less_is (scored_cmp z y) h) back)) ys in
          ap (λ b. cond b (to - 1) to) (le-ltb from to (omega (arith, one, first, more))) ∙ omega (arith, one)
    ] refl

pub moved_there : (xs new : List Scored) (scores : Scores) (member : Bytes) (before score : ℤ) (from to : ℕ) → xs ≡ ranked scores
    → finmap.get scores member ≡ Some before → from ≡ place_in (ranked scores) (member, before) → to ≡ place_in (ranked scores) (member, score)
    → new ≡ moved xs from to (member, score) → new ≡ ranked (finmap.insert scores member score)
moved_there xs new scores member before score from to is at is_from is_to put =
    let x : Scored = (member, before) in
    let y : Scored = (member, score) in
    let left : remove (ranked scores) from ≡ ranked (finmap.remove scores member) = ap (remove (ranked scores)) is_from ∙ taken scores x at in
    put ∙ ap (λ ys. moved ys from to y) is
    ∙ (λ i. insert (left i) (place_moved scores member before score at from to is_from is_to i) y)
    ∙ added (finmap.remove scores member) y (without_it scores member)
    ∙ ap ranked (anew scores member score)

-- members taken out one by one, by their names
pub all_removed : (xs : List Scored) (scores : Scores) → fold finmap.remove scores (map (λ scored. scored.0) xs) ≡ without xs scores
all_removed [] scores = refl
all_removed (x ∷ xs) scores = all_removed xs (finmap.remove scores x.0)

-- as many are gone as stood from one place to another
gone_from : (n from : ℕ) (scores : Scores) → n ≤ length (ranked scores) - from → finmap.len (without (part from (from + n) (ranked scores)) scores) + n ≡ finmap.len scores
gone_from zero from scores within =
    ap (λ ys. finmap.len (without ys scores) + 0) (none_from from (from + 0) (ranked scores) (omega arith)) ∙ omega arith
gone_from (suc n) from scores within =
    let one = got (ranked scores) from (omega (arith, within)) in
    let x = one.0 in
    let left = taken_at scores from x one.1 in
    let less = fewer_by_one scores x (score_at scores from x one.1) in
    let rest = gone_from n from (finmap.remove scores x.0) (omega (arith, within, ap length (sym left), length-remove (ranked scores) from (omega (arith, within)))) in
    let is : finmap.len (without (part from (from + suc n) (ranked scores)) scores)
    ≡ finmap.len (without (part from (from + n) (ranked (finmap.remove scores x.0))) (finmap.remove scores x.0)) =
    ap (λ ys. finmap.len (without ys scores)) (part_first (ranked scores) from n x one.1)
    ∙ ap (λ ys. finmap.len (without (part from (from + n) ys) (finmap.remove scores x.0))) left in
    omega (arith, is, rest, less)

pub gone_part : (from to : ℕ) (scores : Scores)
    → length (part from to (ranked scores)) ≡ finmap.len scores - finmap.len (without (part from to (ranked scores)) scores)
gone_part from to scores =
    let n = min to (length (ranked scores)) - from in
    let all = gone_from n from scores (omega arith) in
    let is = ap (λ ys. finmap.len (without ys scores)) (part_counted from to n (ranked scores) refl) in
    omega (arith, all, is, length-part from to (ranked scores))
