-- Where items stand, found one after another.
use Rattle.std.proofs.Common.{◌≡◌, ℕ, zero, suc, ◌+◌, ◌-◌, ◌<◌, ◌≤◌, min, Bool, true, false, cond, List, [], ◌∷◌, ◌++◌, length, take, drop, get_or, map, reverse, ◌⊎◌, inl, inr, refl, ap, sym, ◌∙◌, subst, arith, append-nil, append_assoc}
use Rattle.std.specs.Prelude.{filter, bytes_eq, ℤ}
use Rattle.std.specs.List.{enumerate_from}
use Rattle.std.proofs.lemmas.List.{length_push, length-take, length-drop, take_all, drop_all, drop_more, drop-drop, get_or-take, get_or-reverse}
use Rattle.std.proofs.lemmas.List.FromFn.{length-enumerate_from, get_or-enumerate_from}
use Rattle.std.proofs.lemmas.Bool.{cases_lt}
use Rattle.nr_model.specs.Bytes.{Bytes}
use Rattle.nr_model.specs.Lists.{seen_from, end_of, limited, passed_over, places_of}
use Rattle.nr_model.specs.declared.command.End.{End}
use Rattle.nr_model.specs.declared.command.End.TheVariants.{Left, Right}
use Rattle.nr_lists.specs.Matches.{limit_of, place_from}
use Rattle.nr_lists.proofs.TakenOut.{length_seen}

-- the places that are found in what is left, once some matches are passed over
abbrev pub found_in : Bytes → ℕ → ℕ → List (ℕ × Bytes) → List ℕ
found_in bytes count to_pass left = map (λ numbered. numbered.0) (take count (drop to_pass (filter (λ numbered. bytes_eq numbered.1 bytes) left)))

-- what was found and what is found in the rest is all
pub record Finds (bytes : Bytes) (count to_pass at : ℕ) (all : List (ℕ × Bytes)) (places whole : List ℕ) : Type 0 where
  pub so_far : places ++ found_in bytes (count - length places) to_pass (drop at all) ≡ whole
  pub few : length places ≤ count

take_nil : {A : Type 0} (n : ℕ) → take {A = A} n [] ≡ []
take_nil zero = refl
take_nil (suc n) = refl

drop_nil : {A : Type 0} (n : ℕ) → drop {A = A} n [] ≡ []
drop_nil zero = refl
drop_nil (suc n) = refl

found_in_none : (bytes : Bytes) (count to_pass : ℕ) → found_in bytes count to_pass [] ≡ []
found_in_none bytes count to_pass =
    ap (λ xs. map (λ (numbered : ℕ × Bytes). numbered.0) (take count xs)) (drop_nil to_pass) ∙ ap (map (λ (numbered : ℕ × Bytes). numbered.0)) (take_nil count)

pub none_found : (bytes : Bytes) (count to_pass : ℕ) (all : List (ℕ × Bytes)) (places : List ℕ) → places ≡ [] → Finds bytes count to_pass 0 all places (found_in bytes count to_pass all)
none_found bytes count to_pass all places none =
    let whole : count - 0 ≡ count = omega arith in
    subst (λ (places : List ℕ). Finds bytes count to_pass 0 all places (found_in bytes count to_pass all)) (sym none)
    (record { so_far = ap (λ n. found_in bytes n to_pass all) whole; few = omega arith })

-- once there are enough
pub enough_found : (bytes : Bytes) (count to_pass at : ℕ) (all : List (ℕ × Bytes)) (places whole : List ℕ) → length places ≡ count → Finds bytes count to_pass at all places whole → places ≡ whole
enough_found bytes count to_pass at all places whole enough finds =
    let none : count - length places ≡ 0 = omega (arith, enough) in
    sym (append-nil places) ∙ ap (λ n. places ++ found_in bytes n to_pass (drop at all)) (sym none) ∙ finds.so_far

-- once nothing is left
pub all_found : (bytes : Bytes) (count to_pass at : ℕ) (all : List (ℕ × Bytes)) (places whole : List ℕ) → length all ≤ at → Finds bytes count to_pass at all places whole → places ≡ whole
all_found bytes count to_pass at all places whole ended finds =
    sym (append-nil places) ∙ ap (λ ys. places ++ ys) (sym (ap (found_in bytes (count - length places) to_pass) (drop_all at all ended) ∙ found_in_none bytes (count - length places) to_pass))
    ∙ finds.so_far

module _ (bytes : Bytes) (at place : ℕ) (item : Bytes) (all : List (ℕ × Bytes)) (next : drop at all ≡ (place, item) ∷ drop (at + 1) all) where
  abbrev later : List (ℕ × Bytes)
  later = filter (λ numbered. bytes_eq numbered.1 bytes) (drop (at + 1) all)

  opened : (n m : ℕ) (same : Bool) → bytes_eq item bytes ≡ same
      → found_in bytes n m (drop at all) ≡ map (λ numbered. numbered.0) (take n (drop m (cond same ((place, item) ∷ later) later)))
  opened n m same is =
      ap (found_in bytes n m) next ∙ ap (λ b. map (λ (numbered : ℕ × Bytes). numbered.0) (take n (drop m (cond b ((place, item) ∷ later) later)))) is

  module _ (count to_pass : ℕ) (places whole : List ℕ) (finds : Finds bytes count to_pass at all places whole) where
    pub other_found : bytes_eq item bytes ≡ false → Finds bytes count to_pass (at + 1) all places whole
    other_found other = record {
      so_far = ap (λ ys. places ++ ys) (sym (opened (count - length places) to_pass false other)) ∙ finds.so_far;
      few = finds.few;
    }

    pub one_passed : bytes_eq item bytes ≡ true → 0 < to_pass → Finds bytes count (to_pass - 1) (at + 1) all places whole
    one_passed same more =
        let one : to_pass ≡ suc (to_pass - 1) = omega (arith, more) in
        record {
          so_far = ap (λ ys. places ++ ys) (sym (opened (count - length places) to_pass true same
              ∙ ap (λ m. map (λ (numbered : ℕ × Bytes). numbered.0) (take (count - length places) (drop m ((place, item) ∷ later)))) one))
              ∙ finds.so_far;
          few = finds.few;
        }

    pub one_found : bytes_eq item bytes ≡ true → to_pass ≡ 0 → length places < count → Finds bytes count to_pass (at + 1) all (places ++ place ∷ []) whole
    one_found same none fewer =
        let one : count - length places ≡ suc (count - length (places ++ place ∷ [])) = omega (arith, fewer, length_push places place) in
        record {
          so_far = append_assoc places (place ∷ []) (found_in bytes (count - length (places ++ place ∷ [])) to_pass (drop (at + 1) all))
              ∙ ap (λ m. places ++ place ∷ found_in bytes (count - length (places ++ place ∷ [])) m (drop (at + 1) all)) none
              ∙ ap (λ ys. places ++ ys) (sym (opened (count - length places) to_pass true same
              ∙ (λ i. map (λ (numbered : ℕ × Bytes). numbered.0) (take (one i) (drop (none i) ((place, item) ∷ later))))))
              ∙ finds.so_far;
          few = omega (arith, fewer, length_push places place);
        }

-- what is looked at after so many from an end
pub numbered_at : (end : End) (items : List Bytes) (at : ℕ) (other : ℕ × Bytes) → at < length items
    → get_or (seen_from end (enumerate_from 0 items)) at other ≡ (place_from end (length items) at, get_or items (place_from end (length items) at) other.1)
numbered_at Left items at other within =
    let same : 0 + at ≡ at = omega arith in
    get_or-enumerate_from 0 items at other within ∙ ap (λ n. (n, get_or items at other.1)) same
numbered_at Right items at other within =
    let long = length-enumerate_from 0 items in
    let place = length items - 1 - at in
    let same : 0 + place ≡ place = omega arith in
    get_or-reverse (enumerate_from 0 items) at other (omega (arith, within, long))
    ∙ ap (λ n. get_or (enumerate_from 0 items) (n - 1 - at) other) long
    ∙ get_or-enumerate_from 0 items place other (omega (arith, within))
    ∙ ap (λ n. (n, get_or items place other.1)) same

pub next_looked_at : (end : End) (items : List Bytes) (most at : ℕ) (item : Bytes) → at < most → most ≤ length items
    → item ≡ get_or items (place_from end (length items) at) item
    → drop at (take most (seen_from end (enumerate_from 0 items)))
    ≡ (place_from end (length items) at, item) ∷ drop (at + 1) (take most (seen_from end (enumerate_from 0 items)))
next_looked_at end items most at item within few is =
    let seen = seen_from end (enumerate_from 0 items) in
    let long : length seen ≡ length items = length_seen end (enumerate_from 0 items) ∙ length-enumerate_from 0 items in
    drop_more (take most seen) at (at, item) (omega (arith, within, few, long, length-take most seen))
    ∙ ap (λ x. x ∷ drop (at + 1) (take most seen))
    (get_or-take most seen at (at, item) within ∙ numbered_at end items at (at, item) (omega (arith, within, few)) ∙ ap (λ x. (place_from end (length items) at, x)) (sym is))

-- a limit as a number of items
limited_by : {A : Type 0} (most : ℕ) (xs : List A) (n : ℕ) → length xs ≤ n → (most < n) ⊎ (n ≤ most) → take most xs ≡ take (min most n) xs
limited_by most xs n all (inl fewer) = let same : most ≡ min most n = omega (arith, fewer) in ap (λ k. take k xs) same
limited_by most xs n all (inr more) = take_all most xs (omega (arith, all, more)) ∙ sym (take_all (min most n) xs (omega (arith, all, more)))

limited_is : {A : Type 0} (most : ℕ) (xs : List A) (n : ℕ) → length xs ≤ n → limited most xs ≡ take (limit_of most n) xs
limited_is zero xs n all = sym (take_all n xs all)
limited_is (suc most) xs n all = limited_by (suc most) xs n all (cases_lt (suc most) n)

fewer_pass : {A : Type 0} (p : A → Bool) (xs : List A) → length (filter p xs) ≤ length xs
fewer_pass p [] = omega arith
fewer_pass p (x ∷ xs) =
    let more = fewer_pass p xs in
    elim (p x) as (λ b. length (cond b (x ∷ filter p xs) (filter p xs)) ≤ length (x ∷ xs)) [ true ↦ omega (arith, more) | false ↦ omega (arith, more) ]

pub places_are : (rank : ℤ) (count most : ℕ) (bytes : Bytes) (items : List Bytes) (end : End) (to_pass : ℕ) → end ≡ end_of rank → to_pass ≡ passed_over rank
    → found_in bytes (limit_of count (length items)) to_pass (take (limit_of most (length items)) (seen_from end (enumerate_from 0 items)))
    ≡ places_of rank count most bytes items
places_are rank count most bytes items end to_pass end_is pass_is =
    let seen = seen_from (end_of rank) (enumerate_from 0 items) in
    let long : length seen ≡ length items = length_seen (end_of rank) (enumerate_from 0 items) ∙ length-enumerate_from 0 items in
    let looked : take (limit_of most (length items)) seen ≡ limited most seen = sym (limited_is most seen (length items) (omega (arith, long))) in
    let passed = filter (λ (numbered : ℕ × Bytes). bytes_eq numbered.1 bytes) (limited most seen) in
    let few : length (drop (passed_over rank) passed) ≤ length items =
    omega (
      arith,
      length-drop (passed_over rank) passed,
      fewer_pass (λ (numbered : ℕ × Bytes). bytes_eq numbered.1 bytes) (limited most seen),
      ap length (sym looked),
      length-take (limit_of most (length items)) seen,
      long,
    ) in
    (λ i. found_in bytes (limit_of count (length items)) (pass_is i) (take (limit_of most (length items)) (seen_from (end_is i) (enumerate_from 0 items))))
    ∙ ap (found_in bytes (limit_of count (length items)) (passed_over rank)) looked
    ∙ ap (map (λ (numbered : ℕ × Bytes). numbered.0)) (sym (limited_is count (drop (passed_over rank) passed) (length items) few))

pub all_places : (rank : ℤ) (count most : ℕ) (bytes : Bytes) (items : List Bytes) (end : End) (to_pass limit looked_at : ℕ) → end ≡ end_of rank → to_pass ≡ passed_over rank
    → limit ≡ limit_of count (length items) → looked_at ≡ limit_of most (length items)
    → found_in bytes limit to_pass (take looked_at (seen_from end (enumerate_from 0 items))) ≡ places_of rank count most bytes items
all_places rank count most bytes items end to_pass limit looked_at end_is pass_is limit_is looked_is =
    (λ i. found_in bytes (limit_is i) to_pass (take (looked_is i) (seen_from end (enumerate_from 0 items)))) ∙ places_are rank count most bytes items end to_pass end_is pass_is

pub looked_at_all : (end : End) (items : List Bytes) (most : ℕ) → most ≤ length items → length (take most (seen_from end (enumerate_from 0 items))) ≡ most
looked_at_all end items most few =
    omega (arith, few, length-take most (seen_from end (enumerate_from 0 items)), length_seen end (enumerate_from 0 items), length-enumerate_from 0 items)

-- what is looked at next
pub item_seen : (end : End) (items more : List Bytes) (at : ℕ) (item : Bytes) → at < length items → drop at (seen_from end items) ≡ item ∷ more
    → item ≡ get_or items (place_from end (length items) at) item
item_seen Left items more at item within is =
    sym (ap (λ ys. get_or ys 0 item) (sym (drop_more items at item within) ∙ is))
item_seen Right items more at item within is =
    sym (sym (get_or-reverse items at item within)
    ∙ ap (λ ys. get_or ys 0 item) (sym (drop_more (reverse items) at item (omega (arith, within, length_seen Right items))) ∙ is))

pub seen_less : (end : End) (items left more : List Bytes) (at : ℕ) (item : Bytes) → seen_from end left ≡ drop at (seen_from end items) → seen_from end left ≡ item ∷ more
    → more ≡ drop (at + 1) (seen_from end items)
seen_less end items left more at item so_far is = ap (drop 1) (sym is ∙ so_far) ∙ drop-drop 1 at (seen_from end items)

pub none_seen : (end : End) (items left : List Bytes) (at : ℕ) → left ≡ [] → seen_from end left ≡ drop at (seen_from end items) → length items ≤ at
none_seen end items left at none so_far =
    omega (arith, ap length so_far, length_seen end left, ap length none, length-drop at (seen_from end items), length_seen end items)
