-- Members of several sets, by what each of the sets has.
use Rattle.std.proofs.Common.{◌≡◌, ℕ, zero, suc, ◌<◌, Bool, true, false, not, ◌||◌, ◌&&◌, List, [], ◌∷◌, ◌≤◌, length, get_or, map, take, drop, refl, ap, sym, ◌∙◌, arith, true≢false}
use Rattle.std.specs.Prelude.{filter, fold}
use Rattle.std.specs.List.{list_all, list_any}
use Rattle.std.specs.FinSet as set
use Rattle.std.specs.Cmp.Lexicographic.{nat_list_cmp_total}
use Rattle.std.proofs.lemmas.List.{get_or-map}
use Rattle.std.proofs.lemmas.Map.Lookups.{exact_bytes}
use Rattle.nr_model.specs.Bytes.{Bytes}
use Rattle.nr_model.specs.Keyspace.{byte_cmp}
use Rattle.nr_model.specs.Lists.{limited}
use Rattle.nr_model.specs.Sets.{Members, listed, intersection_of, difference_of}
use Rattle.nr_model.proofs.Ordered.{has-filter, ordered-filter}
use Rattle.nr_sets.proofs.Seen.{listed_is, has-listed, ordered-listed}

and_assoc : (a b c : Bool) → ((a && b) && c) ≡ (a && (b && c))
and_assoc true b c = refl
and_assoc false b c = refl

and_not_or : (a b c : Bool) → ((a && not b) && not c) ≡ (a && not (b || c))
and_not_or true true c = refl
and_not_or true false c = refl
and_not_or false b c = refl

and_true : (a : Bool) → (a && true) ≡ a
and_true true = refl
and_true false = refl

and_swap : (a b : Bool) → (a && b) ≡ (b && a)
and_swap true true = refl
and_swap true false = refl
and_swap false true = refl
and_swap false false = refl

and_inside : (a b c d : Bool) → (a && ((b && c) && d)) ≡ (((a && b) && c) && d)
and_inside true b c d = refl
and_inside false b c d = refl

both_hold : (a b : Bool) → (a && b) ≡ true → (a ≡ true) × (b ≡ true)
both_hold true b h = (refl, h)
both_hold false b h = absurd (true≢false (sym h))

is_false : (b : Bool) → (b ≡ true → ⊥) → b ≡ false
is_false b never = elim b as (λ x. (x ≡ true → ⊥) → x ≡ false) [ true ↦ λ never. absurd (never refl) | false ↦ λ _. refl ] never

-- all hold, so does the one at a place
holds_at : {A : Type 0} (f : A → Bool) (xs : List A) (k : ℕ) (d : A) → k < length xs → list_all f xs ≡ true → f (get_or xs k d) ≡ true
holds_at f [] k d within all = absurd (omega (arith, within))
holds_at f (x ∷ xs) zero d within all = (both_hold (f x) (list_all f xs) all).0
holds_at f (x ∷ xs) (suc k) d within all = holds_at f xs k d (omega (arith, within)) (both_hold (f x) (list_all f xs) all).1

module _ {A : Type 0} (now : A → Members) where
  in_common : (s : Members) (sets : List A) (q : Bytes) → set.contains (fold set.intersection s (map now sets)) q ≡ (set.contains s q && list_all (λ s. set.contains (now s) q) sets)
  in_common s [] q = sym (and_true (set.contains s q))
  in_common s (other ∷ sets) q =
      in_common (set.intersection s (now other)) sets q
      ∙ ap (λ b. b && list_all (λ s. set.contains (now s) q) sets) (set.contains-intersection nat_list_cmp_total s (now other) q)
      ∙ and_assoc (set.contains s q) (set.contains (now other) q) (list_all (λ s. set.contains (now s) q) sets)

  in_all : (sets : List A) (q : Bytes) → 0 < length sets → set.contains (intersection_of (map now sets)) q ≡ list_all (λ s. set.contains (now s) q) sets
  in_all [] q some = absurd (omega (arith, some))
  in_all (s ∷ sets) q some = in_common (now s) sets q

  -- all of them have it if those before one, that one and those behind it have
  all_beside : (f : A → Bool) (sets : List A) (k : ℕ) (d : A) → k < length sets
      → list_all f sets ≡ ((list_all f (take k sets) && list_all f (drop (suc k) sets)) && f (get_or sets k d))
  all_beside f [] k d within = absurd (omega (arith, within))
  all_beside f (s ∷ sets) zero d within = and_swap (f s) (list_all f sets)
  all_beside f (s ∷ sets) (suc k) d within =
      ap (λ b. f s && b) (all_beside f sets k d (omega (arith, within)))
      ∙ and_inside (f s) (list_all f (take k sets)) (list_all f (drop (suc k) sets)) (f (get_or sets k d))

  -- what all have is what one of them has, and those before it and behind it have
  pub common_is : (sets : List A) (k : ℕ) (behind : List A) (walked : Members) → k < length sets → behind ≡ drop (suc k) sets → get_or (map now sets) k set.empty ≡ walked
      → filter (λ m. list_all (λ s. set.contains (now s) m) (take k sets) && list_all (λ s. set.contains (now s) m) behind) (listed walked)
      ≡ listed (intersection_of (map now sets))
  common_is [] k behind walked within rest at = absurd (omega (arith, within))
  common_is (first ∷ others) k behind walked within rest at =
      let sets : List A = first ∷ others in
      let before : Bytes → Bool = λ m. list_all (λ s. set.contains (now s) m) (take k sets) in
      let wanted : Bytes → Bool = λ m. before m && list_all (λ s. set.contains (now s) m) behind in
      let is : now (get_or sets k first) ≡ walked = sym (get_or-map now sets k first set.empty within) ∙ at in
      listed_is (intersection_of (map now sets)) (filter wanted (listed walked)) (ordered-filter byte_cmp wanted (listed walked) (ordered-listed walked)) (λ q.
      has-filter byte_cmp nat_list_cmp_total exact_bytes q wanted (listed walked)
      ∙ ap (λ b. wanted q && b) (has-listed walked q)
      ∙ ap (λ s. wanted q && set.contains s q) (sym is)
      ∙ ap (λ sets. (before q && list_all (λ s. set.contains (now s) q) sets) && set.contains (now (get_or (first ∷ others) k first)) q) rest
      ∙ sym (all_beside (λ s. set.contains (now s) q) sets k first within)
      ∙ sym (in_all sets q (omega (arith, within))))

  -- with an empty one among them nothing is in common
  pub none_in_common : (sets : List A) (k : ℕ) (s : A) → k < length sets → s ≡ get_or sets k s → now s ≡ set.empty → intersection_of (map now sets) ≡ set.empty
  none_in_common sets k s within is missing = set.same_set nat_list_cmp_total exact_bytes _ _ (λ q.
      in_all sets q (omega (arith, within))
      ∙ is_false (list_all (λ s. set.contains (now s) q) sets) (λ all.
      true≢false (sym (holds_at (λ s. set.contains (now s) q) sets k s within all) ∙ ap (λ x. set.contains (now x) q) (sym is) ∙ ap (λ m. set.contains m q) missing ∙ set.contains-empty byte_cmp q))
      ∙ sym (set.contains-empty byte_cmp q))

  pub none_first : (sets : List A) (s : A) (others : List A) → sets ≡ s ∷ others → now s ≡ set.empty → intersection_of (map now sets) ≡ set.empty
  none_first sets s others is missing = ap (λ sets. intersection_of (map now sets)) is ∙ none_in_common (s ∷ others) 0 s (omega arith) refl missing

  in_first : (s : Members) (sets : List A) (q : Bytes) → set.contains (fold set.difference s (map now sets)) q ≡ (set.contains s q && not (list_any (λ s. set.contains (now s) q) sets))
  in_first s [] q = sym (and_true (set.contains s q))
  in_first s (other ∷ sets) q =
      in_first (set.difference s (now other)) sets q
      ∙ ap (λ b. b && not (list_any (λ s. set.contains (now s) q) sets)) (set.contains-difference nat_list_cmp_total s (now other) q)
      ∙ and_not_or (set.contains s q) (set.contains (now other) q) (list_any (λ s. set.contains (now s) q) sets)

  -- of an empty one nothing is left
  pub none_left : (others : List A) → difference_of (set.empty ∷ map now others) ≡ set.empty
  none_left others = set.same_set nat_list_cmp_total exact_bytes _ _ (λ q.
      in_first set.empty others q
      ∙ ap (λ b. b && not (list_any (λ s. set.contains (now s) q) others)) (set.contains-empty byte_cmp q)
      ∙ sym (set.contains-empty byte_cmp q))

  -- what the first has alone
  pub left_over_is : (first : Members) (others : List A)
      → filter (λ m. not (list_any (λ s. set.contains (now s) m) others)) (listed first) ≡ listed (difference_of (first ∷ map now others))
  left_over_is first others =
      let wanted : Bytes → Bool = λ m. not (list_any (λ s. set.contains (now s) m) others) in
      listed_is (difference_of (first ∷ map now others)) (filter wanted (listed first)) (ordered-filter byte_cmp wanted (listed first) (ordered-listed first)) (λ q.
      has-filter byte_cmp nat_list_cmp_total exact_bytes q wanted (listed first)
      ∙ ap (λ b. wanted q && b) (has-listed first q)
      ∙ and_swap (wanted q) (set.contains first q)
      ∙ sym (in_first first others q))

pub none_listed : [] ≡ listed set.empty
none_listed = listed_is set.empty [] tt (λ q. sym (set.contains-empty byte_cmp q))

pub none_limited : (most : ℕ) → limited {A = Bytes} most [] ≡ []
none_limited zero = refl
none_limited (suc most) = refl

-- none of the first so many has fewer members
abbrev pub IsLeastOf : {A : Type 0} → (A → Members) → List A → Members → ℕ → Type 0
IsLeastOf {A} now sets least n = (k : ℕ) (d : A) → k < n → set.len least ≤ set.len (now (get_or sets k d))
