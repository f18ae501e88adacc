-- The members of a sorted set or a set in a list, each once, and what others get from them, in whatever order they stand.
use Rattle.std.proofs.Common.{◌≡◌, ℕ, ◌+◌, ◌≤◌, ℤ, pos, Bool, true, false, cond, ◌&&◌, ◌||◌, T, Option, Some, None, is_some, List, [], ◌∷◌, length, map, refl, ap, sym, ◌∙◌, subst, arith, true≢false}
use Rattle.std.specs.Prelude.{fold, ◌*ℤ◌}
use Rattle.std.specs.declared.cmp.Ordering.{Ordering}
use Rattle.std.specs.declared.cmp.Ordering.TheVariants.{Less, Equal, Greater}
use Rattle.std.specs.Ordering.{eq_by_cmp, is_eq, is_lt, int_cmp, ordering_then}
use Rattle.std.specs.Cmp.{int_cmp_total, tied_itself}
use Rattle.std.specs.Cmp.Lexicographic.{nat_list_cmp_total}
use Rattle.std.specs.FinMap as finmap
use Rattle.std.specs.FinSet as finset
use Rattle.std.specs.FinMap.Entries as entries
use Rattle.std.proofs.lemmas.List.{take_all}
use Rattle.std.proofs.lemmas.Map.Lookups.{exact_signed, exact_bytes}
use Rattle.nr_model.specs.Bytes.{Bytes}
use Rattle.nr_model.specs.Keyspace.{byte_cmp}
use Rattle.nr_model.specs.Sets.{Members, listed}
use Rattle.nr_model.specs.SortedSets.{Scored, Scores, scored_cmp, ranked, told_in, of_members, aggregated, gathered_one, gathered}
use Rattle.nr_model.specs.declared.command.Aggregate.{Aggregate}
use Rattle.nr_model.specs.declared.command.Direction.TheVariants.{Ascending}
use Rattle.nr_model.proofs.Ordered.{has, ordered-in_order, has-in_order, equal_from}
use Rattle.nr_zsets.specs.Lists.{part}
use Rattle.nr_zsets.proofs.Ranked.{is_score_of, has-ranked, length-ranked}

-- no member stands twice
abbrev pub IsOnce : List Scored → Type 0
IsOnce [] = Unit {0}
IsOnce (x ∷ xs) = (finmap.find byte_cmp x.0 xs ≡ None) × IsOnce xs

-- all members with their scores, each once, in whatever order
pub record IsListing (listed : List Scored) (scores : Scores) : Type 0 where
  pub all : finmap.from_entries listed ≡ scores
  pub once : IsOnce listed

first_holds : (a b : Bool) → T (a && b) → T a
first_holds true b h = tt
first_holds false b h = h

second_holds : (a b : Bool) → T (a && b) → T b
second_holds true b h = h
second_holds false b h = absurd h

unequal : (r : Ordering) → T (is_lt r) → is_eq r ≡ false
unequal Less h = refl
unequal Equal h = absurd h
unequal Greater h = absurd h

same_value : (x y : ℤ) → Some x ≡ Some y → x ≡ y
same_value x y is = cc

not_None : (x : ℤ) → Some x ≡ None → ⊥
not_None x is = true≢false (ap is_some is)

-- each once

none_below : (k : Bytes) (es : List Scored) → T (entries.below_all byte_cmp k es) → finmap.find byte_cmp k es ≡ None
none_below k [] below = refl
none_below k (e ∷ es) below =
    ap (λ b. cond b (Some e.1) (finmap.find byte_cmp k es)) (unequal (byte_cmp k e.0) (first_holds _ _ below)) ∙ none_below k es (second_holds _ _ below)

pub once_sorted : (es : List Scored) → T (finmap.is_sorted byte_cmp es) → IsOnce es
once_sorted [] rises = tt
once_sorted (e ∷ es) rises = (none_below e.0 es (first_holds _ _ rises), once_sorted es (second_holds _ _ rises))

pub found_in : (xs : List Scored) (q : Bytes) → finmap.get (finmap.from_entries {R = byte_cmp} xs) q ≡ finmap.find byte_cmp q xs
found_in xs q = finmap.get-from_entries nat_list_cmp_total xs q

grown : (o : Option ℤ) (n m k : ℕ) → m ≡ cond (is_some o) n (n + 1) → n ≤ k → (m ≤ k + 1) × (m ≡ k + 1 → (o ≡ None) × (n ≡ k))
grown None n m k is few = (omega (arith, is), λ whole. (refl, omega (arith, is, whole)))
grown (Some v) n m k is few = (omega (arith, is), λ whole. absurd (omega (arith, is, whole, few)))

counted : (x : Scored) (xs : List Scored) → finmap.len (finmap.from_entries {R = byte_cmp} (x ∷ xs))
    ≡ cond (is_some (finmap.find byte_cmp x.0 xs)) (finmap.len (finmap.from_entries {R = byte_cmp} xs)) (finmap.len (finmap.from_entries {R = byte_cmp} xs) + 1)
counted x xs =
    let m = finmap.from_entries {R = byte_cmp} xs in
    finmap.len-insert nat_list_cmp_total m x.0 x.1 ∙ ap (λ (o : Option ℤ). cond (is_some o) (finmap.len m) (finmap.len m + 1)) (found_in xs x.0)

no_more : (xs : List Scored) → finmap.len (finmap.from_entries {R = byte_cmp} xs) ≤ length xs
no_more [] = omega (arith, finmap.len-empty byte_cmp ℤ)
no_more (x ∷ xs) =
    let more = (grown (finmap.find byte_cmp x.0 xs) _ _ (length xs) (counted x xs) (no_more xs)).0 in
    omega (arith, more)

-- as many items as members
once_counted : (xs : List Scored) → finmap.len (finmap.from_entries {R = byte_cmp} xs) ≡ length xs → IsOnce xs
once_counted [] whole = tt
once_counted (x ∷ xs) whole =
    let whole' : finmap.len (finmap.from_entries {R = byte_cmp} (x ∷ xs)) ≡ length xs + 1 = omega (arith, whole) in
    let both = (grown (finmap.find byte_cmp x.0 xs) _ _ (length xs) (counted x xs) (no_more xs)).1 whole' in
    (both.0, once_counted xs both.1)

-- a sorted set

both_equal : (r s : Ordering) → is_eq (ordering_then r s) ≡ (is_eq r && is_eq s)
both_equal Less s = refl
both_equal Equal s = refl
both_equal Greater s = refl

all_three : (a b c : Bool) → a ≡ true → b ≡ true → ((a && b) || c) ≡ true
all_three a b c first second = rw (first, second) refl

none_of_both : (a b c : Bool) → b ≡ false → c ≡ false → ((a && b) || c) ≡ false
none_of_both true b c second third = rw (second, third) refl
none_of_both false b c second third = third

behind : (a b : Bool) → a ≡ true → (b || a) ≡ true
behind a true is = refl
behind a false is = is

has_first : (q : Bytes) (v : ℤ) (x : Scored) (xs : List Scored) → has scored_cmp (q, v) (x ∷ xs) ≡ ((is_eq (int_cmp v x.1) && eq_by_cmp byte_cmp q x.0) || has scored_cmp (q, v) xs)
has_first q v x xs = ap (λ b. b || has scored_cmp (q, v) xs) (both_equal (int_cmp v x.1) (byte_cmp q x.0))

found_has : (q : Bytes) (v : ℤ) (xs : List Scored) → finmap.find byte_cmp q xs ≡ Some v → has scored_cmp (q, v) xs ≡ true
found_has q v [] found = absurd (not_None v (sym found))
found_has q v (x ∷ xs) found =
    has_first q v x xs
    ∙ elim (eq_by_cmp byte_cmp q x.0) as (λ t. cond t (Some x.1) (finmap.find byte_cmp q xs) ≡ Some v → ((is_eq (int_cmp v x.1) && t) || has scored_cmp (q, v) xs) ≡ true) [
      | true ↦ λ found.
          all_three (is_eq (int_cmp v x.1)) true (has scored_cmp (q, v) xs)
          (ap (λ w. is_eq (int_cmp v w)) (same_value x.1 v found) ∙ ap is_eq (tied_itself int_cmp_total v)) refl
      | false ↦ λ found. behind (has scored_cmp (q, v) xs) (is_eq (int_cmp v x.1) && false) (found_has q v xs found)
    ] found

missing_has : (q : Bytes) (v : ℤ) (xs : List Scored) → finmap.find byte_cmp q xs ≡ None → has scored_cmp (q, v) xs ≡ false
missing_has q v [] none = refl
missing_has q v (x ∷ xs) none =
    has_first q v x xs
    ∙ elim (eq_by_cmp byte_cmp q x.0) as (λ t. cond t (Some x.1) (finmap.find byte_cmp q xs) ≡ None → ((is_eq (int_cmp v x.1) && t) || has scored_cmp (q, v) xs) ≡ false) [
      | true ↦ λ none. absurd (not_None x.1 none)
      | false ↦ λ none. none_of_both (is_eq (int_cmp v x.1)) false (has scored_cmp (q, v) xs) refl (missing_has q v xs none)
    ] none

is_that : (v : ℤ) (o : Option ℤ) → is_score_of v o ≡ true → Some v ≡ o
is_that v None h = absurd (true≢false (sym h))
is_that v (Some w) h = ap Some (exact_signed v w (equal_from _ h))

found_by : (q : Bytes) (xs : List Scored) (found o : Option ℤ) → finmap.find byte_cmp q xs ≡ found → ((v : ℤ) → has scored_cmp (q, v) xs ≡ is_score_of v o) → found ≡ o
found_by q xs (Some v) o is same = is_that v o (sym (same v) ∙ found_has q v xs is)
found_by q xs None None is same = refl
found_by q xs None (Some w) is same =
    absurd (true≢false (sym (same w ∙ ap is_eq (tied_itself int_cmp_total w)) ∙ missing_has q w xs is))

found_ranked : (scores : Scores) (q : Bytes) → finmap.find byte_cmp q (ranked scores) ≡ finmap.get scores q
found_ranked scores q = found_by q (ranked scores) (finmap.find byte_cmp q (ranked scores)) (finmap.get scores q) refl (λ v. has-ranked scores (q, v))

all_ranked : (scores : Scores) → finmap.from_entries (ranked scores) ≡ scores
all_ranked scores = finmap.same_map nat_list_cmp_total exact_bytes _ _ (λ q. found_in (ranked scores) q ∙ found_ranked scores q)

listed_ranked : (scores : Scores) (xs : List Scored) → xs ≡ ranked scores → IsListing xs scores
listed_ranked scores xs is = subst (λ xs. IsListing xs scores) (sym is) (record {
  all = all_ranked scores;
  once = once_counted (ranked scores) (ap finmap.len (all_ranked scores) ∙ sym (length-ranked scores));
})

pub listed_zset : (scores : Scores) (xs : List Scored) (n : ℕ) → n ≡ finmap.len scores → xs ≡ part 0 n (told_in Ascending (ranked scores)) → IsListing xs scores
listed_zset scores xs n all is =
    let few : length (ranked scores) ≤ n = omega (arith, all, length-ranked scores) in
    listed_ranked scores xs (is ∙ take_all n (ranked scores) few)

-- a set

abbrev with_score_1 : List Bytes → List Scored
with_score_1 ks = map (λ k. (k, pos 1)) ks

marked_below : (x : Bytes) (ks : List Bytes) → entries.below_all byte_cmp x (map (λ k. (k, tt {0})) ks) ≡ entries.below_all byte_cmp x (with_score_1 ks)
marked_below x [] = refl
marked_below x (k ∷ ks) = ap (λ b. is_lt (byte_cmp x k) && b) (marked_below x ks)

marked_sorted : (ks : List Bytes) → entries.is_sorted byte_cmp (map (λ k. (k, tt {0})) ks) ≡ entries.is_sorted byte_cmp (with_score_1 ks)
marked_sorted [] = refl
marked_sorted (k ∷ ks) = λ i. marked_below k ks i && marked_sorted ks i

found_1 : (ks : List Bytes) (q : Bytes) → finmap.find byte_cmp q (with_score_1 ks) ≡ cond (has byte_cmp q ks) (Some (pos 1)) None
found_1 [] q = refl
found_1 (k ∷ ks) q =
    ap (λ o. cond (eq_by_cmp byte_cmp q k) (Some (pos 1)) o) (found_1 ks q)
    ∙ elim (eq_by_cmp byte_cmp q k) as (λ b. cond b (Some (pos 1)) (cond (has byte_cmp q ks) (Some (pos 1)) None) ≡ cond (b || has byte_cmp q ks) (Some (pos 1)) None) [ true ↦ refl | false ↦ refl ]

in_turn : (a b : Bool) (o : Option ℤ) → cond b (Some (pos 1)) (cond a (Some (pos 1)) o) ≡ cond (a || b) (Some (pos 1)) o
in_turn true true o = refl
in_turn true false o = refl
in_turn false b o = refl

put_1 : (ks : List Bytes) (scores : Scores) (q : Bytes)
    → finmap.get (fold (λ scores member. finmap.insert scores member (pos 1)) scores ks) q ≡ cond (has byte_cmp q ks) (Some (pos 1)) (finmap.get scores q)
put_1 [] scores q = refl
put_1 (k ∷ ks) scores q =
    put_1 ks (finmap.insert scores k (pos 1)) q
    ∙ ap (cond (has byte_cmp q ks) (Some (pos 1))) (finmap.get-insert nat_list_cmp_total scores k (pos 1) q)
    ∙ in_turn (eq_by_cmp byte_cmp q k) (has byte_cmp q ks) (finmap.get scores q)

pub listed_set : (members : Members) (xs : List Scored) → xs ≡ map (λ member. (member, pos 1)) (listed members) → IsListing xs (of_members members)
listed_set members xs is = subst (λ xs. IsListing xs (of_members members)) (sym is) (record {
  all = finmap.same_map nat_list_cmp_total exact_bytes _ _ (λ q.
      found_in (with_score_1 (listed members)) q ∙ found_1 (listed members) q
      ∙ ap (cond (has byte_cmp q (listed members)) (Some (pos 1))) (sym (finmap.get-empty byte_cmp q))
      ∙ sym (put_1 (listed members) finmap.empty q));
  once = once_sorted (with_score_1 (listed members)) (subst T (marked_sorted (listed members)) (ordered-in_order byte_cmp nat_list_cmp_total (finset.items members)));
})

found_member : (members : Members) (q : Bytes) → finmap.get (of_members members) q ≡ cond (finset.contains members q) (Some (pos 1)) None
found_member members q =
    put_1 (listed members) finmap.empty q
    ∙ ap (cond (has byte_cmp q (listed members)) (Some (pos 1))) (finmap.get-empty byte_cmp q)
    ∙ ap (λ b. cond b (Some (pos 1)) None) (has-in_order byte_cmp nat_list_cmp_total q (finset.items members) ∙ sym (finset.contains-items members q))

some_1 : (b : Bool) → is_some (cond b (Some (pos 1)) None) ≡ b
some_1 true = refl
some_1 false = refl

pub set_contains : (members : Members) (q : Bytes) → finmap.contains_key (of_members members) q ≡ finset.contains members q
set_contains members q = ap is_some (found_member members q) ∙ some_1 (finset.contains members q)

pub none_contains : (q : Bytes) → finmap.contains_key (finmap.empty {X = ℤ} {R = byte_cmp}) q ≡ false
none_contains q = ap is_some (finmap.get-empty byte_cmp q)

-- what each member has with one source more

abbrev with_found : Aggregate → ℤ → Option ℤ → Option ℤ → Option ℤ
with_found aggregate weight None before = before
with_found aggregate weight (Some score) before = Some (aggregated aggregate before (weight *ℤ score))

module _ (aggregate : Aggregate) (weight : ℤ) where
  get_gathered : (xs : List Scored) (sums : Scores) (q : Bytes) → IsOnce xs
      → finmap.get (fold (gathered_one aggregate weight) sums xs) q ≡ with_found aggregate weight (finmap.find byte_cmp q xs) (finmap.get sums q)
  get_gathered [] sums q once = refl
  get_gathered (x ∷ xs) sums q once =
      let sum = aggregated aggregate (finmap.get sums x.0) (weight *ℤ x.1) in
      get_gathered xs (finmap.insert sums x.0 sum) q once.1
      ∙ ap (with_found aggregate weight (finmap.find byte_cmp q xs)) (finmap.get-insert nat_list_cmp_total sums x.0 sum q)
      ∙ elim (eq_by_cmp byte_cmp q x.0) as (λ t. eq_by_cmp byte_cmp q x.0 ≡ t
      → with_found aggregate weight (finmap.find byte_cmp q xs) (cond t (Some sum) (finmap.get sums q))
      ≡ with_found aggregate weight (cond t (Some x.1) (finmap.find byte_cmp q xs)) (finmap.get sums q)) [
        | true ↦ λ t.
            let same : q ≡ x.0 = exact_bytes q x.0 (equal_from _ t) in
            ap (λ (found : Option ℤ). with_found aggregate weight found (Some sum)) (ap (λ (k : Bytes). finmap.find byte_cmp k xs) same ∙ once.0)
            ∙ ap (λ (k : Bytes). Some (aggregated aggregate (finmap.get sums k) (weight *ℤ x.1))) (sym same)
        | false ↦ λ _. refl
      ] refl

  -- from a list of its members as from itself
  pub gathered_listing : (xs : List Scored) (sums scores : Scores) → IsListing xs scores
      → fold (gathered_one aggregate weight) sums xs ≡ gathered aggregate sums (record { scores = scores; weight = weight })
  gathered_listing xs sums scores listing = finmap.same_map nat_list_cmp_total exact_bytes _ _ (λ q.
      get_gathered xs sums q listing.once
      ∙ ap (λ (found : Option ℤ). with_found aggregate weight found (finmap.get sums q))
      (sym (found_in xs q) ∙ ap (λ (m : Scores). finmap.get m q) listing.all ∙ finmap.get-entries scores q)
      ∙ sym (get_gathered (finmap.entries scores) sums q (once_sorted (finmap.entries scores) (finmap.entries_sorted scores))))
