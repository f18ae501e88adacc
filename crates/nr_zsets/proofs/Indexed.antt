-- Items in order are seen as the map that they make, and the map that stands beside them is that one.
use Rattle.std.proofs.Common.{◌≡◌, ℕ, ℤ, zero, suc, ◌+◌, ◌≤◌, true, false, cond, Option, Some, None, is_some, List, [], ◌∷◌, length, refl, ap, sym, ◌∙◌, subst, arith}
use Rattle.std.specs.Prelude.{find, bytes_eq, drop, IfSome}
use Rattle.std.specs.List.{slice_get}
use Rattle.std.specs.Option.{option_map}
use Rattle.std.specs.Ordering.{eq_by_cmp, is_eq}
use Rattle.std.specs.Cmp.{tied_itself}
use Rattle.std.specs.Cmp.Lexicographic.{nat_list_cmp_total, texts_ties}
use Rattle.std.specs.FinMap as finmap
use Rattle.std.proofs.lemmas.Map.Lookups.{exact_bytes}
use Rattle.nr_model.specs.Bytes.{Bytes}
use Rattle.nr_model.specs.Keyspace.{byte_cmp}
use Rattle.nr_model.specs.Names.{in_order}
use Rattle.nr_model.specs.SortedSets.{Scored, Scores, scored_cmp, ranked}
use Rattle.nr_model.proofs.Ordered.{equal_from}
use Rattle.nr_ordered.proofs.Places.{same_Some}
use Rattle.nr_zsets.specs.Scores.{scores_of, place_in, IsIndexOf, HasRoom, IsSorted, IsPutAt}
use Rattle.nr_zsets.proofs.Mapped.{none_ranked}
use Rattle.nr_zsets.proofs.Parts.{drop_at}
use Rattle.nr_zsets.proofs.Ranked.{score_at, standing, not_None, length-ranked, fewer_by_one}

-- what is found of a member stands at a place
found_at : (x : Scored) (xs : List Scored) → finmap.find byte_cmp x.0 xs ≡ Some x.1 → (k : ℕ) × (slice_get xs k ≡ Some x)
found_at x [] is = absurd (cc)
found_at x (y ∷ xs) is =
    elim (eq_by_cmp byte_cmp x.0 y.0) as (λ t. eq_by_cmp byte_cmp x.0 y.0 ≡ t → cond t (Some y.1) (finmap.find byte_cmp x.0 xs) ≡ Some x.1
    → (k : ℕ) × (slice_get (y ∷ xs) k ≡ Some x)) [
      | true ↦ λ t own.
          let named = sym (exact_bytes x.0 y.0 (equal_from _ t)) in
          let scored = same_Some y.1 x.1 own in
          (0, λ i. let z : Scored = (named i, scored i) in Some z)
      | false ↦ λ _ behind. let more = found_at x xs behind in (suc more.0, more.1)
    ] refl is

-- and what stands at a place is found
none_at : (x : Scored) (xs : List Scored) (k : ℕ) → slice_get xs k ≡ Some x → finmap.find byte_cmp x.0 xs ≡ None → ⊥
none_at x [] k at none = absurd (cc)
none_at x (y ∷ xs) zero at none =
    let own : eq_by_cmp byte_cmp x.0 y.0 ≡ true =
    ap (λ (z : Scored). eq_by_cmp byte_cmp x.0 z.0) (same_Some y x at) ∙ ap is_eq (tied_itself nat_list_cmp_total x.0) in
    not_None y.1 (sym (ap (λ t. cond t (Some y.1) (finmap.find byte_cmp x.0 xs)) own) ∙ none)
none_at x (y ∷ xs) (suc k) at none =
    elim (eq_by_cmp byte_cmp x.0 y.0) as (λ t. cond t (Some y.1) (finmap.find byte_cmp x.0 xs) ≡ None → ⊥) [
      | true ↦ λ e. not_None y.1 e
      | false ↦ λ e. none_at x xs k at e
    ] none

found_in : (scores : Scores) (q : Bytes) → finmap.find byte_cmp q (ranked scores) ≡ finmap.get scores q
found_in scores q =
    elim (finmap.find byte_cmp q (ranked scores)) as (λ o. finmap.find byte_cmp q (ranked scores) ≡ o → o ≡ finmap.get scores q) [
      | Some z ↦ λ is.
          let x : Scored = (q, z) in
          let at = found_at x (ranked scores) is in
          sym (score_at scores at.0 x at.1)
      | None ↦ λ none.
          elim (finmap.get scores q) as (λ o. finmap.get scores q ≡ o → None ≡ o) [
            | Some z ↦ λ there.
                let x : Scored = (q, z) in
                absurd (none_at x (ranked scores) (place_in (ranked scores) x) (standing scores x there) none)
            | None ↦ λ _. refl
          ] refl
    ] refl

-- the map of a map's items in order is that map
pub scores_in : (scores : Scores) → scores_of (ranked scores) ≡ scores
scores_in scores = finmap.same_map nat_list_cmp_total exact_bytes _ _ (λ q. finmap.get-from_entries nat_list_cmp_total (ranked scores) q ∙ found_in scores q)

pub seen_as : (xs : List Scored) (scores : Scores) → xs ≡ ranked scores → scores_of xs ≡ scores
seen_as xs scores is = ap (λ es. scores_of es) is ∙ scores_in scores

pub ordered_as : (xs : List Scored) (scores : Scores) → xs ≡ ranked scores → xs ≡ ranked (scores_of xs)
ordered_as xs scores is = is ∙ ap ranked (sym (seen_as xs scores is))

pub length-seen : (xs : List Scored) → xs ≡ ranked (scores_of xs) → length xs ≡ finmap.len (scores_of xs)
length-seen xs is = ap length is ∙ length-ranked (scores_of xs)

-- the score of the first item of a member
pub score_found : (member : Bytes) (xs : List Scored) → option_map (λ (x : Scored). x.1) (find (λ (x : Scored). bytes_eq member x.0) xs) ≡ finmap.get (scores_of xs) member
score_found member xs = first xs ∙ sym (finmap.get-from_entries nat_list_cmp_total xs member)
  where
    first : (ys : List Scored) → option_map (λ (x : Scored). x.1) (find (λ (x : Scored). bytes_eq member x.0) ys) ≡ finmap.find byte_cmp member ys
    first [] = refl
    first (y ∷ ys) =
        elim (bytes_eq member y.0) as (λ t. option_map (λ (x : Scored). x.1) (cond t (Some y) (find (λ (x : Scored). bytes_eq member x.0) ys))
        ≡ cond t (Some y.1) (finmap.find byte_cmp member ys)) [
          | true ↦ refl
          | false ↦ first ys
        ]
        ∙ ap (λ t. cond t (Some y.1) (finmap.find byte_cmp member ys)) (texts_ties member y.0)

-- the map of the items from a place on, with one in front of them
pub mapped_more : (xs : List Scored) (k place : ℕ) (old new : Scores) → IsPutAt xs k old new → suc k ≡ place → old ≡ scores_of (drop place xs)
    → new ≡ scores_of (drop k xs)
mapped_more xs k place old new at is before =
    at.put
    ∙ ap (λ (m : Scores). finmap.insert m at.item.0 at.item.1) (before ∙ ap (λ i. scores_of (drop i xs)) (sym is))
    ∙ sym (ap (λ es. scores_of es) (drop_at xs k at.item at.stands))

-- a member that isn't there is not taken out
pub nothing_gone : (scores : Scores) (member : Bytes) → finmap.get scores member ≡ None → finmap.remove scores member ≡ scores
nothing_gone scores member none = finmap.same_map nat_list_cmp_total exact_bytes _ _ (λ q.
    finmap.get-remove nat_list_cmp_total scores member q
    ∙ elim (eq_by_cmp byte_cmp q member) as (λ t. eq_by_cmp byte_cmp q member ≡ t → cond t None (finmap.get scores q) ≡ finmap.get scores q) [
      | true ↦ λ t. sym (ap (λ (m : Bytes). finmap.get scores m) (exact_bytes q member (equal_from _ t)) ∙ none)
      | false ↦ λ _. refl
    ] refl)

-- the map beside them, as it changes with them
pub own_map : (index : Option Scores) (scores : Scores) (xs : List Scored) → index ≡ Some scores → IsIndexOf index xs → scores ≡ scores_of xs
own_map index scores xs is own = subst (λ o. IsIndexOf o xs) is own

pub written_there : (index : Option Scores) (xs : List Scored) (member : Bytes) (before : ℤ) → IsIndexOf index xs → finmap.get (scores_of xs) member ≡ Some before
    → IfSome index (λ scores. finmap.contains_key scores member ≡ true)
written_there None xs member before few there = tt
written_there (Some scores) xs member before own there = ap (λ (m : Scores). finmap.contains_key m member) own ∙ ap is_some there

pub sorted_none : (index : Option Scores) (xs : List Scored) → index ≡ None → xs ≡ [] → IsSorted index xs
sorted_none index xs none empty = record {
  ordered = empty ∙ sym (ap (λ es. ranked (scores_of es)) empty ∙ ap (in_order scored_cmp) none_ranked);
  indexed = subst (λ o. IsIndexOf o xs) (sym none) (omega (arith, ap length empty));
}

room_index : (index : Option Scores) (xs : List Scored) → HasRoom index xs → IsIndexOf index xs
room_index None xs few = omega (arith, few)
room_index (Some scores) xs own = own

pub sorted_still : (index new : Option Scores) (xs ys : List Scored) → xs ≡ ranked (scores_of xs) → HasRoom index xs → new ≡ index → ys ≡ xs → IsSorted new ys
sorted_still index new xs ys ordered room is same = record {
  ordered = same ∙ ordered ∙ ap (λ es. ranked (scores_of es)) (sym same);
  indexed = subst (λ o. IsIndexOf o ys) (sym is) (subst (IsIndexOf index) (sym same) (room_index index xs room));
}

index_changed : (index new : Option Scores) (change : Scores → Scores) (xs ys : List Scored) → IsIndexOf index xs → new ≡ option_map change index
    → scores_of ys ≡ change (scores_of xs) → length ys ≤ length xs → IsIndexOf new ys
index_changed None new change xs ys few is seen size = subst (λ o. IsIndexOf o ys) (sym is) (omega (arith, few, size))
index_changed (Some scores) new change xs ys own is seen size = subst (λ o. IsIndexOf o ys) (sym is) (ap change own ∙ sym seen)

index_grown : (index new : Option Scores) (change : Scores → Scores) (xs ys : List Scored) → HasRoom index xs → new ≡ option_map change index
    → scores_of ys ≡ change (scores_of xs) → length ys ≤ length xs + 1 → IsIndexOf new ys
index_grown None new change xs ys few is seen size = subst (λ o. IsIndexOf o ys) (sym is) (omega (arith, few, size))
index_grown (Some scores) new change xs ys own is seen size = subst (λ o. IsIndexOf o ys) (sym is) (ap change own ∙ sym seen)

at_most_one_more : (o : Option ℤ) (n : ℕ) → cond (is_some o) n (n + 1) ≤ n + 1
at_most_one_more None n = omega arith
at_most_one_more (Some z) n = omega arith

module _ (index new : Option Scores) (xs ys : List Scored) (ordered : xs ≡ ranked (scores_of xs)) where
  -- a member was put in
  pub sorted_with : (x : Scored) → HasRoom index xs → new ≡ option_map (λ scores. finmap.insert scores x.0 x.1) index
      → ys ≡ ranked (finmap.insert (scores_of xs) x.0 x.1) → IsSorted new ys
  sorted_with x room is put =
      let seen = seen_as ys (finmap.insert (scores_of xs) x.0 x.1) put in
      let size : length ys ≤ length xs + 1 = omega (
        arith,
        length-seen xs ordered,
        ap length put,
        length-ranked (finmap.insert (scores_of xs) x.0 x.1),
        finmap.len-insert nat_list_cmp_total (scores_of xs) x.0 x.1,
        at_most_one_more (finmap.get (scores_of xs) x.0) (finmap.len (scores_of xs)),
      ) in
      record {
        ordered = ordered_as ys (finmap.insert (scores_of xs) x.0 x.1) put;
        indexed = index_grown index new (λ scores. finmap.insert scores x.0 x.1) xs ys room is seen size;
      }

  -- one has another score
  pub sorted_anew : (x : Scored) (before : ℤ) → finmap.get (scores_of xs) x.0 ≡ Some before → IsIndexOf index xs
      → new ≡ option_map (λ scores. finmap.insert scores x.0 x.1) index → ys ≡ ranked (finmap.insert (scores_of xs) x.0 x.1) → IsSorted new ys
  sorted_anew x before there own is put =
      let seen = seen_as ys (finmap.insert (scores_of xs) x.0 x.1) put in
      let size : length ys ≤ length xs = omega (
        arith,
        length-seen xs ordered,
        ap length put,
        length-ranked (finmap.insert (scores_of xs) x.0 x.1),
        finmap.len-insert nat_list_cmp_total (scores_of xs) x.0 x.1
            ∙ ap (λ (o : Option ℤ). cond (is_some o) (finmap.len (scores_of xs)) (finmap.len (scores_of xs) + 1)) there,
      ) in
      record {
        ordered = ordered_as ys (finmap.insert (scores_of xs) x.0 x.1) put;
        indexed = index_changed index new (λ scores. finmap.insert scores x.0 x.1) xs ys own is seen size;
      }

  -- one was taken out
  pub sorted_without : (x : Scored) → finmap.get (scores_of xs) x.0 ≡ Some x.1 → IsIndexOf index xs
      → new ≡ option_map (λ scores. finmap.remove scores x.0) index → ys ≡ ranked (finmap.remove (scores_of xs) x.0) → IsSorted new ys
  sorted_without x there own is out =
      let seen = seen_as ys (finmap.remove (scores_of xs) x.0) out in
      let size : length ys ≤ length xs = omega (
        arith,
        length-seen xs ordered,
        ap length out,
        length-ranked (finmap.remove (scores_of xs) x.0),
        fewer_by_one (scores_of xs) x there,
      ) in
      record {
        ordered = ordered_as ys (finmap.remove (scores_of xs) x.0) out;
        indexed = index_changed index new (λ scores. finmap.remove scores x.0) xs ys own is seen size;
      }

pub sorted_untaken : (index new : Option Scores) (xs : List Scored) (member : Bytes) → IsSorted index xs
    → new ≡ option_map (λ scores. finmap.remove scores member) index → finmap.get (scores_of xs) member ≡ None → IsSorted new xs
sorted_untaken index new xs member sorted is none = record {
  ordered = sorted.ordered;
  indexed = index_changed index new (λ scores. finmap.remove scores member) xs xs sorted.indexed is (sym (nothing_gone (scores_of xs) member none)) (omega arith);
}
