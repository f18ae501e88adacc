-- What std's ordered sets do to their keys, in the words of the definitions.
use Rattle.std.proofs.Common.{◌≡◌, Bool, true, false, cond, not, ◌||◌, ◌&&◌, List, [], ◌∷◌, map, refl, ap, sym, ◌∙◌, subst}
use Rattle.std.specs.Prelude.{T, filter, bytes_eq}
use Rattle.std.specs.declared.cmp.Ordering.{Ordering}
use Rattle.std.specs.declared.cmp.Ordering.TheVariants.{Less, Equal, Greater}
use Rattle.std.specs.List.{AllByRecursion, list_any}
use Rattle.std.specs.List.Sorted.{IsStrictlySortedBy}
use Rattle.std.specs.Ordering.{eq_by_cmp, is_lt, match_ordering}
use Rattle.std.specs.Cmp.{IsTotalOrder, eq_by_cmp_equiv}
use Rattle.std.specs.Cmp.Lexicographic.{nat_list_cmp_total, texts_ties}
use Rattle.std.specs.BTreeSet.{insert_key}
use Rattle.std.specs.FinMap.{IsAntisymmetric}
use Rattle.std.specs.FinMap.Entries as entries
use Rattle.std.proofs.lemmas.Map.Lookups.{exact_bytes}
use Rattle.nr_model.specs.Bytes.{Bytes}
use Rattle.nr_model.specs.Keyspace.{byte_cmp}
use Rattle.nr_model.specs.Names.{put, without_name}
use Rattle.nr_model.proofs.Ordered.{has, IsOrdered, ordered-filter, has-filter, ordered-put, has-put, tied-is, same_ordered, or_false}

both : (a b : Bool) → T a → T b → T (a && b)
both true b p q = q
both false b p q = p

pub cond_and : (b c : Bool) → cond b false c ≡ (not b && c)
cond_and true c = refl
cond_and false c = refl

or_step : (own old rest : Bool) → (cond own true old || rest) ≡ (old || (own || rest))
or_step true true rest = refl
or_step true false rest = refl
or_step false old rest = refl

module _ {K : Type 0} (R : K → K → Ordering) where
  -- as entries with nothing at each key
  abbrev marked : List K → List (K × Unit {0})
  marked xs = map (λ x. (x, tt)) xs

  below : (x : K) (ks : List K) → AllByRecursion (λ y. R x y ≡ Less) ks → T (entries.below_all R x (marked ks))
  below x [] all = tt
  below x (k ∷ ks) all = both (is_lt (R x k)) _ (subst (λ r. T (is_lt r)) (sym all.0) tt) (below x ks all.1)

  -- keys that rise are in order
  pub rising : (ks : List K) → IsStrictlySortedBy R ks → IsOrdered R ks
  unfolding IsStrictlySortedBy
  rising [] rises = tt
  rising (k ∷ ks) rises = both (entries.below_all R k (marked ks)) _ (below k ks rises.0) (rising ks rises.1)

  module _ (o : IsTotalOrder R) (exact : IsAntisymmetric R) where
    -- what is in order and lacks a key alone is the rest
    pub removed_is : (k : K) (keeps : K → Bool) → ((q : K) → keeps q ≡ not (eq_by_cmp R k q)) → (old new : List K)
        → IsStrictlySortedBy R old → IsStrictlySortedBy R new
        → ((q : K) → has R q new ≡ cond (eq_by_cmp R k q) false (has R q old)) → new ≡ filter keeps old
    removed_is k keeps is old new rises too at =
        same_ordered R o exact new (filter keeps old) (rising new too) (ordered-filter R keeps old (rising old rises))
        (λ q.
        at q ∙ cond_and (eq_by_cmp R k q) (has R q old) ∙ ap (λ b. b && has R q old) (sym (is q)) ∙ sym (has-filter R o exact q keeps old))

    -- a key that is there once more
    pub put_again : (k : K) (ks : List K) → IsOrdered R ks → has R k ks ≡ true → put R k ks ≡ ks
    put_again k ks ordered there = same_ordered R o exact (put R k ks) ks (ordered-put R o k ks ordered) ordered (λ q.
        has-put R o q k ks
        ∙ elim (eq_by_cmp R q k) as (λ t. eq_by_cmp R q k ≡ t → (t || has R q ks) ≡ has R q ks) [
          | true ↦ λ here. sym there ∙ ap (λ x. has R x ks) (sym (tied-is R o exact q k here))
          | false ↦ λ _. refl
        ] refl)

    -- what was copied and what is left are all
    abbrev pub IsCopied : List K → List K → List K → Type 0
    IsCopied all copied left = (q : K) → (has R q copied || has R q left) ≡ has R q all

    pub copied_more : (all old new left : List K) (k : K) → IsCopied all old (k ∷ left)
        → ((q : K) → has R q new ≡ cond (eq_by_cmp R k q) true (has R q old)) → IsCopied all new left
    copied_more all old new left k so_far at q =
        ap (λ b. b || has R q left) (at q ∙ ap (λ b. cond b true (has R q old)) ((eq_by_cmp_equiv o).symm k q))
        ∙ or_step (eq_by_cmp R q k) (has R q old) (has R q left) ∙ so_far q

    pub copied_all : (all copied : List K) → IsStrictlySortedBy R all → IsStrictlySortedBy R copied → IsCopied all copied [] → copied ≡ all
    copied_all all copied rises too whole =
        same_ordered R o exact copied all (rising copied too) (rising all rises) (λ q. sym (or_false (has R q copied)) ∙ whole q)

-- a name taken out
pub name_removed_is : (name : Bytes) (old new : List Bytes) → IsStrictlySortedBy byte_cmp old → IsStrictlySortedBy byte_cmp new
    → ((q : Bytes) → has byte_cmp q new ≡ cond (eq_by_cmp byte_cmp name q) false (has byte_cmp q old)) → new ≡ without_name old name
name_removed_is name = removed_is byte_cmp nat_list_cmp_total exact_bytes name (λ n. not (bytes_eq n name))
    (λ q. ap not (texts_ties q name ∙ (eq_by_cmp_equiv nat_list_cmp_total).symm q name))

-- Keys that are seen through a function, as a connection by its name in the definitions
module _ {A K : Type 0} (R : K → K → Ordering) (f : A → K) where
  abbrev through : A → A → Ordering
  through a b = R (f a) (f b)

  -- to insert a key is to put it
  pub inserted_is : (ks : List A) (k : A) → map f (insert_key through ks k) ≡ put R (f k) (map f ks)
  inserted_is [] k = refl
  inserted_is (x ∷ xs) k =
      elim (R (f k) (f x)) as (λ r. map f (match_ordering r (k ∷ x ∷ xs) (x ∷ xs) (x ∷ insert_key through xs k))
      ≡ elim r [ Less ↦ f k ∷ f x ∷ map f xs | Equal ↦ f x ∷ map f xs | Greater ↦ f x ∷ put R (f k) (map f xs) ]) [
        | Less ↦ refl
        | Equal ↦ refl
        | Greater ↦ ap (λ ys. f x ∷ ys) (inserted_is xs k)
      ]

  above_seen : (x : A) (ks : List A) → AllByRecursion (λ y. through x y ≡ Less) ks → AllByRecursion (λ y. R (f x) y ≡ Less) (map f ks)
  above_seen x [] all = tt
  above_seen x (k ∷ ks) all = (all.0, above_seen x ks all.1)

  pub rising_seen : (ks : List A) → IsStrictlySortedBy through ks → IsStrictlySortedBy R (map f ks)
  unfolding IsStrictlySortedBy
  rising_seen [] rises = tt
  rising_seen (k ∷ ks) rises = (above_seen k ks rises.0, rising_seen ks rises.1)

  pub has-seen : (q : K) (ks : List A) → has R q (map f ks) ≡ list_any (λ k. eq_by_cmp R q (f k)) ks
  has-seen q [] = refl
  has-seen q (k ∷ ks) = ap (λ b. eq_by_cmp R q (f k) || b) (has-seen q ks)

same_keys : {K : Type 0} (ks : List K) → map (λ k. k) ks ≡ ks
same_keys [] = refl
same_keys (k ∷ ks) = ap (λ xs. k ∷ xs) (same_keys ks)

-- a name put in
pub name_inserted_is : (names : List Bytes) (name : Bytes) → insert_key byte_cmp names name ≡ put byte_cmp name names
name_inserted_is names name =
    sym (same_keys (insert_key byte_cmp names name)) ∙ inserted_is byte_cmp (λ (n : Bytes). n) names name ∙ ap (put byte_cmp name) (same_keys names)
