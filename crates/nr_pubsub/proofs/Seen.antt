-- A map of the code as a finite map, its keys and values seen through functions.
use Rattle.std.proofs.Common.{◌≡◌, Bool, true, false, cond, ◌&&◌, Option, Some, None, List, [], ◌∷◌, map, refl, ap, sym, ◌∙◌}
use Rattle.std.specs.declared.cmp.Ordering.{Ordering}
use Rattle.std.specs.declared.cmp.Ordering.TheVariants.{Less, Equal}
use Rattle.std.specs.List.{AllByRecursion}
use Rattle.std.specs.List.Sorted.{IsStrictlySortedBy}
use Rattle.std.specs.Map.{lookup, keys_of}
use Rattle.std.specs.Option.{option_map, option_or}
use Rattle.std.specs.Ordering.{eq_by_cmp, is_eq, is_lt}
use Rattle.std.specs.Cmp.{IsTotalOrder, Equal-is, eq_by_cmp_equiv}
use Rattle.std.specs.FinMap as finmap
use Rattle.std.specs.FinMap.Entries as entries

-- the second of two changes at one place counts
pub twice : {A : Type 0} (b : Bool) (x y z : A) → cond b x (cond b y z) ≡ cond b x z
twice true x y z = refl
twice false x y z = refl

-- entries are in order where their keys are
below_keys : {K X : Type 0} (R : K → K → Ordering) (x : K) (es : List (K × X))
    → entries.below_all R x es ≡ entries.below_all R x (map (λ k. (k, tt {0})) (map (λ e. e.0) es))
below_keys R x [] = refl
below_keys R x (e ∷ es) = ap (λ b. is_lt (R x e.0) && b) (below_keys R x es)

pub sorted_keys : {K X : Type 0} (R : K → K → Ordering) (es : List (K × X))
    → entries.is_sorted R es ≡ entries.is_sorted R (map (λ k. (k, tt {0})) (map (λ e. e.0) es))
sorted_keys R [] = refl
sorted_keys R (e ∷ es) = λ i. below_keys R e.0 es i && sorted_keys R es i

option_map-cond : {X Y : Type 0} (v : X → Y) (b : Bool) (w o : Option X) → option_map v (cond b w o) ≡ cond b (option_map v w) (option_map v o)
option_map-cond v true w o = refl
option_map-cond v false w o = refl

module _ {K X Q Y : Type 0} (R : Q → Q → Ordering) (o : IsTotalOrder R) (f : K → Q) (v : X → Y) where
  abbrev pub seen : List (K × X) → finmap.FinMap R Y
  seen es = finmap.from_entries (map (λ e. (f e.0, v e.1)) es)

  find-seen : (q : Q) (es : List (K × X)) → finmap.find R q (map (λ e. (f e.0, v e.1)) es) ≡ option_map v (lookup (λ k. eq_by_cmp R q (f k)) es)
  find-seen q [] = refl
  find-seen q (e ∷ es) =
      ap (cond (eq_by_cmp R q (f e.0)) (Some (v e.1))) (find-seen q es)
      ∙ sym (option_map-cond v (eq_by_cmp R q (f e.0)) (Some e.1) (lookup (λ k. eq_by_cmp R q (f k)) es))

  pub get-seen : (es : List (K × X)) (q : Q) → finmap.get (seen es) q ≡ option_map v (lookup (λ k. eq_by_cmp R q (f k)) es)
  get-seen es q = finmap.get-from_entries o (map (λ e. (f e.0, v e.1)) es) q ∙ find-seen q es

  -- after a change at one key, each is found as before but for that one
  pub changed : (old new : List (K × X)) (key : Q) (w : Option X)
      → ((q : Q) → lookup (λ k. eq_by_cmp R q (f k)) new ≡ cond (eq_by_cmp R key q) w (lookup (λ k. eq_by_cmp R q (f k)) old))
      → (q : Q) → finmap.get (seen new) q ≡ cond (eq_by_cmp R q key) (option_map v w) (finmap.get (seen old) q)
  changed old new key w at q =
      get-seen new q ∙ ap (option_map v) (at q) ∙ option_map-cond v (eq_by_cmp R key q) w (lookup (λ k. eq_by_cmp R q (f k)) old)
      ∙ (λ i. cond ((eq_by_cmp_equiv o).symm key q i) (option_map v w) (sym (get-seen old q) i))

or_none : {A : Type 0} (o : Option A) → option_or o None ≡ o
or_none None = refl
or_none (Some x) = refl

module _ {K X Q Y : Type 0} (R : Q → Q → Ordering) (o : IsTotalOrder R) (exact : finmap.IsAntisymmetric R) (f : K → Q) (v : X → Y) where
  abbrev at_key : Q → K → Bool
  at_key q k = eq_by_cmp R q (f k)

  abbrev through : K → K → Ordering
  through a b = R (f a) (f b)

  -- none behind a key ties with it
  none_behind : (q : Q) (key : K) (es : List (K × X)) → R q (f key) ≡ Equal → AllByRecursion (λ k. through key k ≡ Less) (keys_of es)
      → lookup (at_key q) es ≡ None
  none_behind q key [] here all = refl
  none_behind q key (e ∷ es) here all =
      ap (λ r. cond (is_eq r) (Some e.1) (lookup (at_key q) es)) (o.congr q (f key) (f e.0) here ∙ all.0) ∙ none_behind q key es here all.1

  -- what was copied and what is left are all
  pub record IsCopied (all copy : finmap.FinMap R Y) (left : List (K × X)) : Type 0 where
    pub rises : IsStrictlySortedBy through (keys_of left)
    pub found : (q : Q) → option_or (finmap.get (seen R o f v left) q) (finmap.get copy q) ≡ finmap.get all q

  pub copied_none : (copy : finmap.FinMap R Y) (all : List (K × X)) → copy ≡ finmap.empty → IsStrictlySortedBy through (keys_of all)
      → IsCopied (seen R o f v all) copy all
  copied_none copy all none rises = record {
    rises = rises;
    found = λ q. ap (λ m. option_or (finmap.get (seen R o f v all) q) (finmap.get m q)) none
        ∙ ap (option_or (finmap.get (seen R o f v all) q)) (finmap.get-empty R q) ∙ or_none (finmap.get (seen R o f v all) q);
  }

  rises_behind : (key : K) (keys : List K) → IsStrictlySortedBy through (key ∷ keys)
      → AllByRecursion (λ k. through key k ≡ Less) keys × IsStrictlySortedBy through keys
  unfolding IsStrictlySortedBy
  rises_behind key keys rises = rises

  pub copied_more : (all old new : finmap.FinMap R Y) (e : K × X) (left : List (K × X)) → IsCopied all old (e ∷ left)
      → ((q : Q) → finmap.get new q ≡ cond (eq_by_cmp R q (f e.0)) (Some (v e.1)) (finmap.get old q)) → IsCopied all new left
  copied_more all old new e left so_far at =
      let parts = rises_behind e.0 (keys_of left) so_far.rises in
      record {
        rises = parts.1;
        found = λ q.
            ap (option_or (finmap.get (seen R o f v left) q)) (at q)
            ∙ elim (eq_by_cmp R q (f e.0)) as (λ t. eq_by_cmp R q (f e.0) ≡ t
            → option_or (finmap.get (seen R o f v left) q) (cond t (Some (v e.1)) (finmap.get old q))
            ≡ option_or (cond t (Some (v e.1)) (finmap.get (seen R o f v left) q)) (finmap.get old q)) [
              | true ↦ λ here. ap (λ (found : Option Y). option_or found (Some (v e.1)))
                  (get-seen R o f v left q ∙ ap (option_map v) (none_behind q e.0 left ((Equal-is (R q (f e.0))).0 here) parts.0))
              | false ↦ λ _. refl
            ] refl
            ∙ ap (λ (found : Option Y). option_or found (finmap.get old q)) (sym (finmap.get-insert o (seen R o f v left) (f e.0) (v e.1) q))
            ∙ so_far.found q;
      }

  pub copied_all : (all copy : finmap.FinMap R Y) → IsCopied all copy [] → copy ≡ all
  copied_all all copy whole = finmap.same_map o exact copy all
      (λ q. sym (ap (λ (found : Option Y). option_or found (finmap.get copy q)) (finmap.get-empty R q)) ∙ whole.found q)
