-- Sums of scores by members, put in one after another, and what of them is kept.
use Rattle.std.proofs.Common.{◌≡◌, ℤ, Bool, true, false, cond, ◌&&◌, T, Option, Some, None, List, [], ◌∷◌, map, refl, ap, sym, ◌∙◌, subst}
use Rattle.std.specs.Prelude.{fold}
use Rattle.std.specs.declared.cmp.Ordering.{Ordering}
use Rattle.std.specs.declared.cmp.Ordering.TheVariants.{Less, Equal, Greater}
use Rattle.std.specs.Ordering.{eq_by_cmp, is_eq, is_lt, match_ordering}
use Rattle.std.specs.Cmp.Lexicographic.{nat_list_cmp_total}
use Rattle.std.specs.List.{AllByRecursion, list_all}
use Rattle.std.specs.List.Sorted.{IsStrictlySortedBy}
use Rattle.std.specs.Option.{option_or}
use Rattle.std.specs.Map.{keys_of, lookup}
use Rattle.std.specs.BTreeMap.{insert_entry}
use Rattle.std.specs.FinMap as finmap
use Rattle.std.specs.FinMap.Entries as entries
use Rattle.std.proofs.lemmas.Map.Lookups.{exact_bytes}
use Rattle.nr_model.specs.Bytes.{Bytes}
use Rattle.nr_model.specs.Keyspace.{byte_cmp}
use Rattle.nr_model.specs.SortedSets.{Scored, Scores, is_score, are_scores, gathered, weighted, joined, are_in_all}
use Rattle.nr_model.specs.declared.command.Aggregate.{Aggregate}
use Rattle.nr_model.specs.declared.command.Joining.{Joining}
use Rattle.nr_model.specs.declared.command.Joining.TheVariants.{Union, Intersection}
use Rattle.nr_model.proofs.Ordered.{equal_from}
use Rattle.nr_zsets.specs.Lists.{shown}
use Rattle.nr_ranked.proofs.StoringListings.{IsOnce}
use Rattle.nr_ranked.specs.Sums.{kept_by, kept_in, built_one, is_right}
use Rattle.nr_ranked.proofs.StoringListings.{found_in, once_sorted}
use denote.Ref.{Bor}

abbrev pub Entries : Type 0
Entries = List (Bor Bytes × ℤ)

abbrev pub through : Bor Bytes → Bor Bytes → Ordering
through x y = byte_cmp x.now y.now

abbrev seen : Entries → Scores
seen es = finmap.from_entries (map shown es)

placed : (es : Entries) (k : Bor Bytes) (v : ℤ) → map shown (insert_entry through es k v) ≡ entries.put byte_cmp k.now v (map shown es)
placed [] k v = refl
placed (e ∷ es) k v =
    elim (byte_cmp k.now e.0.now) as (λ r. map shown (match_ordering r ((k, v) ∷ e ∷ es) ((e.0, v) ∷ es) (e ∷ insert_entry through es k v))
    ≡ entries.by_order r ((k.now, v) ∷ map shown (e ∷ es)) ((e.0.now, v) ∷ map shown es) (shown e ∷ entries.put byte_cmp k.now v (map shown es))) [
      | Less ↦ refl
      | Equal ↦ refl
      | Greater ↦ ap (λ ys. shown e ∷ ys) (placed es k v)
    ]

-- a sum put in
pub inserted_sum : (old new : Entries) (k : Bor Bytes) (v : ℤ) → new ≡ insert_entry through old k v → seen new ≡ finmap.insert (seen old) k.now v
inserted_sum old new k v is = finmap.same_map nat_list_cmp_total exact_bytes _ _ (λ q.
    found_in (map shown new) q
    ∙ ap (finmap.find byte_cmp q) (ap (map shown) is ∙ placed old k v)
    ∙ entries.find-put byte_cmp nat_list_cmp_total q k.now v (map shown old)
    ∙ ap (cond (eq_by_cmp byte_cmp q k.now) (Some v)) (sym (found_in (map shown old) q))
    ∙ sym (finmap.get-insert nat_list_cmp_total (seen old) k.now v q))

found_at : (es : Entries) (q : Bytes) → lookup (λ k. is_eq (byte_cmp q k.now)) es ≡ finmap.find byte_cmp q (map shown es)
found_at [] q = refl
found_at (e ∷ es) q = ap (cond (is_eq (byte_cmp q e.0.now)) (Some e.1)) (found_at es q)

-- the sum of a member
pub found_sum : (es : Entries) (q : Bytes) → lookup (λ k. is_eq (byte_cmp q k.now)) es ≡ finmap.get (seen es) q
found_sum es q = found_at es q ∙ sym (found_in (map shown es) q)

-- members in order

both : (a b : Bool) → T a → T b → T (a && b)
both true b p q = q
both false b p q = p

below : (x : Bor Bytes) (es : Entries) → AllByRecursion (λ y. through x y ≡ Less) (keys_of es) → T (entries.below_all byte_cmp x.now (map shown es))
below x [] all = tt
below x (e ∷ es) all = both (is_lt (byte_cmp x.now e.0.now)) _ (subst (λ r. T (is_lt r)) (sym all.0) tt) (below x es all.1)

rising : (es : Entries) → IsStrictlySortedBy through (keys_of es) → T (entries.is_sorted byte_cmp (map shown es))
unfolding IsStrictlySortedBy
rising [] rises = tt
rising (e ∷ es) rises = both (entries.below_all byte_cmp e.0.now (map shown es)) _ (below e.0 es rises.0) (rising es rises.1)

-- what is built of them

module _ (keeps : Bytes → Bool) where
  alike : (q x : Bytes) → byte_cmp q x ≡ Equal → keeps x ≡ keeps q
  alike q x tied = ap keeps (sym (exact_bytes q x tied))

  get_kept : (es : List Scored) (q : Bytes) → finmap.get (finmap.retain_keys (finmap.from_entries {R = byte_cmp} es) keeps) q ≡ cond (keeps q) (finmap.find byte_cmp q es) None
  get_kept es q =
      finmap.get-retain_keys (finmap.from_entries es) keeps q (alike q) ∙ ap (λ (o : Option ℤ). cond (keeps q) o None) (found_in es q)

  first_built : (b : Bool) (x : Scored) (scores : Scores) (q : Bytes)
      → finmap.get (cond b (finmap.insert scores x.0 x.1) scores) q ≡ cond b (cond (eq_by_cmp byte_cmp q x.0) (Some x.1) (finmap.get scores q)) (finmap.get scores q)
  first_built true x scores q = finmap.get-insert nat_list_cmp_total scores x.0 x.1 q
  first_built false x scores q = refl

  joins : (k k' t : Bool) (x : ℤ) (found held : Option ℤ) → (t ≡ true → (k ≡ k') × (found ≡ None))
      → option_or (cond k' found None) (cond k (cond t (Some x) held) held) ≡ option_or (cond k' (cond t (Some x) found) None) held
  joins true true true x found held same = ap (λ (o : Option ℤ). option_or o (Some x)) (same refl).1
  joins false false true x found held same = refl
  joins true false true x found held same = absurd (cc (same refl).0)
  joins false true true x found held same = absurd (cc (same refl).0)
  joins true true false x found held same = refl
  joins false true false x found held same = refl
  joins true false false x found held same = refl
  joins false false false x found held same = refl

  get_built : (es : List Scored) (scores : Scores) (q : Bytes) → IsOnce es
      → finmap.get (fold (built_one keeps) scores es) q ≡ option_or (cond (keeps q) (finmap.find byte_cmp q es) None) (finmap.get scores q)
  get_built [] scores q once = elim (keeps q) as (λ b. finmap.get scores q ≡ option_or (cond b None None) (finmap.get scores q)) [ true ↦ refl | false ↦ refl ]
  get_built (x ∷ es) scores q once =
      get_built es (built_one keeps scores x) q once.1
      ∙ ap (option_or (cond (keeps q) (finmap.find byte_cmp q es) None)) (first_built (keeps x.0) x scores q)
      ∙ joins (keeps x.0) (keeps q) (eq_by_cmp byte_cmp q x.0) x.1 (finmap.find byte_cmp q es) (finmap.get scores q) (λ t.
      let same : q ≡ x.0 = exact_bytes q x.0 (equal_from _ t) in
      (ap keeps (sym same), ap (λ (k : Bytes). finmap.find byte_cmp k es) same ∙ once.0))

  or_empty : (o : Option ℤ) → option_or o None ≡ o
  or_empty None = refl
  or_empty (Some x) = refl

  built_list : (es : List Scored) → IsOnce es → fold (built_one keeps) finmap.empty es ≡ finmap.retain_keys (finmap.from_entries es) keeps
  built_list es once = finmap.same_map nat_list_cmp_total exact_bytes _ _ (λ q.
      get_built es finmap.empty q once
      ∙ ap (option_or (cond (keeps q) (finmap.find byte_cmp q es) None)) (finmap.get-empty byte_cmp q)
      ∙ or_empty (cond (keeps q) (finmap.find byte_cmp q es) None)
      ∙ sym (get_kept es q))

  kept_entries : (es : List Scored) → T (entries.is_sorted byte_cmp es) → finmap.entries {R = byte_cmp} (finmap.retain_keys (finmap.from_entries es) keeps) ≡ entries.where_key byte_cmp keeps es
  kept_entries es rises =
      let m : Scores = finmap.retain_keys (finmap.from_entries es) keeps in
      entries.same_entries byte_cmp nat_list_cmp_total exact_bytes (finmap.entries m) (entries.where_key byte_cmp keeps es)
      (finmap.entries_sorted m) (entries.is_sorted-where_key byte_cmp keeps es rises)
      (λ q. sym (finmap.get-entries m q) ∙ get_kept es q ∙ sym (entries.find-where_key byte_cmp keeps q (alike q) es))

  all_right : (es : List Scored) → list_all is_score (map (λ e. e.1) (entries.where_key byte_cmp keeps es)) ≡ list_all (is_right keeps) es
  all_right [] = refl
  all_right (e ∷ es) =
      let more = all_right es in
      elim (keeps e.0) as (λ b. list_all is_score (map (λ e. e.1) (cond b (e ∷ entries.where_key byte_cmp keeps es) (entries.where_key byte_cmp keeps es)))
      ≡ (cond b (is_score e.1) true && list_all (is_right keeps) es)) [
        | true ↦ ap (λ b. is_score e.1 && b) more
        | false ↦ more
      ]

  -- those that stay, all being put in
  built_all : (es : Entries) → IsStrictlySortedBy through (keys_of es) → fold (built_one keeps) finmap.empty (map shown es) ≡ finmap.retain_keys (seen es) keeps
  built_all es rises = built_list (map shown es) (once_sorted (map shown es) (rising es rises))

  -- and they are scores where each was found right
  scores_all : (es : Entries) → IsStrictlySortedBy through (keys_of es) → are_scores (finmap.retain_keys (seen es) keeps) ≡ list_all (is_right keeps) (map shown es)
  scores_all es rises = ap (λ (es : List Scored). list_all is_score (map (λ e. e.1) es)) (kept_entries (map shown es) (rising es rises)) ∙ all_right (map shown es)

  -- where none is left to put in
  pub built_end : (es left : Entries) (zset : Scores) → left ≡ [] → IsStrictlySortedBy through (keys_of es)
      → fold (built_one keeps) zset (map shown left) ≡ fold (built_one keeps) finmap.empty (map shown es) → zset ≡ finmap.retain_keys (seen es) keeps
  built_end es left zset none rises so_far = sym (ap (λ (es : Entries). fold (built_one keeps) zset (map shown es)) none) ∙ so_far ∙ built_all es rises

  pub right_end : (es left : Entries) (zset : Scores) → left ≡ [] → IsStrictlySortedBy through (keys_of es) → zset ≡ finmap.retain_keys (seen es) keeps
      → list_all (is_right keeps) (map shown left) ≡ list_all (is_right keeps) (map shown es) → are_scores zset ≡ true
  right_end es left zset none rises is so_far =
      ap are_scores is ∙ scores_all es rises ∙ sym so_far ∙ ap (λ (es : Entries). list_all (is_right keeps) (map shown es)) none

  -- where the next is wrong
  pub wrong_end : (es items left : Entries) (x : Bor Bytes × ℤ) → items ≡ x ∷ left → IsStrictlySortedBy through (keys_of es)
      → list_all (is_right keeps) (map shown items) ≡ list_all (is_right keeps) (map shown es) → is_right keeps (shown x) ≡ false
      → are_scores (finmap.retain_keys (seen es) keeps) ≡ false
  wrong_end es items left x is rises so_far wrong =
      scores_all es rises ∙ sym so_far ∙ ap (λ (es : Entries). list_all (is_right keeps) (map shown es)) is
      ∙ ap (λ b. b && list_all (is_right keeps) (map shown left)) wrong

pub all_mapped : {A B : Type 0} (f : B → Bool) (g : A → B) (xs : List A) → list_all f (map g xs) ≡ list_all (λ x. f (g x)) xs
all_mapped f g [] = refl
all_mapped f g (x ∷ xs) = ap (λ b. f (g x) && b) (all_mapped f g xs)

-- what is joined is what stays of the sums

all_stay : (scores : Scores) → finmap.retain_keys scores (λ member. true) ≡ scores
all_stay scores = finmap.same_map nat_list_cmp_total exact_bytes _ _ (λ q. finmap.get-retain_keys scores (λ member. true) q (λ x tied. refl))

in_all : (sources : List Scores) (weights : List ℤ) (member : Bytes) → are_in_all (weighted sources weights) member ≡ kept_by Intersection sources member
in_all [] weights member = refl
in_all (scores ∷ sources) [] member = ap (λ b. finmap.contains_key scores member && b) (in_all sources [] member)
in_all (scores ∷ sources) (weight ∷ weights) member = ap (λ b. finmap.contains_key scores member && b) (in_all sources weights member)

pub joined_is : (joining : Joining) (aggregate : Aggregate) (sources : List Scores) (weights : List ℤ)
    → joined joining aggregate (weighted sources weights) ≡ kept_in joining sources (fold (gathered aggregate) finmap.empty (weighted sources weights))
joined_is Union aggregate sources weights = sym (all_stay (fold (gathered aggregate) finmap.empty (weighted sources weights)))
joined_is Intersection aggregate sources weights =
    λ i. finmap.retain_keys (fold (gathered aggregate) finmap.empty (weighted sources weights)) (λ member. in_all sources weights member i)
