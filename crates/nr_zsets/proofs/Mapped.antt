-- What a change of the entries is on the finite map that they make.
use Rattle.std.proofs.Common.{◌≡◌, ◌+◌, true, false, cond, Option, Some, None, is_some, ℤ, List, [], ◌∷◌, length, refl, ap, sym, ◌∙◌, arith}
use Rattle.std.specs.Str.{bytes_eq}
use Rattle.std.specs.List.{IsDistinct}
use Rattle.std.specs.Ordering.{eq_by_cmp}
use Rattle.std.specs.Option.{option_or}
use Rattle.std.specs.Cmp.Lexicographic.{nat_list_cmp_total, nat_list_eq_equiv, texts_ties, bytes_decides}
use Rattle.std.specs.Map.{lookup, keys_of, KeepsOthers}
use Rattle.std.specs.FinMap as finmap
use Rattle.std.proofs.lemmas.List.{nil_from_length}
use Rattle.std.proofs.lemmas.Map.{lookup-none}
use Rattle.std.proofs.lemmas.Map.Entries.{none_past_head}
use Rattle.std.proofs.lemmas.Map.Keys.{IsDistinct-tail}
use Rattle.std.proofs.lemmas.Map.Lookups.{exact_bytes}
use Rattle.nr_model.specs.Bytes.{Bytes}
use Rattle.nr_model.specs.Keyspace.{byte_cmp}
use Rattle.nr_model.specs.SortedSets.{Scored, Scores}
use Rattle.nr_zsets.specs.Scores.{scores_of}

find-mapped : (q : Bytes) (entries : List Scored) → finmap.find byte_cmp q entries ≡ lookup (bytes_eq q) entries
find-mapped q [] = refl
find-mapped q (e ∷ entries) =
    ap (λ b. cond b (Some e.1) (finmap.find byte_cmp q entries)) (sym (texts_ties q e.0)) ∙ ap (cond (bytes_eq q e.0) (Some e.1)) (find-mapped q entries)

pub get-mapped : (entries : List Scored) (q : Bytes) → finmap.get (scores_of entries) q ≡ lookup (bytes_eq q) entries
get-mapped entries q = finmap.get-from_entries nat_list_cmp_total entries q ∙ find-mapped q entries

-- what the map finds is what is seen
pub found : (entries : List Scored) (scores : Scores) (member : Bytes) (score : Option ℤ) → scores_of entries ≡ scores → score ≡ lookup (bytes_eq member) entries
    → score ≡ finmap.get scores member
found entries scores member score seen is = is ∙ sym (get-mapped entries member) ∙ ap (λ m. finmap.get m member) seen

-- after a change at one member, any other is found as before
changed : (old new : List Scored) (member : Bytes) (score : Option ℤ) → lookup (bytes_eq member) new ≡ score → KeepsOthers bytes_eq (bytes_eq member) old new
    → (q : Bytes) → finmap.get (scores_of new) q ≡ cond (eq_by_cmp byte_cmp q member) score (finmap.get (scores_of old) q)
unfolding KeepsOthers
changed old new member score at_member others q =
    let found : lookup (bytes_eq q) new ≡ cond (bytes_eq q member) score (lookup (bytes_eq q) old) =
    elim (bytes_eq q member) as (λ t. bytes_eq q member ≡ t → lookup (bytes_eq q) new ≡ cond t score (lookup (bytes_eq q) old)) [
      | true ↦ λ t. ap (λ n. lookup (bytes_eq n) new) ((bytes_decides q member).0 t) ∙ at_member
      | false ↦ λ t. others (bytes_eq q) (nat_list_eq_equiv.congr q) (λ k same. ap (bytes_eq q) (sym ((bytes_decides member k).0 same)) ∙ t)
    ] refl in
    get-mapped new q ∙ found
    ∙ ap (λ b. cond b score (lookup (bytes_eq q) old)) (texts_ties q member)
    ∙ ap (cond (eq_by_cmp byte_cmp q member) score) (sym (get-mapped old q))

pub inserted : (old new : List Scored) (member : Bytes) (score : ℤ) → lookup (bytes_eq member) new ≡ Some score → KeepsOthers bytes_eq (bytes_eq member) old new
    → scores_of new ≡ finmap.insert (scores_of old) member score
inserted old new member score at_member others = finmap.same_map nat_list_cmp_total exact_bytes _ _ (λ q.
    changed old new member (Some score) at_member others q ∙ sym (finmap.get-insert nat_list_cmp_total (scores_of old) member score q))

pub removed : (old new : List Scored) (member : Bytes) → lookup (bytes_eq member) new ≡ None → KeepsOthers bytes_eq (bytes_eq member) old new
    → scores_of new ≡ finmap.remove (scores_of old) member
removed old new member at_member others = finmap.same_map nat_list_cmp_total exact_bytes _ _ (λ q.
    changed old new member None at_member others q ∙ sym (finmap.get-remove nat_list_cmp_total (scores_of old) member q))

only_once : (e : Scored) (left : List Scored) → IsDistinct bytes_eq (keys_of (e ∷ left)) → (q : Bytes) → q ≡ e.0 → finmap.get (scores_of left) q ≡ None
only_once e left distinct q named =
    get-mapped left q
    ∙ ap (λ n. lookup (bytes_eq n) left) named
    ∙ lookup-none (bytes_eq e.0) left (none_past_head nat_list_eq_equiv e.0 e left distinct (nat_list_eq_equiv.refl e.0))

-- as many members as entries
pub len_mapped : (entries : List Scored) → IsDistinct bytes_eq (keys_of entries) → finmap.len (scores_of entries) ≡ length entries
len_mapped [] distinct = finmap.len-empty byte_cmp ℤ
len_mapped (e ∷ entries) distinct =
    finmap.len-insert nat_list_cmp_total (scores_of entries) e.0 e.1
    ∙ ap (λ (o : Option ℤ). cond (is_some o) (finmap.len (scores_of entries)) (finmap.len (scores_of entries) + 1)) (only_once e entries distinct e.0 refl)
    ∙ omega (arith, len_mapped entries (IsDistinct-tail bytes_eq e.0 (keys_of entries) distinct))

-- what is copied and what is left are all
pub record IsCopied (all : Scores) (copied left : List Scored) : Type 0 where
  pub distinct : IsDistinct bytes_eq (keys_of left)
  pub found : (q : Bytes) → option_or (finmap.get (scores_of left) q) (finmap.get (scores_of copied) q) ≡ finmap.get all q

or_none : {A : Type 0} (o : Option A) → option_or o None ≡ o
or_none None = refl
or_none (Some x) = refl

pub copied_none : (entries copied left : List Scored) → IsDistinct bytes_eq (keys_of entries) → copied ≡ [] → left ≡ entries
    → IsCopied (scores_of entries) copied left
copied_none entries copied left distinct none all = rw (none, all) record {
  distinct = distinct;
  found = λ q. ap (option_or (finmap.get (scores_of entries) q)) (finmap.get-empty byte_cmp q) ∙ or_none (finmap.get (scores_of entries) q);
}

pub copied_more : (all : Scores) (copied new : List Scored) (e : Scored) (left : List Scored) → IsCopied all copied (e ∷ left)
    → scores_of new ≡ finmap.insert (scores_of copied) e.0 e.1 → IsCopied all new left
copied_more all copied new e left so_far is = record {
  distinct = IsDistinct-tail bytes_eq e.0 (keys_of left) so_far.distinct;
  found = λ q.
      ap (option_or (finmap.get (scores_of left) q)) (ap (λ m. finmap.get m q) is ∙ finmap.get-insert nat_list_cmp_total (scores_of copied) e.0 e.1 q)
      ∙ elim (eq_by_cmp byte_cmp q e.0) as (λ t. eq_by_cmp byte_cmp q e.0 ≡ t
      → option_or (finmap.get (scores_of left) q) (cond t (Some e.1) (finmap.get (scores_of copied) q))
      ≡ option_or (cond t (Some e.1) (finmap.get (scores_of left) q)) (finmap.get (scores_of copied) q)) [
        | true ↦ λ here. ap (λ (o : Option ℤ). option_or o (Some e.1))
            (only_once e left so_far.distinct q ((bytes_decides q e.0).0 (texts_ties q e.0 ∙ here)))
        | false ↦ λ _. refl
      ] refl
      ∙ ap (λ (o : Option ℤ). option_or o (finmap.get (scores_of copied) q)) (sym (finmap.get-insert nat_list_cmp_total (scores_of left) e.0 e.1 q))
      ∙ so_far.found q;
}

pub copied_all : (all : Scores) (copied : List Scored) → IsCopied all copied [] → scores_of copied ≡ all
copied_all all copied whole = finmap.same_map nat_list_cmp_total exact_bytes _ _ (λ q.
    sym (ap (λ (o : Option ℤ). option_or o (finmap.get (scores_of copied) q)) (finmap.get-empty byte_cmp q)) ∙ whole.found q)

pub none_ranked : finmap.entries (scores_of []) ≡ []
none_ranked = nil_from_length _ (sym (finmap.len-entries finmap.empty) ∙ finmap.len-empty byte_cmp ℤ)
