-- Pairs copied one after another.
use Rattle.std.proofs.Common.{◌≡◌, [], ◌∷◌, ◌++◌, refl, ap, sym, ◌∙◌, subst, append_assoc}
use Rattle.std.specs.declared.cmp.Ordering.TheVariants.{Less, Greater}
use Rattle.std.specs.Ordering.{match_ordering, ordering_reverse}
use Rattle.std.specs.Cmp.Lexicographic.{nat_list_cmp_total}
use Rattle.std.specs.List.{AllByRecursion}
use Rattle.std.specs.List.Sorted.{IsStrictlySortedBy}
use Rattle.std.specs.Map.{keys_of}
use Rattle.std.specs.BTreeMap.{insert_entry}
use Rattle.nr_model.specs.Bytes.{Bytes}
use Rattle.nr_model.specs.Keyspace.{byte_cmp}
use Rattle.nr_packs.specs.Packed.{Entries}

last_of : (x k v : Bytes) (es left : Entries) → AllByRecursion (λ y. byte_cmp x y ≡ Less) (keys_of (es ++ (k, v) ∷ left)) → byte_cmp x k ≡ Less
last_of x k v [] left all = all.0
last_of x k v (e ∷ es) left all = last_of x k v es left all.1

-- the greatest goes to the end
inserted_last : (es : Entries) (k v : Bytes) (left : Entries) → IsStrictlySortedBy byte_cmp (keys_of (es ++ (k, v) ∷ left)) → insert_entry byte_cmp es k v ≡ es ++ (k, v) ∷ []
unfolding IsStrictlySortedBy
inserted_last [] k v left rises = refl
inserted_last (e ∷ es) k v left rises =
    let above : byte_cmp k e.0 ≡ Greater = nat_list_cmp_total.antisymm k e.0 ∙ ap ordering_reverse (last_of e.0 k v es left rises.0) in
    ap (λ r. match_ordering r ((k, v) ∷ e ∷ es) ((e.0, v) ∷ es) (e ∷ insert_entry byte_cmp es k v)) above ∙ ap (λ ys. e ∷ ys) (inserted_last es k v left rises.1)

-- one more is copied
pub copied_more : (all copied new left : Entries) (field value k v : Bytes) → IsStrictlySortedBy byte_cmp (keys_of all) → copied ++ (field, value) ∷ left ≡ all → k ≡ field → v ≡ value
    → new ≡ insert_entry byte_cmp copied k v → new ++ left ≡ all
copied_more all copied new left field value k v rises so_far same_field same_value is =
    let place : copied ++ (k, v) ∷ left ≡ all = (λ i. copied ++ (same_field i, same_value i) ∷ left) ∙ so_far in
    let last : new ≡ copied ++ (k, v) ∷ [] = is ∙ inserted_last copied k v left (subst (λ (es : Entries). IsStrictlySortedBy byte_cmp (keys_of es)) (sym place) rises) in
    ap (λ es. es ++ left) last ∙ append_assoc copied ((k, v) ∷ []) left ∙ place
