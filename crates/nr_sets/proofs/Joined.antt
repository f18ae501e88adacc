-- Members put into one list, set after set.
use Rattle.std.proofs.Common.{◌≡◌, Bool, true, false, ◌||◌, List, [], ◌∷◌, map, refl, ap, sym, ◌∙◌}
use Rattle.std.specs.Prelude.{fold}
use Rattle.std.specs.declared.cmp.Ordering.TheVariants.{Less, Equal, Greater}
use Rattle.std.specs.Ordering.{match_ordering}
use Rattle.std.specs.BTreeSet.{insert_key}
use Rattle.std.specs.FinSet as set
use Rattle.std.specs.Map.Iter.{deref}
use Rattle.std.specs.Cmp.Lexicographic.{nat_list_cmp_total}
use Rattle.nr_model.specs.Bytes.{Bytes}
use Rattle.nr_model.specs.Keyspace.{byte_cmp}
use Rattle.nr_model.specs.Names.{put}
use Rattle.nr_model.specs.Sets.{Members, listed, union_of}
use Rattle.nr_model.proofs.Ordered.{has, IsOrdered, ordered-puts, has-puts}
use Rattle.nr_sets.proofs.Seen.{listed_is, has-listed}
use denote.Ref.{Bor}

-- each at its place
abbrev pub puts : List Bytes → List Bytes → List Bytes
puts members into = fold (λ members member. put byte_cmp member members) into members

-- the members of several sets
abbrev pub joined_with : List Bytes → List Members → List Bytes
joined_with into [] = into
joined_with into (s ∷ sets) = joined_with (puts (listed s) into) sets

-- a key put in is put into what the keys are seen as
pub put_key : (keys : List (Bor Bytes)) (k : Bor Bytes) → map deref (insert_key (λ x y. byte_cmp x.now y.now) keys k) ≡ put byte_cmp k.now (map deref keys)
put_key [] k = refl
put_key (x ∷ keys) k =
    elim (byte_cmp k.now x.now) as (λ r. map deref (match_ordering r (k ∷ x ∷ keys) (x ∷ keys) (x ∷ insert_key (λ x y. byte_cmp x.now y.now) keys k))
    ≡ elim r [ Less ↦ k.now ∷ x.now ∷ map deref keys | Equal ↦ x.now ∷ map deref keys | Greater ↦ x.now ∷ put byte_cmp k.now (map deref keys) ]) [
      | Less ↦ refl
      | Equal ↦ refl
      | Greater ↦ ap (λ ks. x.now ∷ ks) (put_key keys k)
    ]

ordered : (into : List Bytes) (sets : List Members) → IsOrdered byte_cmp into → IsOrdered byte_cmp (joined_with into sets)
ordered into [] h = h
ordered into (s ∷ sets) h = ordered (puts (listed s) into) sets (ordered-puts byte_cmp nat_list_cmp_total (listed s) into h)

either : (a b : Bool) → (a || b) ≡ (b || a)
either true true = refl
either true false = refl
either false true = refl
either false false = refl

same_members : (into : List Bytes) (s : Members) (sets : List Members) (q : Bytes) → has byte_cmp q into ≡ set.contains s q
    → has byte_cmp q (joined_with into sets) ≡ set.contains (fold set.union s sets) q
same_members into s [] q same = same
same_members into s (other ∷ sets) q same = same_members (puts (listed other) into) (set.union s other) sets q
    (has-puts byte_cmp nat_list_cmp_total q (listed other) into
    ∙ (λ i. has-listed other q i || same i)
    ∙ either (set.contains other q) (set.contains s q)
    ∙ sym (set.contains-union nat_list_cmp_total s other q))

-- the members of all, in order
pub joined_is : (sets : List Members) → joined_with [] sets ≡ listed (union_of sets)
joined_is sets = listed_is (union_of sets) (joined_with [] sets) (ordered [] sets tt) (λ q. same_members [] set.empty sets q (sym (set.contains-empty byte_cmp q)))
