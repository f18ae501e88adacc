-- The workers of all nodes, one list behind the other.
use Rattle.std.proofs.Common.{◌≡◌, ℕ, zero, suc, List, [], ◌∷◌, ◌++◌, map, length, slice_get, Some, refl, ap, ◌∙◌, subst}
use Rattle.std.specs.Prelude.{flat_map, Result, Ok, Err, IfOk}
use Rattle.std.proofs.lemmas.List.{length-map}
use Rattle.nr_blob.specs.declared.memory.Memory.{Memory}
use Rattle.nr_combiner.specs.Workers.{NodeHandleState, IsNode}
use Rattle.nr_test_parts.specs.Stations.{AreOfNodes}

-- what holds of the image of each holds of each image
each_image : {A B : Type 0} (f : A → B) (P : ℕ → B → Type 0) (xs : List A) → ((n : ℕ) (x : A) → slice_get xs n ≡ Some x → P n (f x))
    → (n : ℕ) (y : B) → slice_get (map f xs) n ≡ Some y → P n y
each_image f P [] all zero y e = absurd (cc e)
each_image f P [] all (suc n) y e = absurd (cc e)
each_image f P (x ∷ xs) all zero y e = subst (P zero) (cc e) (all zero x refl)
each_image f P (x ∷ xs) all (suc n) y e = each_image f (λ (k : ℕ). P (suc k)) xs (λ k z at. all (suc k) z at) n y e

images : {A B : Type 0} (f : A → List B) (xs : List A) → flat_map f xs ≡ flat_map (λ (l : List B). l) (map f xs)
images f [] = refl
images f (x ∷ xs) = ap (λ l. f x ++ l) (images f xs)

pub gathered : {R A : Type 0} (r : Result R Memory) (g : R → List NodeHandleState) (f : A → List NodeHandleState) (xs : List A) (nodes workers connections limit : ℕ)
    → IfOk r (λ (all : R). g all ≡ flat_map f xs) → length xs ≡ nodes
    → ((node : ℕ) (x : A) → slice_get xs node ≡ Some x → IsNode workers connections limit node (f x))
    → IfOk r (λ (all : R). AreOfNodes nodes workers connections limit (g all))
gathered (Ok all) g f xs nodes workers connections limit is count each = record {
  by_node = map f xs;
  count = length-map xs f ∙ count;
  each = each_image f (λ (node : ℕ) (list : List NodeHandleState). IsNode workers connections limit node list) xs each;
  order = is ∙ images f xs;
}
gathered (Err memory) g f xs nodes workers connections limit is count each = is
