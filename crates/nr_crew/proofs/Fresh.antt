-- The workers of a node that was just built have handed in nothing.
use Rattle.std.proofs.Common.{arith, ◌≡◌, ℕ, zero, suc, List, [], ◌∷◌, Some, refl, sym, subst, length}
use Rattle.std.specs.List.{AllByRecursion, slice_get}
use Rattle.nr_combiner.specs.Shared.{NodeView}
use Rattle.nr_combiner.specs.Workers.{IsNode, NodeHandleState, fresh_workers}
use Rattle.nr_crew.specs.Nodes.{AreFresh, IsFresh}

fresh_all : (shared : NodeView) (first n : ℕ) → AllByRecursion IsFresh (fresh_workers shared first n)
fresh_all shared first zero = tt
fresh_all shared first (suc n) = (refl, fresh_all shared (suc first) n)

fresh_count : (shared : NodeView) (first n : ℕ) → length (fresh_workers shared first n) ≡ n
fresh_count shared first zero = refl
fresh_count shared first (suc n) = let rest = fresh_count shared (suc first) n in omega arith

pub fresh_node : (workers connections limit node : ℕ) (list : List NodeHandleState) → IsNode workers connections limit node list → AreFresh workers list
fresh_node workers connections limit node list n =
    subst (AreFresh workers) (sym n.all) (fresh_all n.shared 0 workers, fresh_count n.shared 0 workers)

-- what holds of the one in each place holds of all
pub all_from : {A : Type 0} (P : A → Type 0) (xs : List A) → ((k : ℕ) (x : A) → slice_get xs k ≡ Some x → P x) → AllByRecursion P xs
all_from P [] each = tt
all_from P (x ∷ xs) each = (each 0 x refl, all_from P xs (λ k y is. each (suc k) y is))
