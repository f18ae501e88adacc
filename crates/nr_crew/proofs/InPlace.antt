-- The workers of nodes that were just built stand in the order of their numbers.
use Rattle.std.proofs.Common.{arith, ◌≡◌, ℕ, zero, suc, ◌+◌, ◌*◌, List, [], ◌∷◌, ◌++◌, map, length, Some, refl, ap, sym, ◌∙◌, subst, append_assoc, suc-mul}
use Rattle.std.specs.List.{slice_get}
use Rattle.std.specs.Prelude.{flat_map}
use Rattle.std.proofs.lemmas.List.{map-append}
use Rattle.nr_combiner.specs.Shared.{NodeView}
use Rattle.nr_combiner.specs.Workers.{IsNode, NodeHandleState, fresh_workers}
use Rattle.nr_crew.specs.Places.{place_of, places_at, places_from, places_left}
use Rattle.nr_crew.specs.declared.lane.WorkerEnd.{WorkerEnd}

fresh_places : (shared : NodeView) (first n : ℕ) → map place_of (fresh_workers shared first n) ≡ places_at shared.node first n
fresh_places shared first zero = refl
fresh_places shared first (suc n) = ap (λ l. (shared.node, first) ∷ l) (fresh_places shared (suc first) n)

node_places : (workers connections limit node : ℕ) (list : List NodeHandleState) → IsNode workers connections limit node list
    → map place_of list ≡ places_at node 0 workers
node_places workers connections limit node list n =
    ap (map place_of) n.all ∙ fresh_places n.shared 0 workers ∙ ap (λ (k : ℕ). places_at k 0 workers) n.named

places_on : {V : Type 0} (items : V → List NodeHandleState) (workers connections limit first : ℕ) (built : List V)
    → ((k : ℕ) (x : V) → slice_get built k ≡ Some x → IsNode workers connections limit (k + first) (items x))
    → flat_map (λ (x : V). map place_of (items x)) built ≡ places_from first (length built) workers
places_on items workers connections limit first [] each = refl
places_on items workers connections limit first (x ∷ xs) each =
    ap (λ l. l ++ flat_map (λ y. map place_of (items y)) xs) (node_places workers connections limit first (items x)
    (subst (λ (n : ℕ). IsNode workers connections limit n (items x)) (omega arith) (each 0 x refl)))
    ∙ ap (λ l. places_at first 0 workers ++ l) (places_on items workers connections limit (suc first) xs
    (λ k y is. subst (λ (n : ℕ). IsNode workers connections limit n (items y)) (omega arith) (each (suc k) y is)))

-- the first is node 0
pub places_in : {V : Type 0} (items : V → List NodeHandleState) (workers connections limit nodes : ℕ) (built : List V) → length built ≡ nodes
    → ((k : ℕ) (x : V) → slice_get built k ≡ Some x → IsNode workers connections limit k (items x))
    → flat_map (λ (x : V). map place_of (items x)) built ≡ places_from 0 nodes workers
places_in items workers connections limit nodes built count each =
    places_on items workers connections limit 0 built (λ k x is. subst (λ (n : ℕ). IsNode workers connections limit n (items x)) (omega arith) (each k x is))
    ∙ ap (λ (n : ℕ). places_from 0 n workers) count

-- one more left
pub one_more : {S D M : Type 0} (lefts now : List (WorkerEnd S D M)) (left : WorkerEnd S D M) → now ≡ lefts ++ left ∷ []
    → places_left now ≡ places_left lefts ++ (left.node, left.worker) ∷ []
one_more {S} {D} {M} lefts now left is =
    ap (λ (l : List (WorkerEnd S D M)). places_left l) is ∙ map-append (λ (one : WorkerEnd S D M). (one.node, one.worker)) lefts (left ∷ [])

-- Behind one more node there are so many lanes, of so many workers a node.
pub next_count : (old new left more workers all : ℕ) → new ≡ old + workers → more ≡ suc left → old + more * workers ≡ all → new + left * workers ≡ all
next_count old new left more workers all is one was =
    let product = ap (λ n. n * workers) one ∙ suc-mul left workers in
    omega (arith, is, product, was)

-- and they stand so
pub next_placed : {V P : Type 0} (places : V → List P) (old new all : List P) (before behind : List V) (one : V) → new ≡ old ++ places one
    → before ≡ one ∷ behind → old ++ flat_map places before ≡ all → new ++ flat_map places behind ≡ all
next_placed places old new all before behind one is steps was =
    ap (λ l. l ++ flat_map places behind) is ∙ append_assoc old (places one) (flat_map places behind)
    ∙ ap (λ l. old ++ flat_map places l) (sym steps) ∙ was

-- one more stands behind those that stood there
pub one_placed : {V P : Type 0} (place : V → P) (old new all : List P) (before behind : List V) (one : V) → new ≡ old ++ place one ∷ []
    → before ≡ one ∷ behind → old ++ map place before ≡ all → new ++ map place behind ≡ all
one_placed place old new all before behind one is steps was =
    ap (λ l. l ++ map place behind) is ∙ append_assoc old (place one ∷ []) (map place behind) ∙ ap (λ l. old ++ map place l) (sym steps) ∙ was
