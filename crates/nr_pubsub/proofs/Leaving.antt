-- A connection that is taken away from one name after the other.
use Rattle.std.proofs.Common.{◌≡◌, Bool, true, false, cond, ◌||◌, Option, List, [], ◌∷◌, refl, ap, sym, ◌∙◌}
use Rattle.std.specs.Prelude.{unwrap_or, filter}
use Rattle.std.specs.List.{list_any}
use Rattle.std.specs.Ordering.{eq_by_cmp}
use Rattle.std.specs.Cmp.{Equal-is}
use Rattle.std.specs.FinMap as finmap
use Rattle.std.proofs.lemmas.Map.Lookups.{exact_bytes}
use Rattle.nr_model.specs.Bytes.{Bytes}
use Rattle.nr_model.specs.Keyspace.{byte_cmp}
use Rattle.nr_model.specs.Items.{Connection}
use Rattle.nr_pubsub.specs.Standings.{Standing, standing_at, some_of, without, IsPlaced, IsLeft}
use Rattle.nr_pubsub.proofs.Indexed.{some_or_none}

twice_filtered : {A : Type 0} (p : A → Bool) (xs : List A) → filter p (filter p xs) ≡ filter p xs
twice_filtered p [] = refl
twice_filtered p (x ∷ xs) =
    elim (p x) as (λ b. p x ≡ b → filter p (cond b (x ∷ filter p xs) (filter p xs)) ≡ cond b (x ∷ filter p xs) (filter p xs)) [
      | true ↦ λ e. ap (λ b. cond b (x ∷ filter p (filter p xs)) (filter p (filter p xs))) e ∙ ap (λ ys. x ∷ ys) (twice_filtered p xs)
      | false ↦ λ e. twice_filtered p xs
    ] refl

-- what is found at a name once the connection has left these names
abbrev pub behind : Connection → Bytes → List Bytes → Option (List Connection) → Option (List Connection)
behind c q names found = cond (list_any (eq_by_cmp byte_cmp q) names) (some_of (without c (unwrap_or found []))) found

same_branch : {A : Type 0} (b : Bool) (x y : A) → x ≡ y → cond b x y ≡ y
same_branch true x y e = e
same_branch false x y e = refl

pub one_left : (old new : Standing) (name : Bytes) (names : List Bytes) (c : Connection) → IsPlaced old new name (without c (standing_at old name))
    → (q : Bytes) → behind c q names (finmap.get new q) ≡ behind c q (name ∷ names) (finmap.get old q)
one_left old new name names c placed q =
    let left = without c (standing_at old name) in
    ap (behind c q names) (placed.found q)
    ∙ elim (eq_by_cmp byte_cmp q name) as (λ t. eq_by_cmp byte_cmp q name ≡ t
    → behind c q names (cond t (some_of left) (finmap.get old q))
    ≡ cond (t || list_any (eq_by_cmp byte_cmp q) names) (some_of (without c (standing_at old q))) (finmap.get old q)) [
      | true ↦ λ here.
          same_branch (list_any (eq_by_cmp byte_cmp q) names) (some_of (without c (unwrap_or (some_of left) []))) (some_of left)
          (ap some_of (ap (without c) (some_or_none left) ∙ twice_filtered _ (standing_at old name)))
          ∙ ap (λ n. some_of (without c (standing_at old n))) (sym (exact_bytes q name ((Equal-is (byte_cmp q name)).0 here)))
      | false ↦ λ _. refl
    ] refl

-- what has been done and what is left to do are all
pub record IsLeaving (old now : Standing) (names left : List Bytes) (c : Connection) : Type 0 where
  pub found : (q : Bytes) → behind c q left (finmap.get now q) ≡ behind c q names (finmap.get old q)

pub leaving_none : (old : Standing) (names : List Bytes) (c : Connection) → IsLeaving old old names names c
leaving_none old names c = record { found = λ q. refl }

pub leaving_more : (old now new : Standing) (names left : List Bytes) (name : Bytes) (c : Connection) → IsLeaving old now names (name ∷ left) c
    → IsPlaced now new name (without c (standing_at now name)) → IsLeaving old new names left c
leaving_more old now new names left name c so_far placed = record { found = λ q. one_left now new name left c placed q ∙ so_far.found q }

pub leaving_all : (old new : Standing) (names : List Bytes) (c : Connection) → IsLeaving old new names [] c → IsLeft old new names c
leaving_all old new names c whole = record { found = λ q. whole.found q }
