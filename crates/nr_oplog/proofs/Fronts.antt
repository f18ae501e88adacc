-- Lists and their beginnings, histories, and a node's own entries.
use Rattle.std.proofs.Common.{◌≡◌, ◌≢◌, ℕ, zero, suc, ◌+◌, ◌≤◌, ◌==◌, Bool, true, false, cond, List, [], ◌∷◌, ◌++◌, length, map, take, drop, refl, sym, ap, ◌∙◌, subst, arith, append_assoc, append-nil, length-append, take-append-drop, eq-eqb, ne_eqb}
use mathlib.Core.Option.{some, some-injective, some-ne-none}
use lib.ListN.{get_elem?}
use Rattle.nr_model.specs.Bytes.{IsBeginningOf}
use Rattle.nr_entry.specs.declared.entry.Entry.{Entry}
use Rattle.nr_entry.specs.declared.job.Job.{Job}
use Rattle.nr_log_end.specs.declared.standing.LogEvent.{LogEvent}
use Rattle.nr_log_end.specs.declared.standing.LogEvent.TheVariants.{Applied, Ran, Opened}
use Rattle.nr_log_end.specs.Standings.{applied_of, own_from}

module _ {A : Type 0} where
  pub begins_all : (xs : List A) → IsBeginningOf xs xs
  begins_all xs = ([], append-nil xs)

  pub begins_none : (xs : List A) → IsBeginningOf [] xs
  begins_none xs = (xs, refl)

  pub begins_more : (xs ys zs : List A) → IsBeginningOf xs ys → IsBeginningOf xs (ys ++ zs)
  begins_more xs ys zs b = (b.0 ++ zs, sym (append_assoc xs b.0 zs) ∙ ap (λ l. l ++ zs) b.1)

  pub begins_length : (xs ys : List A) → IsBeginningOf xs ys → length xs ≤ length ys
  begins_length xs ys b = omega (arith, length-append xs b.0, ap length b.1)

  snoc_from : (xs rest : List A) (x : A) → get_elem? (xs ++ rest) (length xs) ≡ some x → IsBeginningOf (xs ++ x ∷ []) (xs ++ rest)
  snoc_from [] [] x e = absurd (some-ne-none x (sym e))
  snoc_from [] (y ∷ ys) x e = (ys, ap (λ z. z ∷ ys) (sym (some-injective y x e)))
  snoc_from (y ∷ ys) rest x e = let r = snoc_from ys rest x e in (r.0, ap (λ z. y ∷ z) r.1)

  -- a beginning goes on with the element behind it
  pub begins_snoc : (xs ys : List A) (x : A) → IsBeginningOf xs ys → get_elem? ys (length xs) ≡ some x → IsBeginningOf (xs ++ x ∷ []) ys
  begins_snoc xs ys x b at = subst (IsBeginningOf (xs ++ x ∷ [])) b.1 (snoc_from xs b.0 x (subst (λ z. get_elem? z (length xs) ≡ some x) (sym b.1) at))

  take_front : (xs rest : List A) → take (length xs) (xs ++ rest) ≡ xs
  take_front [] rest = refl
  take_front (x ∷ xs) rest = ap (λ z. x ∷ z) (take_front xs rest)

  take_shorter : (m n : ℕ) (zs : List A) → m ≤ n → take m (take n zs) ≡ take m zs
  take_shorter zero n zs h = refl
  take_shorter (suc m) zero zs h = absurd (omega arith)
  take_shorter (suc m) (suc n) [] h = refl
  take_shorter (suc m) (suc n) (z ∷ zs) h = ap (λ l. z ∷ l) (take_shorter m n zs (omega arith))

  -- of two beginnings the shorter is one of the longer
  pub begins_both : (xs ys zs : List A) → IsBeginningOf xs zs → IsBeginningOf ys zs → length xs ≤ length ys → IsBeginningOf xs ys
  begins_both xs ys zs b c h =
      let first : take (length xs) zs ≡ xs = subst (λ l. take (length xs) l ≡ xs) b.1 (take_front xs b.0) in
      let second : take (length ys) zs ≡ ys = subst (λ l. take (length ys) l ≡ ys) c.1 (take_front ys c.0) in
      let both : take (length xs) ys ≡ xs = ap (take (length xs)) (sym second) ∙ take_shorter (length xs) (length ys) zs h ∙ first in
      (drop (length xs) ys, ap (λ l. l ++ drop (length xs) ys) (sym both) ∙ take-append-drop (length xs) ys)

pub applied_append : (xs ys : List LogEvent) → applied_of (xs ++ ys) ≡ applied_of xs ++ applied_of ys
applied_append [] ys = refl
applied_append (Applied e ∷ xs) ys = ap (λ z. e ∷ z) (applied_append xs ys)
applied_append (Ran j ∷ xs) ys = applied_append xs ys
applied_append (Opened w ∷ xs) ys = applied_append xs ys

-- reads are no entries
pub none_passed : (jobs : List Job) → applied_of (map Ran jobs) ≡ []
none_passed [] = refl
none_passed (j ∷ js) = none_passed js

-- what is no passing of an entry leaves those that were passed
pub passed_still : (xs turns : List LogEvent) → applied_of turns ≡ [] → applied_of (xs ++ turns) ≡ applied_of xs
passed_still xs turns none = applied_append xs turns ∙ ap (λ l. applied_of xs ++ l) none ∙ append-nil (applied_of xs)

abbrev Own : Type 0
Own = List (ℕ × Entry)

pulled : (b : Bool) (p : ℕ × Entry) (more longer rest : Own) → longer ≡ more ++ rest → cond b (p ∷ longer) longer ≡ cond b (p ∷ more) more ++ rest
pulled true p more longer rest e = ap (λ z. p ∷ z) e
pulled false p more longer rest e = e

-- one entry more, of the node
pub own_same : (node n : ℕ) (log : List Entry) (e : Entry) → e.node ≡ node → own_from node n (log ++ e ∷ []) ≡ own_from node n log ++ (n + length log, e) ∷ []
own_same node n [] e is = ap (λ b. cond b ((n, e) ∷ []) []) (eq-eqb e.node node is) ∙ ap (λ k. (k, e) ∷ []) (let z : n ≡ n + 0 = omega arith in z)
own_same node n (x ∷ xs) e is = pulled (x.node == node) (n, x) (own_from node (suc n) xs) (own_from node (suc n) (xs ++ e ∷ [])) ((n + suc (length xs), e) ∷ [])
    (own_same node (suc n) xs e is ∙ ap (λ k. own_from node (suc n) xs ++ (k, e) ∷ []) (let z : suc n + length xs ≡ n + suc (length xs) = omega arith in z))

-- one entry more, of another node
pub own_other : (node n : ℕ) (log : List Entry) (e : Entry) → e.node ≢ node → own_from node n (log ++ e ∷ []) ≡ own_from node n log
own_other node n [] e is = ap (λ b. cond b ((n, e) ∷ []) []) (ne_eqb e.node node is)
own_other node n (x ∷ xs) e is = ap (λ more. cond (x.node == node) ((n, x) ∷ more) more) (own_other node (suc n) xs e is)
