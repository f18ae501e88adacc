-- Passed counts that were met only grow.
use Rattle.std.proofs.Common.{◌≡◌, ◌≢◌, ◌⊎◌, ℕ, zero, suc, ◌+◌, ◌<◌, ◌≤◌, List, [], ◌∷◌, ◌++◌, length, take, set, get_or, Option, refl, sym, ap, ◌∙◌, subst, min, inl, inr, ⊎_elim, arith, append_assoc, append-nil, le_refl, le_trans, length-set, get_or-set_same, get_or-set_other}
use mathlib.Core.Logic.{dite}
use native.Mathlib.Decide.{ℕ_discrete, dec_le}
use Rattle.atomic_table.specs.Table.{Me}
use Rattle.nr_oplog.specs.declared.view.LogView.{LogView}
use Rattle.nr_log_end.specs.declared.standing.Load.TheVariants.{Passed}
use Rattle.nr_oplog.specs.Rule.{Share}
use Rattle.nr_oplog.specs.Plays.{with_passed}
use Rattle.nr_log_end.specs.Standings.{passed_of}
use Rattle.nr_oplog.specs.Seats.{CountsOf}
use Rattle.nr_oplog.specs.Calls.{loads_from, LoadsTo, LoadsCounts, IsLeastTo, IsLeastOf}

pub met_up : (met : List ℕ) (node n : ℕ) → get_or met node 0 ≤ n → (x : ℕ) → get_or met x 0 ≤ get_or (set met node n) x 0
met_up [] node n h x = le_refl (get_or [] x 0)
met_up (y ∷ ys) zero n h zero = h
met_up (y ∷ ys) zero n h (suc x) = le_refl (get_or ys x 0)
met_up (y ∷ ys) (suc i) n h zero = le_refl y
met_up (y ∷ ys) (suc i) n h (suc x) = met_up ys i n h x

-- one count more
pub counted : (m l : Me (Option Share) LogView) (node n : ℕ) → CountsOf m l → get_or l.0.met node 0 ≤ n → CountsOf m (with_passed node n l.0, l.1)
counted m l node n c up = (c.0, (λ i. record (c.1 i) { met = set l.0.met node n; looks = l.0.looks ++ Passed node n ∷ [] }), length-set l.0.met node n ∙ c.2, (λ x. le_trans (c.3 x) (met_up l.0.met node n up x)))

-- one load more
loads_set : (k upto n : ℕ) (met : List ℕ) → upto < length met → loads_from k (take (suc upto) (set met upto n)) ≡ loads_from k (take upto met) ++ Passed (k + upto) n ∷ []
loads_set k upto n [] near = absurd (omega arith)
loads_set k zero n (y ∷ ys) near = ap (λ z. Passed z n ∷ []) (let e : k ≡ k + 0 = omega arith in e)
loads_set k (suc u) n (y ∷ ys) near = ap (λ l. Passed k y ∷ l) (loads_set (suc k) u n ys (omega arith) ∙ ap (λ z. loads_from (suc k) (take u ys) ++ Passed z n ∷ []) (let e : suc k + u ≡ k + suc u = omega arith in e))

pub loads_none : (v : LogView) → LoadsTo 0 v v
loads_none v = record { loads = λ i. record v { looks = sym (append-nil v.looks) i }; counts = refl; grown = λ x. le_refl (get_or v.met x 0); own = λ h. absurd (omega arith) }

-- the next node's count was loaded
pub loads_more : (upto n : ℕ) (v w : LogView) → LoadsTo upto v w → upto < length v.met → get_or w.met upto 0 ≤ n → (upto ≡ v.standing.node → n ≡ passed_of v.standing) → LoadsTo (suc upto) v (with_passed upto n w)
loads_more upto n v w l near up mine = record {
  loads = (λ i. record (l.loads i) { met = set w.met upto n; looks = (looks i) ++ Passed upto n ∷ [] })
      ∙ (λ i. record v { met = set w.met upto n; looks = (append_assoc v.looks (loads_from 0 (take upto w.met)) (Passed upto n ∷ []) ∙ ap (λ z. v.looks ++ z) (sym further)) i });
  counts = length-set w.met upto n ∙ l.counts;
  grown = λ x. le_trans (l.grown x) (met_up w.met upto n up x);
  own = λ h. dite (ℕ_discrete v.standing.node upto)
      (λ same. ap (λ z. get_or (set w.met upto n) z 0) same ∙ get_or-set_same w.met upto n 0 there ∙ mine (sym same))
      (λ other. get_or-set_other w.met upto v.standing.node n 0 (λ e. other (omega arith)) ∙ l.own (omega arith));
}
  where
    looks : w.looks ≡ v.looks ++ loads_from 0 (take upto w.met)
    looks = ap (λ (z : LogView). z.looks) l.loads

    there : upto < length w.met
    there = subst (λ z. upto < z) (sym l.counts) near

    further : loads_from 0 (take (suc upto) (set w.met upto n)) ≡ loads_from 0 (take upto w.met) ++ Passed upto n ∷ []
    further = loads_set 0 upto n w.met there ∙ ap (λ z. loads_from 0 (take upto w.met) ++ Passed z n ∷ []) (let e : 0 + upto ≡ upto = omega arith in e)

pub least_first : (n : ℕ) (met : List ℕ) → 0 < length met → IsLeastTo 1 n (set met 0 n)
least_first n met near = let e = get_or-set_same met 0 n 0 near in
    ((λ x h. subst (λ z. n ≤ get_or (set met 0 n) z 0) (let z : 0 ≡ x = omega arith in z) (subst (λ z. n ≤ z) (sym e) (le_refl n))), (0, omega arith, sym e))

pub least_more : (upto least n found : ℕ) (met : List ℕ) → upto < length met → IsLeastTo upto least met → ((found ≡ least) × (least ≤ n)) ⊎ ((found ≡ n) × (n ≤ least)) → IsLeastTo (suc upto) found (set met upto n)
least_more upto least n found met near l by = (below, at)
  where
    here : get_or (set met upto n) upto 0 ≡ n
    here = get_or-set_same met upto n 0 near

    else_same : (x : ℕ) → x ≢ upto → get_or (set met upto n) x 0 ≡ get_or met x 0
    else_same x other = get_or-set_other met upto x n 0 (λ e. other (omega arith))

    both : (found ≤ least) × (found ≤ n)
    both = ⊎_elim (λ (h : (found ≡ least) × (least ≤ n)). (omega (arith, h.0, h.1), omega (arith, h.0, h.1))) (λ (h : (found ≡ n) × (n ≤ least)). (omega (arith, h.0, h.1), omega (arith, h.0, h.1))) by

    below : (x : ℕ) → x < suc upto → found ≤ get_or (set met upto n) x 0
    below x h = dite (ℕ_discrete x upto)
        (λ same. subst (λ z. found ≤ get_or (set met upto n) z 0) (sym same) (subst (λ z. found ≤ z) (sym here) both.1))
        (λ other. subst (λ z. found ≤ z) (sym (else_same x other)) (le_trans both.0 (l.0 x (omega arith))))

    at : (x : ℕ) × (x < suc upto) × (found ≡ get_or (set met upto n) x 0)
    at = ⊎_elim
        (λ (h : (found ≡ least) × (least ≤ n)). let x = l.1.0 in let low = l.1.1 in (x, omega arith, h.0 ∙ l.1.2 ∙ sym (else_same x (λ e. omega (arith, e, low)))))
        (λ (h : (found ≡ n) × (n ≤ least)). (upto, omega arith, h.0 ∙ sym here)) by

-- all nodes' counts were loaded
pub loads_all : (upto : ℕ) (v w : LogView) → LoadsTo upto v w → upto ≡ length v.met → length v.met ≡ v.standing.nodes → v.standing.node < v.standing.nodes → LoadsCounts v w
loads_all upto v w l all nodes near = record {
  loads = l.loads ∙ (λ i. record v { met = w.met; looks = v.looks ++ loads_from 0 (take_all w.met upto (all ∙ sym l.counts) i) });
  counts = l.counts ∙ nodes;
  grown = l.grown;
  own = l.own (omega arith);
}
  where
    take_all : (xs : List ℕ) (n : ℕ) → n ≡ length xs → take n xs ≡ xs
    take_all xs n e = ap (λ z. take z xs) e ∙ whole xs
      where
        whole : (ys : List ℕ) → take (length ys) ys ≡ ys
        whole [] = refl
        whole (y ∷ ys) = ap (λ l. y ∷ l) (whole ys)

pub least_all : (upto least : ℕ) (v w : LogView) → LoadsTo upto v w → upto ≡ length v.met → IsLeastTo upto least w.met → IsLeastOf least w.met
least_all upto least v w l all is = subst (λ z. IsLeastTo z least w.met) (all ∙ sym l.counts) is

-- the less of two numbers
the_less : (a b : ℕ) → ((min a b ≡ a) × (a ≤ b)) ⊎ ((min a b ≡ b) × (b ≤ a))
the_less a b = dite (dec_le a b) (λ h. inl ((let e : min a b ≡ a = omega arith in e), h)) (λ h. inr ((let e : min a b ≡ b = omega arith in e), let g : b ≤ a = omega arith in g))

pub next_loaded : (v : LogView) (m m' : Me (Option Share) LogView) (upto least n found : ℕ) → LoadsTo upto v m.0 → IsLeastTo upto least m.0.met → m' ≡ (with_passed upto n m.0, m.1) → upto < length v.met → v.upto ≡ suc v.standing.node
    → get_or m.0.met upto 0 ≤ n → (m.0.upto ≡ suc m.0.standing.node → upto ≡ m.0.standing.node → n ≡ passed_of m.0.standing) → found ≡ min least n → LoadsTo (upto + 1) v m'.0 × IsLeastTo (upto + 1) found m'.0.met
next_loaded v m m' upto least n found l low is near single up mine by =
    let of : LogView → Type 0 = λ z. z.upto ≡ suc z.standing.node → upto ≡ z.standing.node → n ≡ passed_of z.standing in
    let own : upto ≡ v.standing.node → n ≡ passed_of v.standing = subst of l.loads mine single in
    let one : suc upto ≡ upto + 1 = sym (native.Mathlib.Numerals.add-one upto) in
    let less = subst (λ z. ((z ≡ least) × (least ≤ n)) ⊎ ((z ≡ n) × (n ≤ least))) (sym by) (the_less least n) in
    subst (λ (q : ℕ × LogView). LoadsTo q.0 v q.1 × IsLeastTo q.0 found q.1.met) (λ i. (one i, (sym is i).0))
    (loads_more upto n v m.0 l near up own, least_more upto least n found m.0.met (subst (λ z. upto < z) (sym l.counts) near) low less)
