-- The cells of an entry are filled, one after the other.
use Rattle.std.proofs.Common.{◌≡◌, ℕ, zero, suc, ◌+◌, ◌<◌, ◌≤◌, inl, inr, List, [], ◌∷◌, length, set, get_or, Option, Some, None, IsSome, refl, sym, ap, ◌∙◌, subst, arith, length-set, get_or-set_same, get_or-set_other}
use Rattle.std.proofs.lemmas.Bool.{cases_lt}
use Rattle.std.proofs.lemmas.Bool.Decides.{eqb_tells}
use Rattle.nr_entry.specs.declared.entry.Entry.{Entry}
use Rattle.nr_entry.specs.Shares.{shares_of}
use Rattle.nr_log_end.specs.declared.standing.Standing.{Standing}
use Rattle.nr_log_end.specs.Standings.{filled_for}
use Rattle.nr_node.specs.Reserved.{IsFresh, IsFilled}

-- the cells below `done` are filled, those from there on wait for their shares, and nothing else changed
pub record AreFilled (at nodes done : ℕ) (first s : Standing) : Type 0 where
  pub at_is : at ≡ s.at
  pub long : length s.unfilled ≡ nodes
  pub filled : (x : ℕ) → x < done → get_or s.unfilled x None ≡ None
  pub waits : (x : ℕ) → done ≤ x → x < nodes → IsSome (get_or s.unfilled x None)
  pub same : s ≡ record first { unfilled = s.unfilled }

some_there : (entry : Entry) (n x : ℕ) → x < n → IsSome (get_or (shares_of entry n) x None)
some_there entry zero x h = absurd (omega arith)
some_there entry (suc n) zero h = refl
some_there entry (suc n) (suc x) h = some_there entry n x (omega arith)

pub none_filled : (at nodes : ℕ) (s : Standing) → IsFresh at nodes s → AreFilled at nodes 0 s s
none_filled at nodes s f = record {
  at_is = f.0;
  long = ap length f.1.1 ∙ lib.ListN.length-replicate nodes (Some f.1.0);
  filled = λ x h. absurd (omega arith);
  waits = λ x _ h. subst (λ (l : List (Option Entry)). IsSome (get_or l x None)) (sym f.1.1) (some_there f.1.0 nodes x h);
  same = refl;
}

pub one_filled : (at nodes done : ℕ) (first s t : Standing) → done < nodes → AreFilled at nodes done first s → t ≡ filled_for done s → AreFilled at nodes (done + 1) first t
one_filled at nodes done first s t near f is = subst (AreFilled at nodes (done + 1) first) (sym is) record {
  at_is = f.at_is;
  long = length-set s.unfilled done None ∙ f.long;
  filled = λ x h. elim (eqb_tells x done) [
    | inl e ↦ ap (λ z. get_or (set s.unfilled done None) z None) e.1 ∙ get_or-set_same s.unfilled done None None (subst (λ z. done < z) (sym f.long) near)
    | inr n ↦
        let before : x < done = omega (arith, n.1) in
        get_or-set_other s.unfilled done x None None n.1 ∙ f.filled x before
  ];
  waits = λ x low high.
      let apart : x ≡ done → ⊥ = λ e. absurd (omega (arith, e)) in
      let past : done ≤ x = omega arith in
      subst (λ o. IsSome o) (sym (get_or-set_other s.unfilled done x None None apart)) (f.waits x past high);
  same = ap (filled_for done) f.same;
}

beyond : (l : List (Option Entry)) (x : ℕ) → length l ≤ x → get_or l x None ≡ None
beyond [] x h = refl
beyond (y ∷ ys) zero h = absurd (omega arith)
beyond (y ∷ ys) (suc x) h = beyond ys x (omega arith)

pub all_filled : (at nodes done : ℕ) (first s : Standing) → nodes ≤ done → AreFilled at nodes done first s → IsFilled first s
all_filled at nodes done first s all f = (
  f.same,
  λ x. elim (cases_lt x nodes) [
    | inl below ↦
        let before : x < done = omega arith in
        f.filled x before
    | inr past ↦
        let out : length s.unfilled ≤ x = omega (arith, f.long) in
        beyond s.unfilled x out
  ],
)
