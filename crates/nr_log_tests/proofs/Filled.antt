-- Filling one cell after the other.
use Rattle.std.proofs.Common.{◌≡◌, ℕ, zero, suc, ◌+◌, ◌<◌, ◌≤◌, List, [], ◌∷◌, length, set, get_or, Option, Some, None, IsSome, refl, sym, ap, ◌∙◌, subst, arith, length-set, get_or-set_same, get_or-set_other, lt_of_not-le}
use mathlib.Core.Logic.{dite}
use native.Mathlib.Decide.{ℕ_discrete, dec_le}
use Rattle.nr_entry.specs.declared.entry.Entry.{Entry}
use Rattle.nr_entry.specs.Shares.{shares_of}
use Rattle.nr_log_end.specs.declared.standing.Standing.{Standing}
use Rattle.nr_log_end.specs.Standings.{IsSharesFor, StandsInLog, filled_for, fetched_with, passed_on, reserved_as}
use Rattle.nr_log_tests.specs.Ready.{IsOfNode, IsBefore, IsReady, IsFresh}
use Rattle.nr_log_tests.proofs.Rises.{before_greater, next_rises, before_reserved, before_passed}

-- the cells below `done` are filled, and those from there on wait for their shares
pub record IsFilledBelow (node nodes next at done : ℕ) (s : Standing) : Type 0 where
  pub node_is : s.node ≡ node
  pub nodes_is : s.nodes ≡ nodes
  pub near : node < nodes
  pub idle : s.held ≡ None
  pub before : IsBefore next s
  pub at_is : s.at ≡ at
  pub long : length s.unfilled ≡ nodes
  pub filled : (x : ℕ) → x < done → get_or s.unfilled x None ≡ None
  pub waits : (x : ℕ) → done ≤ x → x < nodes → IsSome (get_or s.unfilled x None)

some_there : (entry : Entry) (n x : ℕ) → x < n → IsSome (get_or (shares_of entry n) x None)
some_there entry zero x h = absurd (omega arith)
some_there entry (suc n) zero h = refl
some_there entry (suc n) (suc x) h = some_there entry n x (omega arith)

long_shares : (entry : Entry) (n : ℕ) → length (shares_of entry n) ≡ n
long_shares entry n = lib.ListN.length-replicate n (Some entry)

pub none_filled : (node nodes number at : ℕ) (s : Standing) → IsFresh node nodes number at s → IsFilledBelow node nodes (number + 1) at 0 s
none_filled node nodes number at s f = let q = f.6 in record {
  node_is = f.0;
  nodes_is = f.1;
  near = f.2;
  idle = f.3;
  before = f.4;
  at_is = f.5;
  long = ap length q.1 ∙ long_shares q.0 nodes;
  filled = λ x h. absurd (omega arith);
  waits = λ x _ h. subst (λ (l : List (Option Entry)). IsSome (get_or l x None)) (sym q.1) (some_there q.0 nodes x h);
}

pub one_filled : (node nodes next at done : ℕ) (s t : Standing) → done < nodes → IsFilledBelow node nodes next at done s → t ≡ filled_for done s
    → IsFilledBelow node nodes next at (done + 1) t
one_filled node nodes next at done s t near f is = subst (IsFilledBelow node nodes next at (done + 1)) (sym is) record {
  node_is = f.node_is;
  nodes_is = f.nodes_is;
  near = f.near;
  idle = f.idle;
  before = f.before;
  at_is = f.at_is;
  long = length-set s.unfilled done None ∙ f.long;
  filled = λ x h. dite (ℕ_discrete x done)
      (λ e. ap (λ z. get_or (set s.unfilled done None) z None) e ∙ get_or-set_same s.unfilled done None None (subst (λ z. done < z) (sym f.long) near))
      (λ n. get_or-set_other s.unfilled done x None None n ∙ f.filled x (omega arith));
  waits = λ x low high. subst (λ o. IsSome o) (sym (get_or-set_other s.unfilled done x None None (λ e. omega arith))) (f.waits x (omega arith) high);
}

beyond : (l : List (Option Entry)) (x : ℕ) → length l ≤ x → get_or l x None ≡ None
beyond [] x h = refl
beyond (y ∷ ys) zero h = absurd (omega arith)
beyond (y ∷ ys) (suc x) h = beyond ys x (omega arith)

pub all_filled : (node nodes next at : ℕ) (s : Standing) → IsFilledBelow node nodes next at nodes s → IsReady node nodes next s
all_filled node nodes next at s f = (
  f.node_is,
  f.nodes_is,
  f.near,
  f.idle,
  f.before,
  λ x. dite (dec_le nodes x) (λ far. beyond s.unfilled x (subst (λ z. z ≤ x) (sym f.long) far)) (λ not. f.filled x (lt_of_not-le not)),
)

pub later_ready : (node nodes n m : ℕ) (s : Standing) → n ≤ m → IsReady node nodes n s → IsReady node nodes m s
later_ready node nodes n m s h ready = (ready.0, ready.1, ready.2, ready.3, before_greater n m s h ready.4, ready.5)

pub shares_for : (node nodes number : ℕ) (s : Standing) (shares : List (Option Entry)) → IsReady node nodes number s → IsOfNode node nodes number shares → IsSharesFor s shares
shares_for node nodes number s shares ready q = (q.0, q.1 ∙ ap (shares_of q.0) (sym ready.1), q.2 ∙ sym ready.0, next_rises number s q.0 q.3 ready.4)

pub fresh_after : (node nodes number at : ℕ) (s t : Standing) (shares : List (Option Entry)) → IsReady node nodes number s → IsOfNode node nodes number shares → t ≡ reserved_as at shares s → IsFresh node nodes number at t
fresh_after node nodes number at s t shares ready q is =
    let near = ready.2 in
    subst (IsFresh node nodes number at) (sym is) (ready.0, ready.1, ready.2, ready.3, before_reserved node nodes number at s shares (omega (arith, near)) q ready.4, refl, q)

pub passed_ready : (node nodes next : ℕ) (s t u : Standing) (e : Entry) → IsReady node nodes next s → t ≡ fetched_with e s → StandsInLog t → u ≡ passed_on t → IsReady node nodes next u
passed_ready node nodes next s t u e ready fetched stands passed =
    let stood = subst StandsInLog fetched stands in
    subst (IsReady node nodes next) (sym (passed ∙ ap passed_on fetched)) (ready.0, ready.1, ready.2, refl, before_passed next s e stood ready.4, ready.5)
