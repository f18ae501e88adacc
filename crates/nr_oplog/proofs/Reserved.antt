-- Each number below the tail was reserved by one node, once.
use Rattle.std.proofs.Common.{◌≡◌, ◌≢◌, ℕ, zero, suc, ◌+◌, ◌<◌, ◌==◌, Bool, true, false, cond, List, [], ◌∷◌, length, refl, sym, ap, ◌∙◌, subst, arith, eq-eqb, ne_eqb}
use Rattle.std.specs.Prelude.{filter}
use mathlib.Core.Option.{some, some-injective, some-ne-none}
use lib.ListN.{get_elem?}
use Rattle.nr_entry.specs.declared.entry.Entry.{Entry}
use Rattle.nr_log_end.specs.Standings.{own_entries, own_from}
use Rattle.nr_oplog.specs.Law.{HoldsOfEntries}

abbrev of_number : ℕ → List (ℕ × Entry) → List (ℕ × Entry)
of_number number rs = filter (λ (r : ℕ × Entry). r.0 == number) rs

-- the entry at a place of a list
entry_at : (log : List Entry) (number : ℕ) → number < length log → (entry : Entry) × (get_elem? log number ≡ some entry)
entry_at [] number h = absurd (omega arith)
entry_at (x ∷ xs) zero h = (x, refl)
entry_at (x ∷ xs) (suc number) h = entry_at xs number (omega arith)

-- a list from a number on has none of a lower number,
none_below : (node first number : ℕ) (log : List Entry) → number < first → of_number number (own_from node first log) ≡ []
none_below node first number [] h = refl
none_below node first number (x ∷ xs) h =
    let more = none_below node (suc first) number xs (omega arith) in
    elim (x.node == node) as (λ (b : Bool). of_number number (cond b ((first, x) ∷ own_from node (suc first) xs) (own_from node (suc first) xs)) ≡ []) [
      | true ↦ ap (λ (b : Bool). cond b ((first, x) ∷ of_number number (own_from node (suc first) xs)) (of_number number (own_from node (suc first) xs))) (ne_eqb first number (λ e. omega (arith, e, h))) ∙ more
      | false ↦ more
    ]

-- one of its own node's,
one_own : (first place : ℕ) (log : List Entry) (entry : Entry) → get_elem? log place ≡ some entry
    → of_number (first + place) (own_from entry.node first log) ≡ (first + place, entry) ∷ []
one_own first place [] entry at = absurd (some-ne-none entry (sym at))
one_own first zero (x ∷ xs) entry at =
    let is : x ≡ entry = some-injective x entry at in
    let same : first ≡ first + 0 = omega arith in
    let rest = own_from entry.node (suc first) xs in
    ap (λ (b : Bool). of_number (first + 0) (cond b ((first, x) ∷ rest) rest)) (eq-eqb x.node entry.node (ap (λ (e : Entry). e.node) is))
    ∙ ap (λ (b : Bool). cond b ((first, x) ∷ of_number (first + 0) rest) (of_number (first + 0) rest)) (eq-eqb first (first + 0) same)
    ∙ (λ i. (same i, is i) ∷ none_below entry.node (suc first) (first + 0) xs (omega arith) i)
one_own first (suc place) (x ∷ xs) entry at =
    let same : suc first + place ≡ first + suc place = omega arith in
    let rest = own_from entry.node (suc first) xs in
    let more = subst (λ (k : ℕ). of_number k rest ≡ (k, entry) ∷ []) same (one_own (suc first) place xs entry at) in
    let k = first + suc place in
    elim (x.node == entry.node) as (λ (b : Bool). of_number k (cond b ((first, x) ∷ rest) rest) ≡ (k, entry) ∷ []) [
      | true ↦ ap (λ (b : Bool). cond b ((first, x) ∷ of_number k rest) (of_number k rest)) (ne_eqb first k (λ e. omega (arith, e))) ∙ more
      | false ↦ more
    ]

-- and none of another's
none_other : (node first place : ℕ) (log : List Entry) (entry : Entry) → get_elem? log place ≡ some entry → node ≢ entry.node
    → of_number (first + place) (own_from node first log) ≡ []
none_other node first place [] entry at other = absurd (some-ne-none entry (sym at))
none_other node first zero (x ∷ xs) entry at other =
    let is : x ≡ entry = some-injective x entry at in
    let rest = own_from node (suc first) xs in
    ap (λ (b : Bool). of_number (first + 0) (cond b ((first, x) ∷ rest) rest)) (ne_eqb x.node node (λ e. other (sym e ∙ ap (λ (z : Entry). z.node) is)))
    ∙ none_below node (suc first) (first + 0) xs (omega arith)
none_other node first (suc place) (x ∷ xs) entry at other =
    let same : suc first + place ≡ first + suc place = omega arith in
    let rest = own_from node (suc first) xs in
    let more = subst (λ (k : ℕ). of_number k rest ≡ []) same (none_other node (suc first) place xs entry at other) in
    let k = first + suc place in
    elim (x.node == node) as (λ (b : Bool). of_number k (cond b ((first, x) ∷ rest) rest) ≡ []) [
      | true ↦ ap (λ (b : Bool). cond b ((first, x) ∷ of_number k rest) (of_number k rest)) (ne_eqb first k (λ e. omega (arith, e))) ∙ more
      | false ↦ more
    ]

pub holds_of_entries : HoldsOfEntries
holds_of_entries nodes places s r number below =
    let found = entry_at r.log number (subst (λ (k : ℕ). number < k) r.tail_is below) in
    let from_zero : 0 + number ≡ number = omega arith in
    record {
      entry = found.0;
      there = r.whose number found.0 found.1;
      by = λ id v at owns.
          let one : of_number number (own_entries found.0.node r.log) ≡ (number, found.0) ∷ [] =
          subst (λ (k : ℕ). of_number k (own_entries found.0.node r.log) ≡ (k, found.0) ∷ []) from_zero (one_own 0 number r.log found.0 found.1) in
          ap (of_number number) ((r.each_seat id v at).owns found.0.node owns).own ∙ one;
      alone = λ id node v at owns other.
          let none : of_number number (own_entries node r.log) ≡ [] =
          subst (λ (k : ℕ). of_number k (own_entries node r.log) ≡ []) from_zero (none_other node 0 number r.log found.0 found.1 other) in
          ap (of_number number) ((r.each_seat id v at).owns node owns).own ∙ none;
    }
