-- What the sets have after a change of one of them.
use Rattle.std.proofs.Common.{◌≡◌, ℕ, zero, suc, ◌<◌, ◌≤◌, Bool, true, false, cond, inl, inr, List, [], ◌∷◌, ◌++◌, length, get_or, set, refl, ap, sym, ◌∙◌, subst, arith}
use Rattle.std.proofs.lemmas.Grind.{common_steps}
use Rattle.std.specs.Prelude.{◌==◌, ◌&&◌, Result, Ok, Err, OnErr, IfSome, slice_get}
use Rattle.std.specs.BTreeSet.{BTreeSet, contains, IsKeyRangeOf, IsKeyInRange}
use Rattle.std.specs.declared.ops.Bound.TheVariants.{Included, Unbounded}
use Rattle.std.specs.List.{list_any}
use Rattle.std.specs.Ordering.{eq_by_cmp, is_gt, nat_cmp}
use Rattle.std.specs.Cmp.{unsigned_ties}
use Rattle.std.proofs.lemmas.Bool.{cases_Bool, cases_eq, eq-eqb, ne_eqb, eqb-true, and_parts, and_from, both_ways}
use Rattle.nr_replica.specs.Ready.{has_serial, IsMarked, IsAsBefore}

abbrev Sets : Type 0
Sets = List (BTreeSet ℕ)

pub has_at : (sets : Sets) (w s : ℕ) (d : BTreeSet ℕ) → w < length sets → has_serial sets w s ≡ contains nat_cmp (get_or sets w d) s
has_at [] w s d within = absurd (omega arith)
has_at (own ∷ sets) zero s d within = refl
has_at (own ∷ sets) (suc w) s d within = has_at sets w s d (omega arith)

pub has_past : (sets : Sets) (w s : ℕ) → length sets ≤ w → has_serial sets w s ≡ false
has_past [] w s past = refl
has_past (own ∷ sets) zero s past = absurd (omega arith)
has_past (own ∷ sets) (suc w) s past = has_past sets w s (omega arith)

-- one set more, an empty one
pub has_push : (sets : Sets) (own : BTreeSet ℕ) → own.keys ≡ [] → IsAsBefore sets (sets ++ own ∷ [])
has_push [] own none zero s = ap (list_any (eq_by_cmp nat_cmp s)) none
has_push [] own none (suc w) s = refl
has_push (first ∷ sets) own none zero s = refl
has_push (first ∷ sets) own none (suc w) s = has_push sets own none w s

-- another set in the place of one
set_here : (sets : Sets) (w s : ℕ) (own : BTreeSet ℕ) → w < length sets → has_serial (set sets w own) w s ≡ contains nat_cmp own s
set_here [] w s own within = absurd (omega arith)
set_here (first ∷ sets) zero s own within = refl
set_here (first ∷ sets) (suc w) s own within = set_here sets w s own (omega arith)

set_apart : (sets : Sets) (worker w s : ℕ) (own : BTreeSet ℕ) → (worker ≡ w → ⊥) → has_serial (set sets worker own) w s ≡ has_serial sets w s
set_apart [] worker w s own apart = refl
set_apart (first ∷ sets) zero zero s own apart = absurd (apart refl)
set_apart (first ∷ sets) zero (suc w) s own apart = refl
set_apart (first ∷ sets) (suc worker) zero s own apart = refl
set_apart (first ∷ sets) (suc worker) (suc w) s own apart = set_apart sets worker w s own (λ e. apart (ap suc e))

-- one worker's connection, or another
pub at_one : (P : Bool → Type 0) (worker w serial s : ℕ) → (worker ≡ w → serial ≡ s → P true) → ((worker ≡ w → serial ≡ s → ⊥) → P false)
    → P (worker == w && serial == s)
at_one P worker w serial s here elsewhere = elim (cases_Bool (worker == w && serial == s)) [
  | inl h ↦
      let both = and_parts (worker == w) (serial == s) h in
      subst P (sym h) (here (eqb-true worker w both.0) (eqb-true serial s both.1))
  | inr h ↦ subst P (sym h) (elsewhere (λ e f. both_ways (worker == w && serial == s) h (and_from (worker == w) (serial == s) (eq-eqb worker w e) (eq-eqb serial s f))))
]

pub set_marked : (worker serial : ℕ) (is_there : Bool) (sets : Sets) (old new d : BTreeSet ℕ) → worker < length sets → old ≡ get_or sets worker d
    → ((q : ℕ) → contains nat_cmp new q ≡ cond (eq_by_cmp nat_cmp serial q) is_there (contains nat_cmp old q))
    → IsMarked worker serial is_there sets (set sets worker new)
set_marked worker serial is_there sets old new d within at updates w s =
    let now : (q : ℕ) → contains nat_cmp new q ≡ cond (serial == q) is_there (has_serial sets worker q) = λ q.
    updates q ∙ ap (λ b. cond b is_there (contains nat_cmp old q)) (sym (unsigned_ties serial q))
    ∙ ap (λ b. cond (serial == q) is_there b) (ap (λ (own : BTreeSet ℕ). contains nat_cmp own q) at ∙ sym (has_at sets worker q d within)) in
    at_one (λ b. has_serial (set sets worker new) w s ≡ cond b is_there (has_serial sets w s)) worker w serial s
    (λ e f. ap (λ (v : ℕ). has_serial (set sets worker new) v s) (sym e) ∙ set_here sets worker s new within ∙ now s
    ∙ ap (λ b. cond b is_there (has_serial sets worker s)) (eq-eqb serial s f))
    (λ other. elim (cases_eq worker w) [
      | inl e ↦
          ap (λ (v : ℕ). has_serial (set sets worker new) v s) (sym e) ∙ set_here sets worker s new within ∙ now s
          ∙ ap (λ b. cond b is_there (has_serial sets worker s)) (ne_eqb serial s (other e))
          ∙ ap (λ (v : ℕ). has_serial sets v s) e
      | inr apart ↦ set_apart sets worker w s new apart
    ])

-- it is there as it was
pub still_marked : (worker serial : ℕ) (is_there : Bool) (old new : Sets) → has_serial old worker serial ≡ is_there → IsAsBefore old new
    → IsMarked worker serial is_there old new
still_marked worker serial is_there old new was same w s =
    same w s
    ∙ at_one (λ b. has_serial old w s ≡ cond b is_there (has_serial old w s)) worker w serial s
    (λ e f. sym (λ i. has_serial old (e i) (f i)) ∙ was) (λ _. refl)

-- a change behind none, and one behind another of the same connection
pub marked_behind : (worker serial : ℕ) (is_there : Bool) (old mid new : Sets) → IsAsBefore old mid → IsMarked worker serial is_there mid new
    → IsMarked worker serial is_there old new
marked_behind worker serial is_there old mid new same marks w s =
    marks w s ∙ ap (λ b. cond (worker == w && serial == s) is_there b) (same w s)

again : (b x y z : Bool) → cond b y (cond b x z) ≡ cond b y z
again true x y z = refl
again false x y z = refl

pub marked_again : (worker serial : ℕ) (first second : Bool) (old mid new : Sets) → IsMarked worker serial first old mid
    → IsMarked worker serial second mid new → IsMarked worker serial second old new
marked_again worker serial first second old mid new marks more w s =
    more w s ∙ ap (λ b. cond (worker == w && serial == s) second b) (marks w s)
    ∙ again (worker == w && serial == s) first second (has_serial old w s)

-- a set with the same serials in the place of one
pub set_as_before : (worker : ℕ) (sets : Sets) (old new d : BTreeSet ℕ) → worker < length sets → old ≡ get_or sets worker d → new.keys ≡ old.keys
    → IsAsBefore sets (set sets worker new)
set_as_before worker sets old new d within at same w s = elim (cases_eq worker w) [
  | inl e ↦
      ap (λ (v : ℕ). has_serial (set sets worker new) v s) (sym e) ∙ set_here sets worker s new within
      ∙ ap (λ (keys : List ℕ). list_any (eq_by_cmp nat_cmp s) keys) same
      ∙ ap (λ (own : BTreeSet ℕ). contains nat_cmp own s) at ∙ sym (has_at sets worker s d within) ∙ ap (λ (v : ℕ). has_serial sets v s) e
  | inr apart ↦ set_apart sets worker w s new apart
]

pub on_err : {T E : Type 0} {P : Type 0} (result : Result T E) → P → OnErr result P
on_err (Ok x) p = tt
on_err (Err e) p = p

-- the first serial of a worker's set from one on
abbrev IsFrom : ℕ → BTreeSet ℕ → List ℕ → Type 0
IsFrom from own part = IsKeyRangeOf nat_cmp (Included from) Unbounded own part

pub first_has : (worker from : ℕ) (sets : Sets) (own : BTreeSet ℕ) (first : ℕ) (part rest : List ℕ) → worker < length sets → own ≡ get_or sets worker own
    → IsFrom from own part → part ≡ first ∷ rest → has_serial sets worker first ≡ true
first_has worker from sets own first part rest within at is split =
    has_at sets worker first own within ∙ ap (λ (own : BTreeSet ℕ). contains nat_cmp own first) (sym at)
    ∙ (subst (λ (keys : List ℕ). IfSome (slice_get keys 0) (IsKeyInRange nat_cmp (Included from) Unbounded own)) split is.1).1

pub first_least : (worker from : ℕ) (sets : Sets) (own : BTreeSet ℕ) (first : ℕ) (part rest : List ℕ) → worker < length sets → own ≡ get_or sets worker own
    → IsFrom from own part → part ≡ first ∷ rest → (other : ℕ) → from ≤ other → has_serial sets worker other ≡ true → first ≤ other
first_least worker from sets own first part rest within at is split other behind has =
    let here : contains nat_cmp own other ≡ true =
    ap (λ (own : BTreeSet ℕ). contains nat_cmp own other) at ∙ sym (has_at sets worker other own within) ∙ has in
    let in_range : is_gt (nat_cmp from other) ≡ false = grind (arith, common_steps) in
    let least : is_gt (nat_cmp first other) ≡ false =
    subst (λ (keys : List ℕ). IfSome (slice_get keys 0) (λ k. is_gt (nat_cmp k other) ≡ false)) split (is.2 other (in_range, tt) here) in
    grind (arith, common_steps)

pub none_has : (worker from : ℕ) (sets : Sets) (own : BTreeSet ℕ) (part : List ℕ) → worker < length sets → own ≡ get_or sets worker own
    → IsFrom from own part → part ≡ [] → (other : ℕ) → from ≤ other → has_serial sets worker other ≡ false
none_has worker from sets own part within at is none other behind =
    let in_range : is_gt (nat_cmp from other) ≡ false = grind (arith, common_steps) in
    has_at sets worker other own within ∙ ap (λ (own : BTreeSet ℕ). contains nat_cmp own other) (sym at)
    ∙ is.5 none other (in_range, tt)
