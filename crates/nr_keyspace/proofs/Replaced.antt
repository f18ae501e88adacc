-- What it is to give a name another deadline.
use Rattle.std.proofs.Common.{◌≡◌, ℤ, Bool, true, false, cond, not, ◌||◌, ◌&&◌, Option, Some, None, IfSome, refl, ap, sym, ◌∙◌, true≢false}
use Rattle.std.specs.declared.cmp.Ordering.{Ordering}
use Rattle.std.specs.declared.cmp.Ordering.TheVariants.{Less, Equal, Greater}
use Rattle.std.specs.Ordering.{is_eq, eq_by_cmp, int_cmp, int_eq, ordering_then}
use Rattle.std.specs.Bool.{Decides}
use Rattle.std.specs.Option.{option_eq}
use Rattle.std.specs.Cmp.{Equal-is, signed_Decides, tied_itself, int_cmp_total}
use Rattle.std.specs.FinSet as set
use Rattle.std.proofs.lemmas.Map.Lookups.{exact_signed, exact_bytes}
use Rattle.nr_model.specs.Bytes.{Bytes}
use Rattle.nr_model.specs.Keyspace.{byte_cmp}
use Rattle.nr_model.proofs.Ordered.{or_true}
use Rattle.nr_keyspace.specs.Deadlines.{due_cmp, has_deadline, with_deadline, without_deadline, IsReplaced}
use Rattle.nr_keyspace.proofs.Orders.{due_total}

both_equal : (r s : Ordering) → is_eq (ordering_then r s) ≡ (is_eq r && is_eq s)
both_equal Less s = refl
both_equal Equal s = refl
both_equal Greater s = refl

contains-with : (dues : set.FinSet due_cmp) (after : Option ℤ) (name : Bytes) (deadline : ℤ) (other : Bytes)
    → set.contains (with_deadline dues after name) (deadline, other)
    ≡ ((has_deadline deadline after && eq_by_cmp byte_cmp other name) || set.contains dues (deadline, other))
contains-with dues None name deadline other = refl
contains-with dues (Some x) name deadline other =
    set.contains-insert due_total dues (x, name) (deadline, other)
    ∙ ap (λ b. b || set.contains dues (deadline, other)) (both_equal (int_cmp deadline x) (byte_cmp other name))

pub contains-without : (dues : set.FinSet due_cmp) (before : Option ℤ) (name : Bytes) (deadline : ℤ) (other : Bytes)
    → set.contains (without_deadline dues before name) (deadline, other)
    ≡ (not (has_deadline deadline before && eq_by_cmp byte_cmp other name) && set.contains dues (deadline, other))
contains-without dues None name deadline other = refl
contains-without dues (Some x) name deadline other =
    set.contains-remove due_total dues (x, name) (deadline, other)
    ∙ ap (λ b. not b && set.contains dues (deadline, other)) (both_equal (int_cmp deadline x) (byte_cmp other name))

-- a deadline is one
one_deadline : (before after : Option ℤ) → (before ≡ after → ⊥) → (deadline : ℤ) → has_deadline deadline before ≡ true → has_deadline deadline after ≡ false
one_deadline None after apart deadline has = absurd (true≢false (sym has))
one_deadline (Some x) None apart deadline has = refl
one_deadline (Some x) (Some y) apart deadline has =
    elim (is_eq (int_cmp deadline y)) as (λ b. is_eq (int_cmp deadline y) ≡ b → b ≡ false) [
      | true ↦ λ same. absurd (apart (ap Some
          (sym (exact_signed deadline x ((Equal-is (int_cmp deadline x)).0 has)) ∙ exact_signed deadline y ((Equal-is (int_cmp deadline y)).0 same))))
      | false ↦ λ _. refl
    ] refl

picked : (had has here found : Bool) → (here ≡ true → found ≡ had) → (had ≡ true → has ≡ false)
    → (not (had && here) && ((has && here) || found)) ≡ cond here has found
picked true true here found is one = absurd (true≢false (one refl))
picked true false true found is one = refl
picked true false false found is one = refl
picked false true true found is one = refl
picked false true false found is one = refl
picked false false true found is one = is refl
picked false false false found is one = refl

-- where the name had the deadline before and no other
pub moved : (dues : set.FinSet due_cmp) (before after : Option ℤ) (name : Bytes)
    → ((deadline : ℤ) → set.contains dues (deadline, name) ≡ has_deadline deadline before) → (before ≡ after → ⊥)
    → IsReplaced dues (without_deadline (with_deadline dues after name) before name) after name
moved dues before after name had apart = record {
  found = λ deadline other.
      contains-without (with_deadline dues after name) before name deadline other
      ∙ ap (λ b. not (has_deadline deadline before && eq_by_cmp byte_cmp other name) && b) (contains-with dues after name deadline other)
      ∙ picked (has_deadline deadline before) (has_deadline deadline after) (eq_by_cmp byte_cmp other name) (set.contains dues (deadline, other))
      (λ here. ap (λ n. set.contains dues (deadline, n)) (exact_bytes other name ((Equal-is (byte_cmp other name)).0 here)) ∙ had deadline)
      (one_deadline before after apart deadline);
}

pub kept : (dues : set.FinSet due_cmp) (before after : Option ℤ) (name : Bytes)
    → ((deadline : ℤ) → set.contains dues (deadline, name) ≡ has_deadline deadline before) → before ≡ after
    → IsReplaced dues dues after name
kept dues before after name had same = record {
  found = λ deadline other.
      elim (eq_by_cmp byte_cmp other name) as
      (λ b. eq_by_cmp byte_cmp other name ≡ b
      → set.contains dues (deadline, other) ≡ cond b (has_deadline deadline after) (set.contains dues (deadline, other))) [
        | true ↦ λ here. ap (λ n. set.contains dues (deadline, n)) (exact_bytes other name ((Equal-is (byte_cmp other name)).0 here)) ∙ had deadline
            ∙ ap (has_deadline deadline) same
        | false ↦ λ _. refl
      ] refl;
}

pub same_deadline : (before after : Option ℤ) (same : Bool) → same ≡ option_eq int_eq before after → Decides same (before ≡ after)
same_deadline None None same is = (λ _. refl, λ _. is)
same_deadline None (Some y) same is = (λ yes. absurd (true≢false (sym yes ∙ is)), λ e. cc)
same_deadline (Some x) None same is = (λ yes. absurd (true≢false (sym yes ∙ is)), λ e. cc)
same_deadline (Some x) (Some y) same is = (λ yes. ap Some ((signed_Decides x y).0 (sym is ∙ yes)), λ e. is ∙ (signed_Decides x y).1 (let f : x ≡ y = cc in f))

-- with its next deadline, a name is still there at the one that it had
pub still_there : (dues : set.FinSet due_cmp) (before after : Option ℤ) (name : Bytes)
    → ((deadline : ℤ) → set.contains dues (deadline, name) ≡ has_deadline deadline before)
    → IfSome before (λ deadline. set.contains (with_deadline dues after name) (deadline, name) ≡ true)
still_there dues None after name had = tt
still_there dues (Some x) after name had =
    contains-with dues after name x name
    ∙ ap (λ b. (has_deadline x after && eq_by_cmp byte_cmp name name) || b) (had x ∙ ap is_eq (tied_itself int_cmp_total x))
    ∙ or_true (has_deadline x after && eq_by_cmp byte_cmp name name)
