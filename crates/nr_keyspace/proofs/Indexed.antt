-- That the ordered deadlines are those of the names stays so.
use Rattle.std.proofs.Common.{◌≡◌, ◌-◌, suc, arith, subst, ℕ, ℤ, pos, Bool, true, false, cond, not, ◌&&◌, Option, Some, None, is_some, IfSome, refl, ap, sym, ◌∙◌, true≢false}
use Rattle.std.specs.Prelude.{int_lt}
use Rattle.std.specs.Ordering.{is_eq, eq_by_cmp, int_cmp}
use Rattle.std.specs.Cmp.{Equal-is, tied_itself, int_cmp_total}
use Rattle.std.specs.Cmp.Lexicographic.{nat_list_cmp_total}
use Rattle.std.specs.FinMap as map
use Rattle.std.specs.FinSet as set
use Rattle.std.proofs.lemmas.Map.Lookups.{exact_bytes, exact_signed}
use Rattle.nr_model.specs.Bytes.{Bytes}
use Rattle.nr_model.specs.Keyspace.{byte_cmp, Stored, is_live_at, only_live}
use Rattle.nr_keyspace.specs.Deadlines.{Due, due_cmp, has_deadline, without_deadline, IsReplaced, IsFirst}
use Rattle.nr_keyspace.specs.Stores.{Store, IsIndexed, deadline_of}
use Rattle.nr_keyspace.proofs.Replaced.{contains-without}

named : (q name : Bytes) → eq_by_cmp byte_cmp q name ≡ true → q ≡ name
named q name here = exact_bytes q name ((Equal-is (byte_cmp q name)).0 here)

pub empty_indexed : IsIndexed map.empty set.empty
empty_indexed = record {
  exact = λ deadline name. set.contains-empty due_cmp (deadline, name)
      ∙ ap (λ found. has_deadline deadline (deadline_of found)) (sym (map.get-empty byte_cmp name));
}

pub insert_indexed : (store : Store) (old new : set.FinSet due_cmp) (name : Bytes) (stored : Stored) → IsIndexed store old
    → IsReplaced old new stored.deadline name → IsIndexed (map.insert store name stored) new
insert_indexed store old new name stored was replaced = record {
  exact = λ deadline q.
      replaced.found deadline q
      ∙ elim (eq_by_cmp byte_cmp q name) as
      (λ t. cond t (has_deadline deadline stored.deadline) (set.contains old (deadline, q))
      ≡ has_deadline deadline (deadline_of (cond t (Some stored) (map.get store q)))) [
        | true ↦ refl
        | false ↦ was.exact deadline q
      ]
      ∙ ap (λ found. has_deadline deadline (deadline_of found)) (sym (map.get-insert nat_list_cmp_total store name stored q));
}

not_both : (b : Bool) → (not b && b) ≡ false
not_both true = refl
not_both false = refl

gone : (here had found has : Bool) → (here ≡ true → found ≡ had) → (here ≡ false → found ≡ has) → (not (had && here) && found) ≡ cond here false has
gone true true found has is _ = refl
gone true false found has is _ = is refl
gone false true found has _ is = is refl
gone false false found has _ is = is refl

pub remove_indexed : (store : Store) (dues : set.FinSet due_cmp) (name : Bytes) → IsIndexed store dues
    → IsIndexed (map.remove store name) (without_deadline dues (deadline_of (map.get store name)) name)
remove_indexed store dues name was = record {
  exact = λ deadline q.
      contains-without dues (deadline_of (map.get store name)) name deadline q
      ∙ gone (eq_by_cmp byte_cmp q name) (has_deadline deadline (deadline_of (map.get store name))) (set.contains dues (deadline, q))
      (has_deadline deadline (deadline_of (map.get store q)))
      (λ here. was.exact deadline q ∙ ap (λ n. has_deadline deadline (deadline_of (map.get store n))) (named q name here))
      (λ _. was.exact deadline q)
      ∙ elim (eq_by_cmp byte_cmp q name) as
      (λ t. cond t false (has_deadline deadline (deadline_of (map.get store q))) ≡ has_deadline deadline (deadline_of (cond t None (map.get store q)))) [
        | true ↦ refl
        | false ↦ refl
      ]
      ∙ ap (λ found. has_deadline deadline (deadline_of found)) (sym (map.get-remove nat_list_cmp_total store name q));
}

had_deadline : (deadline : ℤ) (stored : Option Stored) → has_deadline deadline (deadline_of stored) ≡ true → deadline_of stored ≡ Some deadline
had_deadline deadline None has = absurd (true≢false (sym has))
had_deadline deadline (Some stored) has =
    elim stored.deadline as (λ d. has_deadline deadline d ≡ true → d ≡ Some deadline) [
      | None ↦ λ no. absurd (true≢false (sym no))
      | Some other ↦ λ same. ap Some (sym (exact_signed deadline other ((Equal-is (int_cmp deadline other)).0 same)))
    ] has

live_by : (now : ℕ) (stored : Option Stored) (deadline : ℤ) → deadline_of stored ≡ Some deadline
    → only_live now stored ≡ cond (int_lt (pos now) deadline) stored None
live_by now None deadline has = absurd (let no : ◌≡◌ {A = Option ℤ} None (Some deadline) = has in cc no)
live_by now (Some stored) deadline has = ap (λ d. cond (is_live_at now d) (Some stored) None) has

-- one step of a sweep: an expired name is taken out of both
pub record IsStep (now : ℕ) (store : Store) (dues : set.FinSet due_cmp) (name : Bytes) (fewer : set.FinSet due_cmp) : Type 0 where
  pub indexed : IsIndexed (map.remove store name) fewer
  pub same_live : (q : Bytes) → only_live now (map.get (map.remove store name) q) ≡ only_live now (map.get store q)
  pub one : suc (map.len (map.remove store name)) ≡ map.len store

stored_there : (stored : Option Stored) (deadline : ℤ) → has_deadline deadline (deadline_of stored) ≡ true → is_some stored ≡ true
stored_there None deadline has = has
stored_there (Some stored) deadline has = refl

-- as many names less one, where the name was there
one_fewer : (store : Store) (name : Bytes) → map.contains_key store name ≡ true → suc (map.len (map.remove store name)) ≡ map.len store
one_fewer store name has =
    let some : map.len store ≡ 0 → ⊥ = λ none. true≢false
    (sym has ∙ ap (λ m. map.contains_key m name) (map.empty_of_len store none) ∙ ap is_some (map.get-empty byte_cmp name)) in
    let less : map.len (map.remove store name) ≡ map.len store - 1 =
    map.len-remove nat_list_cmp_total store name ∙ ap (λ b. cond b (map.len store - 1) (map.len store)) has in
    omega (arith, some)

pub sweep_step : (now : ℕ) (store : Store) (dues fewer : set.FinSet due_cmp) (name : Bytes) → IsIndexed store dues
    → (deadline : ℤ) × (int_lt (pos now) deadline ≡ false) × (set.contains dues (deadline, name) ≡ true) × (fewer ≡ set.remove dues (deadline, name))
    → IsStep now store dues name fewer
sweep_step now store dues fewer name was popped =
    let at : deadline_of (map.get store name) ≡ Some popped.0 = had_deadline popped.0 (map.get store name) (sym (was.exact popped.0 name) ∙ popped.2) in
    let expired : only_live now (map.get store name) ≡ None =
    live_by now (map.get store name) popped.0 at ∙ ap (λ b. cond b (map.get store name) None) popped.1 in
    record {
      indexed = subst (IsIndexed (map.remove store name)) (ap (λ d. without_deadline dues d name) at ∙ sym popped.3) (remove_indexed store dues name was);
      same_live = λ q.
          ap (only_live now) (map.get-remove nat_list_cmp_total store name q)
          ∙ elim (eq_by_cmp byte_cmp q name) as
          (λ t. eq_by_cmp byte_cmp q name ≡ t → only_live now (cond t None (map.get store q)) ≡ only_live now (map.get store q)) [
            | true ↦ λ here. sym (ap (λ n. only_live now (map.get store n)) (named q name here) ∙ expired)
            | false ↦ λ _. refl
          ] refl;
      one = one_fewer store name (stored_there (map.get store name) popped.0 (sym (was.exact popped.0 name) ∙ popped.2));
    }

-- the same, where it is the first that was taken out
pub swept_step : (now : ℕ) (store : Store) (dues fewer : set.FinSet due_cmp) (name : Bytes) → IsIndexed store dues
    → (deadline : ℤ) × (int_lt (pos now) deadline ≡ false) × IsFirst dues (deadline, name) → ((due : Due) → IsFirst dues due → fewer ≡ set.remove dues due)
    → IsStep now store dues name fewer
swept_step now store dues fewer name was first taken =
    sweep_step now store dues fewer name was (first.0, first.1, first.2.there, taken (first.0, name) first.2)

has_itself : (deadline : ℤ) → has_deadline deadline (Some deadline) ≡ true
has_itself deadline = ap is_eq (tied_itself int_cmp_total deadline)

-- a name is there at the deadline that it has
pub found_there : (store : Store) (dues : set.FinSet due_cmp) (name : Bytes) (found : Option ℤ) → IsIndexed store dues
    → deadline_of (map.get store name) ≡ found → IfSome found (λ deadline. set.contains dues (deadline, name) ≡ true)
found_there store dues name None was at = tt
found_there store dues name (Some deadline) was at = was.exact deadline name ∙ ap (has_deadline deadline) at ∙ has_itself deadline

no_deadline : (now : ℕ) (stored : Option Stored) → deadline_of stored ≡ None → only_live now stored ≡ stored
no_deadline now None _ = refl
no_deadline now (Some stored) at = ap (λ d. cond (is_live_at now d) (Some stored) None) at

-- where each deadline is live, so is each name
pub all_live : (now : ℕ) (store : Store) (dues : set.FinSet due_cmp) → IsIndexed store dues
    → ((deadline : ℤ) (name : Bytes) → set.contains dues (deadline, name) ≡ true → int_lt (pos now) deadline ≡ true)
    → (q : Bytes) → only_live now (map.get store q) ≡ map.get store q
all_live now store dues was live q =
    elim (deadline_of (map.get store q)) as (λ d. deadline_of (map.get store q) ≡ d → only_live now (map.get store q) ≡ map.get store q) [
      | Some deadline ↦ λ at.
          live_by now (map.get store q) deadline at
          ∙ ap (λ b. cond b (map.get store q) None) (live deadline q (was.exact deadline q ∙ ap (has_deadline deadline) at ∙ has_itself deadline))
      | None ↦ λ at. no_deadline now (map.get store q) at
    ] refl

pub live_here : (now : ℕ) (stored : Option Stored) (found : Stored) (live : Bool) → stored ≡ Some found → live ≡ is_live_at now found.deadline
    → only_live now stored ≡ cond live (Some found) None
live_here now stored found live at is = ap (only_live now) at ∙ ap (λ b. cond b (Some found) None) (sym is)
