-- What a node tells of a connection that goes on.
use Rattle.std.proofs.Common.{◌≡◌, ℕ, ◌<◌, true, length, refl, ap, sym, ◌∙◌, subst, eqb}
use Rattle.std.specs.Prelude.{not, Option, Some, None, option_map, IfSome}
use Rattle.std.specs.FinMap as finmap
use Rattle.std.specs.List.{range_with_len}
use Rattle.std.proofs.lemmas.Bool.{and_parts, eqb-true, ltb-true}
use Rattle.nr_job_numbers.specs.declared.account.Account.{Account}
use Rattle.nr_job_numbers.specs.declared.account.Unended.{Unended}
use Rattle.nr_job_numbers.specs.Account.{is_of}
use Rattle.nr_job_numbers.specs.Stored.{is_unended, numbers_in, CountsTo, ComesAfter}
use Rattle.nr_replica.specs.Members.{worker_of}
use Rattle.nr_node.specs.declared.next.Next.{Next}
use Rattle.nr_node.specs.Level.{NodeState, all_jobs, connection_at}
use Rattle.nr_node.specs.Kept.{IsKept}
use Rattle.nr_node.specs.Next.{jobs_next}

-- its account
account_of : (worker next : ℕ) (o : Option Account) → is_unended worker o ≡ true → option_map (λ (a : Account). a.next) o ≡ Some next
    → (a : Account) × (o ≡ Some a) × (a.worker ≡ worker) × (a.next ≡ next) × (0 < a.next)
account_of worker next None goes is = absurd (cc goes)
account_of worker next (Some a) goes is =
    let parts = and_parts (is_of worker a) _ goes in
    let own = and_parts (eqb a.worker worker) (not a.is_ended) parts.0 in
    let number : a.next ≡ next = cc is in
    (a, refl, eqb-true a.worker worker own.0, number, ltb-true 0 a.next parts.1)

-- The worker serves it, as many of its jobs as are told are in the record or have still to get there, and one at least.
pub record IsToldOf (worker : ℕ) (n : NodeState) (one : Unended) : Type 0 where
  pub served : (one.serial < length n.replica.members) × (worker_of n.replica.members (connection_at n.book.node one.serial) ≡ worker)
  pub numbered : numbers_in (connection_at n.book.node one.serial) (all_jobs n.seat.standing n.next n.replica.waiting) ≡ range_with_len 0 one.next
  pub some : 0 < one.next

told_at : (n : NodeState) (next : Option Next) (nodes worker : ℕ) (one : Unended) → IsKept n.seat.standing n.replica n.book next nodes → n.next ≡ jobs_next next
    → is_unended worker (finmap.get n.book.held one.serial) ≡ true → option_map (λ (a : Account). a.next) (finmap.get n.book.held one.serial) ≡ Some one.next
    → IsToldOf worker n one
told_at n next nodes worker one k is goes number =
    let (a, at, own, counts, some) = account_of worker one.next (finmap.get n.book.held one.serial) goes number in
    let has = k.accounts one.serial a at in
    let d = connection_at n.book.node one.serial in
    let taken = subst (λ (o : Option Account). CountsTo (λ (a : Account). a.next) o (numbers_in d (all_jobs n.seat.standing (jobs_next next) n.replica.waiting))) at
    (k.order.taken one.serial) in
    record {
      served = (has.0, sym has.1 ∙ own);
      numbered = (λ i. numbers_in d (all_jobs n.seat.standing (is i) n.replica.waiting)) ∙ taken ∙ ap (range_with_len 0) counts;
      some = subst (λ (count : ℕ). 0 < count) counts some;
    }

pub all_told : (n m : NodeState) (next : Option Next) (nodes worker : ℕ) (last : Option ℕ) (result : Option Unended) → n ≡ m
    → IsKept n.seat.standing n.replica n.book next nodes → n.next ≡ jobs_next next
    → IfSome result (λ one. ComesAfter last one.serial × (is_unended worker (finmap.get n.book.held one.serial) ≡ true))
    → IfSome result (λ one. option_map (λ (account : Account). account.next) (finmap.get n.book.held one.serial) ≡ Some one.next) → IfSome result (IsToldOf worker m)
all_told n m next nodes worker last None same k is found number = tt
all_told n m next nodes worker last (Some one) same k is found number =
    subst (λ (x : NodeState). IsToldOf worker x one) same (told_at n next nodes worker one k is found.1 number)
