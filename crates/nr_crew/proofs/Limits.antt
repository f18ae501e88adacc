-- Which worker it is, and within which limits it serves, stays as it is while it serves.
use Rattle.std.proofs.Common.{◌≡◌, ℕ, inl, inr, Bool, true, false, List, [], ◌∷◌, ◌++◌, ap, ◌∙◌, subst, sym}
use Rattle.std.specs.List.{AllByRecursion}
use Rattle.nr_model.proofs.JobLists.{All-append}
use Rattle.nr_service.specs.Endings.{AreTurns, TakesTurns}
use Rattle.nr_service.specs.Turns.{IsSameWorker}
use Rattle.nr_service.specs.declared.ended.Ended.{Ended}
use Rattle.nr_service.specs.declared.ended.Ended.TheVariants as endings
use Rattle.nr_service.specs.declared.gate.Go.{Go}
use Rattle.nr_service.specs.declared.service.Service.{Service}
use Rattle.nr_crew.specs.Left.{AreServedWithin}
use Rattle.nr_crew.specs.declared.lane.WorkerEnd.{WorkerEnd}
use Rattle.nr_crew.specs.declared.serving.ClientLimits.{ClientLimits}

module _ {A S D M : Type 0} where
  same_on : (a b c : (Service A S D M)) → IsSameWorker a b → IsSameWorker b c → IsSameWorker a c
  same_on a b c one two = record {
    node_is = two.node_is ∙ one.node_is;
    worker_is = two.worker_is ∙ one.worker_is;
    limit_is = two.limit_is ∙ one.limit_is;
    timeout_is = two.timeout_is ∙ one.timeout_is;
  }

  same_self : (a b : (Service A S D M)) → b ≡ a → IsSameWorker a b
  same_self a b is = record {
    node_is = ap (λ (s : (Service A S D M)). s.node) is;
    worker_is = ap (λ (s : (Service A S D M)). s.worker) is;
    limit_is = ap (λ (s : (Service A S D M)). s.limit) is;
    timeout_is = ap (λ (s : (Service A S D M)). s.timeout) is;
  }

  module _ (says : ℕ → Go → Type 0) (goes : (Service A S D M) → Type 0) (turns : Bool → (Service A S D M) → (Service A S D M) → Type 0) (breaks : (Service A S D M) → (Service A S D M) → Type 0)
      (is_done : ℕ → (Service A S D M) → Type 0) (turned : (waits : Bool) (a b : (Service A S D M)) → turns waits a b → IsSameWorker a b)
      (broken : (a b : (Service A S D M)) → breaks a b → IsSameWorker a b) where
    along : (whole : List (Service A S D M)) (old last : (Service A S D M)) → AreTurns (turns true) old whole last → IsSameWorker old last
    along [] old last same = same_self old last same
    along (next ∷ more) old last (turn, rest) = same_on old next last (turned true old next turn) (along more next last rest)

    pub same_worker : (ended : Ended) (old new : (Service A S D M)) → TakesTurns says goes turns breaks is_done ended old new → IsSameWorker old new
    same_worker endings.Stopped old new t = same_on old t.last new (along t.whole old t.last t.taken) (same_self t.last new t.ends.1)
    same_worker (endings.Memory memory) old new t = same_on old t.last new (along t.whole old t.last t.taken) (elim t.ends.1 [
      | inl by ↦ broken t.last new by
      | inr by ↦ turned true t.last new by.0
    ])
    same_worker endings.Down old new t = same_on old t.last new (along t.whole old t.last t.taken) (elim t.ends.1 [
      | inl by ↦ broken t.last new by
      | inr by ↦ turned true t.last new by.0
    ])
    same_worker endings.Device old new t = same_on old t.last new (along t.whole old t.last t.taken) (turned false t.last new t.ends.1)

-- one more served within the same
pub within_more : {S D M : Type 0} (limits : ClientLimits) (old new : List (WorkerEnd S D M)) (left : WorkerEnd S D M) → new ≡ old ++ left ∷ [] → AreServedWithin limits old
    → left.limits ≡ limits → AreServedWithin limits new
within_more {S} {D} {M} limits old new left is all one =
    let P : WorkerEnd S D M → Type 0 = λ one. one.limits ≡ limits in
    subst (AllByRecursion P) (sym is) (All-append P old (left ∷ []) all (one, tt))
