-- Workers whose jobs are dropped.
use Rattle.std.specs.Prelude.{◌≡◌, ℕ, zero, suc, List, [], ◌∷◌}
use Rattle.nr_world.specs.declared.worker.WorldWorker.{WorldWorker}

-- its jobs that it hasn't posted are dropped, and nothing else
pub record IsForgotten (old new : WorldWorker) : Type 0 where
  pub pending : new.pending.items ≡ []
  pub batches : new.batches ≡ old.batches
  pub slot : new.slot ≡ old.slot

-- those of the first of these, and the others are as they were
abbrev pub AreForgotten : ℕ → List WorldWorker → List WorldWorker → Type 0
AreForgotten zero olds news = olds ≡ news
AreForgotten (suc n) [] [] = Unit {0}
AreForgotten (suc n) [] (new ∷ news) = ⊥
AreForgotten (suc n) (old ∷ olds) [] = ⊥
AreForgotten (suc n) (old ∷ olds) (new ∷ news) = IsForgotten old new × AreForgotten n olds news
