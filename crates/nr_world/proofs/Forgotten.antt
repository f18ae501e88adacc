-- Workers whose jobs are dropped, one after the other.
use Rattle.std.proofs.Common.{◌≡◌, ℕ, zero, suc, ◌+◌, ◌<◌, ◌≤◌, List, [], ◌∷◌, length, get_or, set, refl, ap, sym, subst, arith, Option}
use Rattle.std.specs.Prelude.{map}
use Rattle.nr_model.specs.Nodes as nodes
use Rattle.nr_entry.specs.Jobs.{items_of}
use Rattle.nr_world.specs.declared.worker.WorldWorker.{WorldWorker}
use Rattle.nr_world.specs.Workers.{slot_seen, worker_seen}
use Rattle.nr_world.specs.Served.{workers_seen}
use Rattle.nr_world.specs.Forgotten.{IsForgotten, AreForgotten}

first_one : (ws : List WorldWorker) (x d : WorldWorker) → 0 < length ws → IsForgotten (get_or ws 0 d) x → AreForgotten 1 ws (set ws 0 x)
first_one [] x d h f = absurd (omega arith)
first_one (w ∷ ws) x d h f = (f, refl)

further : (n : ℕ) (olds news : List WorldWorker) (x d : WorldWorker) → AreForgotten n olds news → n < length news → IsForgotten (get_or news n d) x
    → AreForgotten (suc n) olds (set news n x)
further zero olds news x d h k f = subst (λ (ws : List WorldWorker). AreForgotten 1 ws (set news 0 x)) (sym h) (first_one news x d k f)
further (suc n) [] [] x d h k f = absurd (omega arith)
further (suc n) [] (new ∷ news) x d h k f = absurd h
further (suc n) (old ∷ olds) [] x d h k f = absurd h
further (suc n) (old ∷ olds) (new ∷ news) x d h k f = (h.0, further n olds news x d h.1 (omega arith) f)

pub forgotten_step : (n : ℕ) (olds news : List WorldWorker) (x d : WorldWorker) → AreForgotten n olds news → n < length news → IsForgotten (get_or news n d) x
    → AreForgotten (n + 1) olds (set news n x)
forgotten_step n olds news x d h k f =
    let e : suc n ≡ n + 1 = omega arith in
    subst (λ m. AreForgotten m olds (set news n x)) e (further n olds news x d h k f)

pub same_length : (n : ℕ) (olds news : List WorldWorker) → AreForgotten n olds news → length news ≡ length olds
same_length zero olds news h = ap length (sym h)
same_length (suc n) [] [] h = refl
same_length (suc n) [] (new ∷ news) h = absurd h
same_length (suc n) (old ∷ olds) [] h = absurd h
same_length (suc n) (old ∷ olds) (new ∷ news) h = ap suc (same_length n olds news h.1)

-- once all are, it is what the definitions say
pub forgotten_all : (n : ℕ) (olds news : List WorldWorker) (owed : List (Option ℕ)) → length olds ≤ n → AreForgotten n olds news
    → workers_seen news owed ≡ map (λ (worker : nodes.Worker). record worker { pending = [] }) (workers_seen olds owed)
forgotten_all zero [] [] owed k h = refl
forgotten_all zero [] (new ∷ news) owed k h = absurd (cc)
forgotten_all zero (old ∷ olds) news owed k h = absurd (omega arith)
forgotten_all (suc n) [] [] owed k h = refl
forgotten_all (suc n) [] (new ∷ news) owed k h = absurd h
forgotten_all (suc n) (old ∷ olds) [] owed k h = absurd h
forgotten_all (suc n) (old ∷ olds) (new ∷ news) [] k h = refl
forgotten_all (suc n) (old ∷ olds) (new ∷ news) (o ∷ owed) k h =
    let more = forgotten_all n olds news owed (omega arith) h.1 in
    let first : worker_seen new o ≡ record (worker_seen old o) { pending = [] } =
    λ i. record { pending = items_of (h.0.pending i); batches = h.0.batches i; slot = slot_seen (h.0.slot i) o } in
    λ i. first i ∷ more i
