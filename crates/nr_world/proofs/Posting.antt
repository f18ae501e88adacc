-- What a worker posts.
use Rattle.std.proofs.Common.{◌≡◌, ℕ, ◌+◌, List, take, drop, ap, sym, ◌∙◌}
use Rattle.std.proofs.lemmas.List.{take-map, drop-map}
use Rattle.nr_entry.specs.declared.job.Job.{Job}
use Rattle.nr_entry.specs.Jobs.{item_of, items_of}
use Rattle.nr_model.specs.Entries.{Jobs}
use Rattle.nr_model.specs.Nodes as nodes
use Rattle.nr_model.specs.Nodes.Steps.{most_batch_jobs, posted_worker}

abbrev pub posting : Jobs → ℕ → Jobs → nodes.Worker
posting pending batches jobs = record { pending = pending; batches = batches; slot = nodes.Posted jobs }

at : (most : ℕ) (old front behind : List Job) (batches : ℕ) → front ≡ take most old → behind ≡ drop most old
    → posting (items_of behind) batches (items_of front) ≡ posting (drop most (items_of old)) batches (take most (items_of old))
at most old front behind batches f b =
    let p : items_of behind ≡ drop most (items_of old) = ap items_of b ∙ sym (drop-map item_of most old) in
    let q : items_of front ≡ take most (items_of old) = ap items_of f ∙ sym (take-map item_of most old) in
    λ i. posting (p i) batches (q i)

pub posted : (old front behind : List Job) (batches : ℕ) (slot : nodes.Slot) → front ≡ take most_batch_jobs old → behind ≡ drop most_batch_jobs old
    → posting (items_of behind) (batches + 1) (items_of front) ≡ posted_worker (record { pending = items_of old; batches = batches; slot = slot })
posted old front behind batches slot f b = at most_batch_jobs old front behind (batches + 1) f b
