-- Whether an entry is due.
use Rattle.std.proofs.Common.{◌≡◌, ℕ, ◌<◌, Bool, true, false, List, [], ◌∷◌, Option, refl, ap, sym, ◌∙◌}
use Rattle.std.specs.Prelude.{is_some}
use Rattle.nr_entry.specs.Waiting.{has_some}
use Rattle.nr_entry.specs.declared.job.Job.{Job}
use Rattle.nr_node.specs.declared.next.Next.{Next}
use Rattle.nr_node.specs.Level.{NodeState}
use Rattle.nr_node.specs.Next.{jobs_next, IsNextOf}
use Rattle.nr_node.specs.Reserved.{due_jobs}
use Rattle.nr_node.specs.Steps.{is_due}
use Rattle.nr_node.proofs.Caught.{next_has, none_of}

some_due : (next waiting : List Job) → (next ≡ [] → ⊥) → has_some (due_jobs next waiting) ≡ true
some_due [] waiting some = absurd (some refl)
some_due (job ∷ next) waiting some = refl

-- an entry that found no place before
pub next_due : (n : NodeState) (next : Option Next) (node nodes : ℕ) → jobs_next next ≡ n.next → IsNextOf node nodes next → 0 < nodes → is_some next ≡ true → true ≡ is_due n
next_due n next node nodes is of some there = sym (some_due n.next n.replica.waiting (λ none. next_has next node nodes of some there (is ∙ none)))

-- else the updates that lead
pub leads_due : (n : NodeState) (next : Option Next) (leads : Bool) (waiting : List Job) → jobs_next next ≡ n.next → is_some next ≡ false → waiting ≡ n.replica.waiting
    → leads ≡ has_some (due_jobs [] waiting) → leads ≡ is_due n
leads_due n next leads waiting is none same lead =
    lead ∙ ap (λ (js : List Job). has_some (due_jobs [] js)) same ∙ ap (λ (js : List Job). has_some (due_jobs js n.replica.waiting)) (sym (ap jobs_next (none_of next none)) ∙ is)
