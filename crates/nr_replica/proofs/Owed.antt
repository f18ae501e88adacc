-- What is owed of workers' batches, once jobs are executed.
use Rattle.std.proofs.Common.{◌≡◌, ℕ, zero, suc, ◌+◌, ◌<◌, ◌≤◌, true, cond, List, [], ◌∷◌, ◌++◌, length, take, get_or, set, refl, ap, sym, ◌∙◌, arith}
use Rattle.std.specs.Prelude.{Option, Some, None, ◌==◌}
use Rattle.std.proofs.lemmas.Bool.{ne_eqb}
use Rattle.std.proofs.lemmas.Bool.Decides.{nat_tests}
use Rattle.std.proofs.lemmas.List.{length-append}
use Rattle.std.proofs.lemmas.List.Elements.{filter-append}
use Rattle.nr_model.specs.Items.{Item}
use Rattle.nr_model.specs.Entries.{Jobs}
use Rattle.nr_entry.specs.Jobs.{item_of, items_of}
use Rattle.nr_entry.specs.declared.job.Job.{Job}
use Rattle.nr_replica.specs.Members.{Member, worker_of, jobs_of_worker}
use Rattle.nr_replica.specs.Replicas.{owing_less, owed_from}

-- less by so many, and less by more
less_twice : (m n : ℕ) (owed : Option ℕ) → owing_less (m + n) owed ≡ owing_less n (owing_less m owed)
less_twice m n None = refl
less_twice m n (Some owed) = ap (λ (k : ℕ). Some k) (omega arith)

less_none : (owed : Option ℕ) → owing_less 0 owed ≡ owed
less_none None = refl
less_none (Some owed) = ap (λ (k : ℕ). Some k) (omega arith)

join : (x y : Option ℕ) (xs ys : List (Option ℕ)) → x ≡ y → xs ≡ ys → x ∷ xs ≡ y ∷ ys
join x y xs ys p q = λ i. p i ∷ q i

pub owed_none : (w : ℕ) (members : List Member) (owed : List (Option ℕ)) → owed_from w members [] owed ≡ owed
owed_none w members [] = refl
owed_none w members (one ∷ owed) = join _ _ _ _ (less_none one) (owed_none (suc w) members owed)

pub owed_more : (w : ℕ) (members : List Member) (js ks : Jobs) (owed : List (Option ℕ))
    → owed_from w members (js ++ ks) owed ≡ owed_from w members ks (owed_from w members js owed)
owed_more w members js ks [] = refl
owed_more w members js ks (one ∷ owed) =
    let count : length (jobs_of_worker w members (js ++ ks)) ≡ length (jobs_of_worker w members js) + length (jobs_of_worker w members ks) =
    ap (λ (jobs : Jobs). length jobs) (filter-append _ js ks) ∙ length-append (jobs_of_worker w members js) (jobs_of_worker w members ks) in
    join _ _ _ _
    (ap (λ (n : ℕ). owing_less n one) count ∙ less_twice (length (jobs_of_worker w members js)) (length (jobs_of_worker w members ks)) one)
    (owed_more (suc w) members js ks owed)

-- a job of a worker, and of another
own_job : (w : ℕ) (members : List Member) (job : Item) → worker_of members job.connection ≡ w → length (jobs_of_worker w members (job ∷ [])) ≡ 1
own_job w members job own =
    let here : (worker_of members job.connection == w) ≡ true = grind (arith, nat_tests) in ap (λ b. length (cond b (job ∷ []) [])) here

others_job : (w : ℕ) (members : List Member) (job : Item) → (worker_of members job.connection ≡ w → ⊥) → length (jobs_of_worker w members (job ∷ [])) ≡ 0
others_job w members job other = ap (λ b. length (cond b (job ∷ []) [])) (ne_eqb (worker_of members job.connection) w other)

pub owed_others : (w : ℕ) (members : List Member) (job : Item) (owed : List (Option ℕ))
    → ((v : ℕ) → w ≤ v → v < w + length owed → worker_of members job.connection ≡ v → ⊥)
    → owed_from w members (job ∷ []) owed ≡ owed
owed_others w members job [] others = refl
owed_others w members job (one ∷ owed) others =
    join _ _ _ _ (ap (λ (n : ℕ). owing_less n one) (others_job w members job (others w (omega arith) (omega arith))) ∙ less_none one)
    (owed_others (suc w) members job owed (λ v from below. others v (omega arith) (omega arith)))

pub owed_one : (w i : ℕ) (members : List Member) (job : Item) (d : Option ℕ) (owed : List (Option ℕ)) → worker_of members job.connection ≡ w + i → i < length owed
    → owed_from w members (job ∷ []) owed ≡ set owed i (owing_less 1 (get_or owed i d))
owed_one w i members job d [] own within = absurd (omega arith)
owed_one w zero members job d (one ∷ owed) own within =
    join _ _ _ _ (ap (λ (n : ℕ). owing_less n one) (own_job w members job (own ∙ (omega arith))))
    (owed_others (suc w) members job owed (λ v from below e. omega arith))
owed_one w (suc i) members job d (one ∷ owed) own within =
    join _ _ _ _ (ap (λ (n : ℕ). owing_less n one) (others_job w members job (λ e. omega arith)) ∙ less_none one)
    (owed_one (suc w) i members job d owed (own ∙ (omega arith)) (omega arith))

pub owed_past : (members : List Member) (job : Item) (owed : List (Option ℕ)) → length owed ≤ worker_of members job.connection
    → owed_from 0 members (job ∷ []) owed ≡ owed
owed_past members job owed past = owed_others 0 members job owed (λ v from below e. omega arith)

-- the jobs up to an index, and one more
pub items_next : (jobs : List Job) (i : ℕ) (d : Job) → i < length jobs → items_of (take (i + 1) jobs) ≡ items_of (take i jobs) ++ item_of (get_or jobs i d) ∷ []
items_next [] i d within = absurd (omega arith)
items_next (job ∷ jobs) zero d within = refl
items_next (job ∷ jobs) (suc i) d within =
    let same : suc i + 1 ≡ suc (i + 1) = omega arith in
    ap (λ (n : ℕ). items_of (take n (job ∷ jobs))) same ∙ ap (λ (items : List Item). item_of job ∷ items) (items_next jobs i d (omega arith))

pub owed_next : (members : List Member) (jobs : List Job) (i : ℕ) (job d : Job) (old mid new : List (Option ℕ)) → i < length jobs → job ≡ get_or jobs i d
    → mid ≡ owed_from 0 members (items_of (take i jobs)) old → new ≡ owed_from 0 members (items_of (job ∷ [])) mid
    → new ≡ owed_from 0 members (items_of (take (i + 1) jobs)) old
owed_next members jobs i job d old mid new within is before more =
    more ∙ ap (λ (j : Job). owed_from 0 members (items_of (j ∷ [])) mid) is ∙ ap (owed_from 0 members (items_of (get_or jobs i d ∷ []))) before
    ∙ sym (owed_more 0 members (items_of (take i jobs)) (items_of (get_or jobs i d ∷ [])) old)
    ∙ ap (λ (items : Jobs). owed_from 0 members items old) (sym (items_next jobs i d within))
