-- What holds of all jobs of a list holds of those that are taken from it, and which of them are a connection's.
use Rattle.std.proofs.Common.{◌≡◌, ℕ, zero, suc, Bool, true, false, List, [], ◌∷◌, ◌++◌, drop, refl, ◌∙◌}
use Rattle.std.specs.Prelude.{filter}
use Rattle.std.specs.List.{AllByRecursion}
use Rattle.std.proofs.lemmas.Bool.{cond_both}
use Rattle.nr_model.specs.Items.{Connection, same_connection, Item}
use Rattle.nr_model.specs.Entries.{Jobs, leading, not_leading, left_after, leads_as_update, leads_as_read, most_entry_jobs, entry_jobs, left_by_entry, read_jobs, left_by_reads}
use Rattle.nr_model.specs.Asked.{own_jobs}
use Rattle.nr_model.proofs.JobLists.{All-take, filter-drops}

-- all of what is behind a front
pub All-drop : {A : Type 0} (P : A → Type 0) (n : ℕ) (xs : List A) → AllByRecursion P xs → AllByRecursion P (drop n xs)
All-drop P zero [] a = tt
All-drop P zero (x ∷ xs) a = a
All-drop P (suc n) [] a = tt
All-drop P (suc n) (x ∷ xs) a = All-drop P n xs a.1

-- all of those that pass
pub All-filtered : {A : Type 0} (P : A → Type 0) (test : A → Bool) (xs : List A) → AllByRecursion P xs → AllByRecursion P (filter test xs)
All-filtered P test [] a = tt
All-filtered P test (x ∷ xs) a =
    let more = All-filtered P test xs a.1 in
    cond_both (test x) _ _ (AllByRecursion P) (λ e. (a.0, more)) (λ e. more)

-- a weaker fact
pub All-weaker : {A : Type 0} (P Q : A → Type 0) → ((x : A) → P x → Q x) → (xs : List A) → AllByRecursion P xs → AllByRecursion Q xs
All-weaker P Q weaker [] a = tt
All-weaker P Q weaker (x ∷ xs) a = (weaker x a.0, All-weaker P Q weaker xs a.1)

-- all of those that lead, and of the others
All-leading : (P : Item → Type 0) (leads : Jobs → Item → Bool) (before jobs : Jobs) → AllByRecursion P jobs → AllByRecursion P (leading leads before jobs)
All-leading P leads before [] a = tt
All-leading P leads before (job ∷ jobs) a =
    let more = All-leading P leads (before ++ job ∷ []) jobs a.1 in
    cond_both (leads before job) _ _ (AllByRecursion P) (λ e. (a.0, more)) (λ e. more)

All-not_leading : (P : Item → Type 0) (leads : Jobs → Item → Bool) (before jobs : Jobs) → AllByRecursion P jobs → AllByRecursion P (not_leading leads before jobs)
All-not_leading P leads before [] a = tt
All-not_leading P leads before (job ∷ jobs) a =
    let more = All-not_leading P leads (before ++ job ∷ []) jobs a.1 in
    cond_both (leads before job) _ _ (AllByRecursion P) (λ e. more) (λ e. (a.0, more))

All-left : (P : Item → Type 0) (leads : Jobs → Item → Bool) (room : ℕ) (before jobs : Jobs) → AllByRecursion P jobs
    → AllByRecursion P (left_after leads room before jobs)
All-left P leads room before [] a = tt
All-left P leads zero before (job ∷ jobs) a = a
All-left P leads (suc room) before (job ∷ jobs) a =
    elim (leads before job) as (λ m. AllByRecursion P (elim m [
      | true ↦ left_after leads room (before ++ job ∷ []) jobs
      | false ↦ job ∷ left_after leads (suc room) (before ++ job ∷ []) jobs
    ])) [
      | true ↦ All-left P leads room (before ++ job ∷ []) jobs a.1
      | false ↦ (a.0, All-left P leads (suc room) (before ++ job ∷ []) jobs a.1)
    ]

-- what an entry or a look takes, and what they leave
pub All-entry : (P : Item → Type 0) (jobs : Jobs) → AllByRecursion P jobs → AllByRecursion P (entry_jobs jobs)
All-entry P jobs a = All-take P most_entry_jobs (leading leads_as_update [] jobs) (All-leading P leads_as_update [] jobs a)

pub All-left_by_entry : (P : Item → Type 0) (jobs : Jobs) → AllByRecursion P jobs → AllByRecursion P (left_by_entry jobs)
All-left_by_entry P jobs a = All-left P leads_as_update most_entry_jobs [] jobs a

pub All-reads : (P : Item → Type 0) (jobs : Jobs) → AllByRecursion P jobs → AllByRecursion P (read_jobs jobs)
All-reads P jobs a = All-leading P leads_as_read [] jobs a

pub All-left_by_reads : (P : Item → Type 0) (jobs : Jobs) → AllByRecursion P jobs → AllByRecursion P (left_by_reads jobs)
All-left_by_reads P jobs a = All-not_leading P leads_as_read [] jobs a

-- a connection has none where none is its own
pub none_own : (c : Connection) (jobs : Jobs) → AllByRecursion (λ (job : Item). same_connection job.connection c ≡ false) jobs → own_jobs c jobs ≡ []
none_own c [] a = refl
none_own c (job ∷ jobs) a = filter-drops (λ (j : Item). same_connection j.connection c) job jobs a.0 ∙ none_own c jobs a.1
