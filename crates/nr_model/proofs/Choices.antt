-- The jobs that are taken and those that are left, of one connection.
use Rattle.std.proofs.Common.{◌≡◌, ℕ, zero, suc, ◌≤◌, Bool, true, false, not, cond, inl, inr, List, [], ◌∷◌, ◌++◌, length, take, refl, ap, sym, ◌∙◌, subst, arith}
use Rattle.std.specs.Prelude.{filter, ◌||◌, ◌&&◌}
use Rattle.std.specs.List.{AllByRecursion, list_any}
use Rattle.std.proofs.lemmas.Bool.{cases_Bool, and_parts, and_cases, and_right, or_left, or_right, not-false}
use Rattle.std.proofs.lemmas.List.{take_all}
use Rattle.std.proofs.lemmas.List.Folds.{list_any-append}
use Rattle.nr_model.specs.Items.{Connection, same_connection, Item, is_update}
use Rattle.nr_model.specs.Entries.{Jobs, leading, not_leading, left_after, leads_as_update, leads_as_read, has_read_of, has_update_of, entry_jobs, left_by_entry, read_jobs, left_by_reads, most_entry_jobs}
use Rattle.nr_model.specs.Asked.{own_jobs}
use Rattle.nr_model.proofs.JobLists.{same_is, same_self, filter-keeps, filter-drops, take_none, All-take}

-- a job that doesn't lead stops the later jobs of its connection
record Stops (leads : Jobs → Item → Bool) (blocks : Connection → Jobs → Bool) : Type 0 where
  begins : (before : Jobs) (job : Item) → leads before job ≡ false → blocks job.connection (before ++ job ∷ []) ≡ true
  stays : (c : Connection) (before : Jobs) (job : Item) → blocks c before ≡ true → blocks c (before ++ job ∷ []) ≡ true
  holds : (before : Jobs) (job : Item) → blocks job.connection before ≡ true → leads before job ≡ false

-- a blocked connection's job isn't of those that lead
not_of : (leads : Jobs → Item → Bool) (blocks : Connection → Jobs → Bool) → Stops leads blocks → (c : Connection) (before : Jobs) (job : Item)
    → blocks c before ≡ true → leads before job ≡ true → same_connection job.connection c ≡ false
not_of leads blocks stops c before job blocked led =
    elim (cases_Bool (same_connection job.connection c)) [
      | inl e ↦ absurd (cc (stops.holds before job (subst (λ (d : Connection). blocks d before ≡ true) (sym (same_is job.connection c e)) blocked), led))
      | inr e ↦ e
    ]

-- none of its jobs are taken
none_taken : (leads : Jobs → Item → Bool) (blocks : Connection → Jobs → Bool) → Stops leads blocks → (c : Connection) (room : ℕ) (before jobs : Jobs)
    → blocks c before ≡ true → own_jobs c (take room (leading leads before jobs)) ≡ []
none_taken leads blocks stops c zero before jobs blocked = ap (own_jobs c) (take_none (leading leads before jobs))
none_taken leads blocks stops c (suc room) before [] blocked = refl
none_taken leads blocks stops c (suc room) before (job ∷ jobs) blocked =
    let after = before ++ job ∷ [] in
    let more = leading leads after jobs in
    let at = λ (m : Bool). own_jobs c (take (suc room) (cond m (job ∷ more) more)) in
    elim (cases_Bool (leads before job)) [
      | inl e ↦ ap at e
          ∙ filter-drops (λ (j : Item). same_connection j.connection c) job (take room more) (not_of leads blocks stops c before job blocked e)
          ∙ none_taken leads blocks stops c room after jobs (stops.stays c before job blocked)
      | inr e ↦ ap at e ∙ none_taken leads blocks stops c (suc room) after jobs (stops.stays c before job blocked)
    ]

-- one more in front of what is taken
filter_front : {A : Type 0} (test : A → Bool) (x : A) (xs ys zs : List A) → filter test xs ≡ filter test ys ++ zs
    → filter test (x ∷ xs) ≡ filter test (x ∷ ys) ++ zs
filter_front test x xs ys zs h =
    elim (test x) as (λ m. cond m (x ∷ filter test xs) (filter test xs)
    ≡ cond m (x ∷ filter test ys) (filter test ys) ++ zs) [ true ↦ ap (λ ws. x ∷ ws) h | false ↦ h ]

-- one more in front of what is left, where none of its kind is taken
filter_behind : {A : Type 0} (test : A → Bool) (x : A) (xs ys zs : List A) → filter test xs ≡ filter test ys ++ filter test zs
    → (test x ≡ true → filter test ys ≡ []) → filter test (x ∷ xs) ≡ filter test ys ++ filter test (x ∷ zs)
filter_behind test x xs ys zs h none =
    elim (cases_Bool (test x)) [
      | inl e ↦ filter-keeps test x xs e
          ∙ ap (λ ws. x ∷ ws) (h ∙ ap (λ ws. ws ++ filter test zs) (none e))
          ∙ sym (ap (λ ws. ws ++ filter test (x ∷ zs)) (none e) ∙ filter-keeps test x zs e)
      | inr e ↦ filter-drops test x xs e ∙ h ∙ sym (ap (λ ws. filter test ys ++ ws) (filter-drops test x zs e))
    ]

-- without room all are left
pub left_none : (leads : Jobs → Item → Bool) (before jobs : Jobs) → left_after leads zero before jobs ≡ jobs
left_none leads before [] = refl
left_none leads before (x ∷ jobs) = refl

-- a connection's jobs are those of them that are taken, and then those that are left
apart : (leads : Jobs → Item → Bool) (blocks : Connection → Jobs → Bool) → Stops leads blocks → (c : Connection) (room : ℕ) (before jobs : Jobs)
    → own_jobs c jobs ≡ own_jobs c (take room (leading leads before jobs)) ++ own_jobs c (left_after leads room before jobs)
apart leads blocks stops c zero before jobs =
    sym (ap (λ (js : Jobs). own_jobs c js ++ own_jobs c (left_after leads zero before jobs)) (take_none (leading leads before jobs))
    ∙ ap (own_jobs c) (left_none leads before jobs))
apart leads blocks stops c (suc room) before [] = refl
apart leads blocks stops c (suc room) before (job ∷ jobs) =
    let after = before ++ job ∷ [] in
    let more = leading leads after jobs in
    let of_c = λ (j : Item). same_connection j.connection c in
    let at : Bool → Jobs =
    λ m. own_jobs c (take (suc room) (cond m (job ∷ more) more))
    ++ own_jobs c (elim m [ true ↦ left_after leads room after jobs | false ↦ job ∷ left_after leads (suc room) after jobs ]) in
    elim (cases_Bool (leads before job)) [
      | inl e ↦ filter_front of_c job jobs (take room more) _ (apart leads blocks stops c room after jobs) ∙ sym (ap at e)
      | inr e ↦ filter_behind of_c job jobs (take (suc room) more) (left_after leads (suc room) after jobs) (apart leads blocks stops c (suc room) after jobs)
          (λ same. none_taken leads blocks stops c (suc room) after jobs
          (subst (λ (d : Connection). blocks d after ≡ true) (same_is job.connection c same) (stops.begins before job e)))
          ∙ sym (ap at e)
    ]

-- jobs of a kind lead, where none of the other kind of their connection stands before them
abbrev leads_by : (Item → Bool) → (Item → Bool) → Jobs → Item → Bool
leads_by kind other before job = kind job && not (list_any (λ (j : Item). same_connection j.connection job.connection && other j) before)

-- one of the other kind of a connection
abbrev blocked_by : (Item → Bool) → Connection → Jobs → Bool
blocked_by other c before = list_any (λ (j : Item). same_connection j.connection c && other j) before

-- one more that passes
any-push : (test : Item → Bool) (jobs : Jobs) (job : Item) → test job ≡ true → list_any test (jobs ++ job ∷ []) ≡ true
any-push test jobs job e = list_any-append test jobs (job ∷ []) ∙ or_right (list_any test jobs) (test job || false) (or_left (test job) false e)

-- one that passed
any-stays : (test : Item → Bool) (jobs : Jobs) (job : Item) → list_any test jobs ≡ true → list_any test (jobs ++ job ∷ []) ≡ true
any-stays test jobs job e = list_any-append test jobs (job ∷ []) ∙ or_left (list_any test jobs) (test job || false) e

-- a job of the other kind stops its connection
stops_by : (kind other : Item → Bool) → ((job : Item) → kind job ≡ false → other job ≡ true) → Stops (leads_by kind other) (blocked_by other)
stops_by kind other either = record {
  begins = λ before job e.
      let test = λ (j : Item). same_connection j.connection job.connection && other j in
      elim (and_cases (kind job) (not (list_any test before)) e) [
        | inl k ↦ any-push test before job (ap (λ (m : Bool). m && other job) (same_self job.connection) ∙ either job k)
        | inr k ↦ any-stays test before job (not-false (list_any test before) k)
      ];
  stays = λ c before job e. any-stays (λ (j : Item). same_connection j.connection c && other j) before job e;
  holds = λ before job e. and_right (kind job) (not (blocked_by other job.connection before)) (ap not e);
}

-- the two kinds
abbrev updates : Item → Bool
updates job = is_update job.deed

abbrev reads : Item → Bool
reads job = not (is_update job.deed)

-- where there is room for all, all that lead are taken
pub leading_within : (leads : Jobs → Item → Bool) (before jobs : Jobs) → length (leading leads before jobs) ≤ length jobs
leading_within leads before [] = omega arith
leading_within leads before (x ∷ jobs) =
    let more = leading leads (before ++ x ∷ []) jobs in
    let rest : length more ≤ length jobs = leading_within leads (before ++ x ∷ []) jobs in
    elim (leads before x) as (λ m. length (cond m (x ∷ more) more) ≤ suc (length jobs)) [ true ↦ omega arith | false ↦ omega arith ]

-- and those are left that do not lead
pub left_by_all : (leads : Jobs → Item → Bool) (room : ℕ) (before jobs : Jobs) → length jobs ≤ room
    → left_after leads room before jobs ≡ not_leading leads before jobs
left_by_all leads room before [] h = refl
left_by_all leads zero before (x ∷ jobs) h = absurd (omega arith)
left_by_all leads (suc room) before (x ∷ jobs) h =
    let after = before ++ x ∷ [] in
    let more = not_leading leads after jobs in
    elim (leads before x) as (λ m. elim m [ true ↦ left_after leads room after jobs | false ↦ x ∷ left_after leads (suc room) after jobs ]
    ≡ cond m more (x ∷ more)) [
      | true ↦ left_by_all leads room after jobs (omega arith)
      | false ↦ ap (λ (t : Jobs). x ∷ t) (left_by_all leads (suc room) after jobs (omega arith))
    ]

-- a connection's jobs are those that an entry takes, and then those that it leaves
pub entry_apart : (c : Connection) (jobs : Jobs) → own_jobs c jobs ≡ own_jobs c (entry_jobs jobs) ++ own_jobs c (left_by_entry jobs)
entry_apart c jobs = apart leads_as_update has_read_of (stops_by updates reads (λ job e. ap not e)) c most_entry_jobs [] jobs

-- and so with a look
pub reads_apart : (c : Connection) (jobs : Jobs) → own_jobs c jobs ≡ own_jobs c (read_jobs jobs) ++ own_jobs c (left_by_reads jobs)
reads_apart c jobs =
    let room = length jobs in
    let all : take room (leading leads_as_read [] jobs) ≡ leading leads_as_read [] jobs =
    take_all room (leading leads_as_read [] jobs) (leading_within leads_as_read [] jobs) in
    let left = left_by_all leads_as_read room [] jobs (omega arith) in
    apart leads_as_read has_update_of (stops_by reads updates (λ job e. not-false (is_update job.deed) e)) c room [] jobs
    ∙ ap (λ (js : Jobs). own_jobs c js ++ own_jobs c (left_after leads_as_read room [] jobs)) all
    ∙ ap (λ (js : Jobs). own_jobs c (read_jobs jobs) ++ own_jobs c js) left

-- those that lead are of the kind
kind_leads : (kind : Item → Bool) (leads : Jobs → Item → Bool) → ((before : Jobs) (job : Item) → leads before job ≡ true → kind job ≡ true)
    → (before jobs : Jobs) → AllByRecursion (λ (job : Item). kind job ≡ true) (leading leads before jobs)
kind_leads kind leads is before [] = tt
kind_leads kind leads is before (x ∷ jobs) =
    let more = kind_leads kind leads is (before ++ x ∷ []) jobs in
    let rest = leading leads (before ++ x ∷ []) jobs in
    let P = λ (m : Bool). AllByRecursion (λ (job : Item). kind job ≡ true) (cond m (x ∷ rest) rest) in
    elim (cases_Bool (leads before x)) [ inl e ↦ subst P (sym e) (is before x e, more) | inr e ↦ subst P (sym e) more ]

-- an entry takes updates
pub entry_updates : (jobs : Jobs) → AllByRecursion (λ (job : Item). is_update job.deed ≡ true) (entry_jobs jobs)
entry_updates jobs =
    All-take (λ (job : Item). is_update job.deed ≡ true) most_entry_jobs (leading leads_as_update [] jobs)
    (kind_leads updates leads_as_update (λ before job e. (and_parts (is_update job.deed) (not (has_read_of job.connection before)) e).0) [] jobs)

-- and a look takes reads
pub look_reads : (jobs : Jobs) → AllByRecursion (λ (job : Item). not (is_update job.deed) ≡ true) (read_jobs jobs)
look_reads jobs = kind_leads reads leads_as_read
    (λ before job e. (and_parts (not (is_update job.deed)) (not (has_update_of job.connection before)) e).0) [] jobs
