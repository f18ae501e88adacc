-- What was taken and what is left, as items.
use Rattle.std.proofs.Common.{◌≡◌, ℕ, zero, suc, ◌≤◌, Bool, true, false, not, cond, List, [], ◌∷◌, ◌++◌, length, take, refl, sym, ap, ◌∙◌, arith}
use Rattle.std.specs.Prelude.{◌&&◌, ◌==◌}
use Rattle.std.specs.List.{list_all}
use Rattle.std.proofs.lemmas.List.{length-take}
use Rattle.nr_model.specs.Items.{Item, is_update}
use Rattle.nr_model.specs.Entries.{Jobs, leading, not_leading, left_after, leads_as_update, has_read_of, most_entry_jobs, entry_jobs}
use Rattle.nr_entry.specs.declared.job.Job.{Job}
use Rattle.nr_entry.specs.Jobs.{item_of, items_of}
use Rattle.nr_entry.specs.Entry.{are_updates, are_of}
use Rattle.nr_entry.specs.Choice.{marked, unmarked, leading_marks}
use Rattle.nr_entry.proofs.Marks.{marked_leading, unmarked_left, map-marked, map-unmarked, take_all_leading, left_by_all}

pub how_many : (jobs : List Job) → length (items_of jobs) ≡ length jobs
how_many [] = refl
how_many (x ∷ jobs) = ap suc (how_many jobs)

pub taken_lead : (leads : Jobs → Item → Bool) (most : ℕ) (waiting taken : List Job) (marks : List Bool)
    → marks ≡ leading_marks leads most [] (items_of waiting)
    → taken ≡ marked marks waiting
    → items_of taken ≡ take most (leading leads [] (items_of waiting))
taken_lead leads most waiting taken marks is moved =
    ap items_of moved
    ∙ map-marked item_of marks waiting
    ∙ ap (λ (ms : List Bool). marked ms (items_of waiting)) is
    ∙ marked_leading leads most [] (items_of waiting)

pub others_left : (leads : Jobs → Item → Bool) (most : ℕ) (waiting left : List Job) (marks : List Bool)
    → marks ≡ leading_marks leads most [] (items_of waiting)
    → left ≡ unmarked marks waiting
    → items_of left ≡ left_after leads most [] (items_of waiting)
others_left leads most waiting left marks is moved =
    ap items_of moved
    ∙ map-unmarked item_of marks waiting
    ∙ ap (λ (ms : List Bool). unmarked ms (items_of waiting)) is
    ∙ unmarked_left leads most [] (items_of waiting)

-- the same, where there is room for all
pub all_taken : (leads : Jobs → Item → Bool) (most : ℕ) (waiting taken : List Job) → most ≡ length waiting → items_of taken ≡ take most (leading leads [] (items_of waiting)) → items_of taken ≡ leading leads [] (items_of waiting)
all_taken leads most waiting taken all is = is ∙ take_all_leading leads most [] (items_of waiting) (omega (arith, how_many waiting))

pub all_left : (leads : Jobs → Item → Bool) (most : ℕ) (waiting left : List Job) → most ≡ length waiting → items_of left ≡ left_after leads most [] (items_of waiting) → items_of left ≡ not_leading leads [] (items_of waiting)
all_left leads most waiting left all is = is ∙ left_by_all leads most [] (items_of waiting) (omega (arith, how_many waiting))

-- what is taken into an entry are updates, and not too many
one_more_update : (u free : Bool) (x : Item) (more : Jobs) → u ≡ is_update x.deed → are_updates more ≡ true → are_updates (cond (u && free) (x ∷ more) more) ≡ true
one_more_update true true x more is rest = ap (λ (b : Bool). b && are_updates more) (sym is) ∙ rest
one_more_update true false x more is rest = rest
one_more_update false free x more is rest = rest

leading_updates : (before jobs : Jobs) → are_updates (leading leads_as_update before jobs) ≡ true
leading_updates before [] = refl
leading_updates before (x ∷ jobs) =
    one_more_update (is_update x.deed) (not (has_read_of x.connection before)) x (leading leads_as_update (before ++ x ∷ []) jobs) refl (leading_updates (before ++ x ∷ []) jobs)

both : (a b : Bool) → (a && b) ≡ true → (a ≡ true) × (b ≡ true)
both true b e = (refl, e)
both false b e = absurd (cc e)

front_all : (test : Item → Bool) (room : ℕ) (jobs : Jobs) → list_all test jobs ≡ true → list_all test (take room jobs) ≡ true
front_all test zero [] all = refl
front_all test zero (x ∷ jobs) all = refl
front_all test (suc room) [] all = refl
front_all test (suc room) (x ∷ jobs) all =
    let parts = both (test x) (list_all test jobs) all in
    ap (λ (b : Bool). b && list_all test (take room jobs)) parts.0 ∙ front_all test room jobs parts.1

leading_all : (test : Item → Bool) (leads : Jobs → Item → Bool) (before jobs : Jobs) → list_all test jobs ≡ true → list_all test (leading leads before jobs) ≡ true
leading_all test leads before [] all = refl
leading_all test leads before (x ∷ jobs) all =
    let parts = both (test x) (list_all test jobs) all in
    let more = leading_all test leads (before ++ x ∷ []) jobs parts.1 in
    either_all (leads before x) (leading leads (before ++ x ∷ []) jobs) parts.0 more
  where
    either_all : (b : Bool) (more : Jobs) → test x ≡ true → list_all test more ≡ true → list_all test (cond b (x ∷ more) more) ≡ true
    either_all true more first rest = ap (λ (b : Bool). b && list_all test more) first ∙ rest
    either_all false more first rest = rest

pub entry_updates : (waiting taken : List Job) → items_of taken ≡ entry_jobs (items_of waiting) → are_updates (items_of taken) ≡ true
entry_updates waiting taken is =
    ap are_updates is ∙ front_all (λ job. is_update job.deed) most_entry_jobs (leading leads_as_update [] (items_of waiting)) (leading_updates [] (items_of waiting))

-- and of the node that all are of
pub entry_own : (node : ℕ) (waiting taken : List Job) → items_of taken ≡ entry_jobs (items_of waiting) → are_of node (items_of waiting) ≡ true → are_of node (items_of taken) ≡ true
entry_own node waiting taken is all =
    let test : Item → Bool = λ job. job.connection.node == node in
    ap (are_of node) is ∙ front_all test most_entry_jobs (leading leads_as_update [] (items_of waiting)) (leading_all test leads_as_update [] (items_of waiting) all)

pub entry_length : (waiting taken : List Job) → items_of taken ≡ entry_jobs (items_of waiting) → length taken ≤ most_entry_jobs
entry_length waiting taken is = omega (arith, how_many taken, ap length is, length-take most_entry_jobs (leading leads_as_update [] (items_of waiting)))
