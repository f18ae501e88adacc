-- The jobs of the next entry, or the reads that lead, lent out of runs.
use Rattle.std.proofs.Common.{◌≡◌, ℕ, zero, suc, ◌+◌, ◌-◌, ◌≤◌, List, Bool, true, false, [], ◌∷◌, ◌++◌, length, take, drop, refl, sym, ap, ◌∙◌, length-append, length-drop, arith}
use Rattle.std.specs.Prelude.{replicate, ◌&&◌}
use Rattle.nr_model.specs.Items.{Connection, Item, same_connection}
use Rattle.std.proofs.lemmas.List.{length-replicate, length-take}
use Rattle.nr_model.specs.Entries.{Jobs, leading, left_after}
use Rattle.nr_entry.specs.declared.job.Job.{Job}
use Rattle.nr_entry.specs.declared.run.Run.{Run}
use Rattle.nr_entry.specs.Jobs.{connection_of, items_of}
use Rattle.nr_entry.specs.Choice.{leading_marks, marked, unmarked}
use Rattle.nr_entry.specs.Waiting.{Held, belong, filled, are_from}
use Rattle.nr_entry.specs.Runs.{jobs_in, lent_in, gaps_in, gaps_where, owners_in, first_of, others_of, marks_of, owners_of, sum_of, spread, IsWithin}
use Rattle.nr_entry.proofs.Taking.{taken_lead, others_left}

-- the jobs with a mark are the first ones of each run
marked_part : {A : Type 0} (k n : ℕ) (ms : List Bool) (xs ys : List A) → n + k ≡ length xs → marked ((replicate k true ++ replicate n false) ++ ms) (xs ++ ys) ≡ take k xs ++ marked ms ys
marked_part zero zero ms [] ys e = refl
marked_part zero zero ms (x ∷ xs) ys e = absurd (omega arith)
marked_part zero (suc n) ms [] ys e = absurd (omega arith)
marked_part zero (suc n) ms (x ∷ xs) ys e = marked_part zero n ms xs ys (omega arith)
marked_part (suc k) n ms [] ys e = absurd (omega arith)
marked_part (suc k) n ms (x ∷ xs) ys e = ap (λ (t : List _). x ∷ t) (marked_part k n ms xs ys (omega arith))

unmarked_part : {A : Type 0} (k n : ℕ) (ms : List Bool) (xs ys : List A) → n + k ≡ length xs → unmarked ((replicate k true ++ replicate n false) ++ ms) (xs ++ ys) ≡ drop k xs ++ unmarked ms ys
unmarked_part zero zero ms [] ys e = refl
unmarked_part zero zero ms (x ∷ xs) ys e = absurd (omega arith)
unmarked_part zero (suc n) ms [] ys e = absurd (omega arith)
unmarked_part zero (suc n) ms (x ∷ xs) ys e = ap (λ (t : List _). x ∷ t) (unmarked_part zero n ms xs ys (omega arith))
unmarked_part (suc k) n ms [] ys e = absurd (omega arith)
unmarked_part (suc k) n ms (x ∷ xs) ys e = unmarked_part k n ms xs ys (omega arith)

marked_first : (counts : List ℕ) (runs : List Run) → IsWithin counts runs → marked (marks_of counts runs) (jobs_in runs) ≡ first_of counts runs
marked_first [] [] w = refl
marked_first [] (r ∷ runs) w = absurd w
marked_first (k ∷ counts) [] w = absurd w
marked_first (k ∷ counts) (r ∷ runs) w =
    marked_part k (length r.jobs.items - k) (marks_of counts runs) r.jobs.items (jobs_in runs) (omega (arith, w.0)) ∙ ap (λ (t : List Job). take k r.jobs.items ++ t) (marked_first counts runs w.1)

unmarked_others : (counts : List ℕ) (runs : List Run) → IsWithin counts runs → unmarked (marks_of counts runs) (jobs_in runs) ≡ others_of counts runs
unmarked_others [] [] w = refl
unmarked_others [] (r ∷ runs) w = absurd w
unmarked_others (k ∷ counts) [] w = absurd w
unmarked_others (k ∷ counts) (r ∷ runs) w =
    unmarked_part k (length r.jobs.items - k) (marks_of counts runs) r.jobs.items (jobs_in runs) (omega (arith, w.0)) ∙ ap (λ (t : List Job). drop k r.jobs.items ++ t) (unmarked_others counts runs w.1)

-- put together again they are all jobs
filled_part : (k n : ℕ) (ms : List Bool) (xs back here : List Job) → n + k ≡ length xs → filled ((replicate k true ++ replicate n false) ++ ms) (take k xs ++ back) (drop k xs ++ here) ≡ xs ++ filled ms back here
filled_part zero zero ms [] back here e = refl
filled_part zero zero ms (x ∷ xs) back here e = absurd (omega arith)
filled_part zero (suc n) ms [] back here e = absurd (omega arith)
filled_part zero (suc n) ms (x ∷ xs) [] here e = ap (λ (t : List Job). x ∷ t) (filled_part zero n ms xs [] here (omega arith))
filled_part zero (suc n) ms (x ∷ xs) (b ∷ back) here e = ap (λ (t : List Job). x ∷ t) (filled_part zero n ms xs (b ∷ back) here (omega arith))
filled_part (suc k) n ms [] back here e = absurd (omega arith)
filled_part (suc k) n ms (x ∷ xs) back here e = ap (λ (t : List Job). x ∷ t) (filled_part k n ms xs back here (omega arith))

filled_whole : (counts : List ℕ) (runs : List Run) → IsWithin counts runs → filled (marks_of counts runs) (first_of counts runs) (others_of counts runs) ≡ jobs_in runs
filled_whole [] [] w = refl
filled_whole [] (r ∷ runs) w = absurd w
filled_whole (k ∷ counts) [] w = absurd w
filled_whole (k ∷ counts) (r ∷ runs) w =
    filled_part k (length r.jobs.items - k) (marks_of counts runs) r.jobs.items (first_of counts runs) (others_of counts runs) (omega (arith, w.0)) ∙ ap (λ (t : List Job). r.jobs.items ++ t) (filled_whole counts runs w.1)

-- where none is lent the others are all
none_lent : (counts : List ℕ) (runs : List Run) → IsWithin counts runs → sum_of counts ≡ 0 → others_of counts runs ≡ jobs_in runs
none_lent [] [] w none = refl
none_lent [] (r ∷ runs) w none = absurd w
none_lent (k ∷ counts) [] w none = absurd w
none_lent (zero ∷ counts) (r ∷ runs) w none = ap (λ (t : List Job). r.jobs.items ++ t) (none_lent counts runs w.1 (omega (arith, none)))
none_lent (suc k ∷ counts) (r ∷ runs) w none = absurd (omega (arith, none))

others_count : (counts : List ℕ) (runs : List Run) → IsWithin counts runs → length (others_of counts runs) + (sum_of counts) ≡ length (jobs_in runs)
others_count [] [] w = omega arith
others_count [] (r ∷ runs) w = absurd w
others_count (k ∷ counts) [] w = absurd w
others_count (k ∷ counts) (r ∷ runs) w =
    omega (arith, w.0, others_count counts runs w.1, length-append (drop k r.jobs.items) (others_of counts runs), length-drop k r.jobs.items, length-append r.jobs.items (jobs_in runs))

first_count : (counts : List ℕ) (runs : List Run) → IsWithin counts runs → length (first_of counts runs) ≡ sum_of counts
first_count [] [] w = refl
first_count [] (r ∷ runs) w = absurd w
first_count (k ∷ counts) [] w = absurd w
first_count (k ∷ counts) (r ∷ runs) w = omega
    (arith, w.0, first_count counts runs w.1, length-append (take k r.jobs.items) (first_of counts runs), length-take k r.jobs.items)

-- each lent job is of its connection
first_belong : (k : ℕ) (c : Connection) (cs : List Connection) (xs ys : List Job) → k ≤ length xs → are_from c (items_of xs) ≡ true → belong cs (items_of ys) ≡ true → belong (replicate k c ++ cs) (items_of (take k xs ++ ys)) ≡ true
first_belong zero c cs [] ys le own more = more
first_belong zero c cs (x ∷ xs) ys le own more = more
first_belong (suc k) c cs [] ys le own more = absurd (omega arith)
first_belong (suc k) c cs (x ∷ xs) ys le own more =
    let parts = both (same_connection (connection_of x.conn) c) (are_from c (items_of xs)) own in
    ap (λ (b : Bool). b && belong (replicate k c ++ cs) (items_of (take k xs ++ ys))) parts.0 ∙ first_belong k c cs xs ys (omega arith) parts.1 more
  where
    both : (a b : Bool) → (a && b) ≡ true → (a ≡ true) × (b ≡ true)
    both true b e = (refl, e)
    both false b e = absurd (cc e)

pub lent_belong : (counts : List ℕ) (runs : List Run) → IsWithin counts runs → belong (owners_of counts runs) (items_of (first_of counts runs)) ≡ true
lent_belong [] [] w = refl
lent_belong [] (r ∷ runs) w = absurd w
lent_belong (k ∷ counts) [] w = absurd w
lent_belong (k ∷ counts) (r ∷ runs) w = first_belong k (connection_of r.conn) (owners_of counts runs) r.jobs.items (first_of counts runs) w.0 r.own (lent_belong counts runs w.1)

-- what is lent
gaps_length : (runs : List Run) → length (gaps_in runs) ≡ lent_in runs + (length (jobs_in runs))
gaps_length [] = omega arith
gaps_length (r ∷ runs) =
    omega (arith, gaps_length runs, length-append (spread r.lent (length r.jobs.items)) (gaps_in runs), length-append (replicate r.lent true) (replicate (length r.jobs.items) false), length-replicate r.lent true, length-replicate (length r.jobs.items) false, length-append r.jobs.items (jobs_in runs))

pub nothing_lent : (n : ℕ) (runs : List Run) → lent_in runs ≡ n → gaps_where n runs ≡ [] → n ≡ 0
nothing_lent zero runs is none = refl
nothing_lent (suc n) runs is none = absurd (omega (arith, gaps_length runs, ap length none, is))

pub no_owners : (runs : List Run) → lent_in runs ≡ 0 → owners_in runs ≡ []
no_owners [] none = refl
no_owners (r ∷ runs) none =
    ap (λ (n : ℕ). replicate n (connection_of r.conn) ++ owners_in runs) (let e : r.lent ≡ 0 = omega (arith, none) in e) ∙ no_owners runs (omega (arith, none))

-- how the jobs were chosen and moved
pub record Lent (leads : Jobs → Item → Bool) (most : ℕ) (counts : List ℕ) (runs new : List Run) (taken : List Job) : Type 0 where
  pub marks : marks_of counts runs ≡ leading_marks leads most [] (items_of (jobs_in runs))
  pub within : IsWithin counts runs
  pub first : taken ≡ first_of counts runs
  pub others : jobs_in new ≡ others_of counts runs
  pub gaps : gaps_in new ≡ marks_of counts runs
  pub owners : owners_in new ≡ owners_of counts runs
  pub lent : lent_in new ≡ sum_of counts

pub lent_taken : (leads : Jobs → Item → Bool) (most : ℕ) (counts : List ℕ) (runs new : List Run) (taken : List Job) → Lent leads most counts runs new taken → items_of taken ≡ take most (leading leads [] (items_of (jobs_in runs)))
lent_taken leads most counts runs new taken l = taken_lead leads most (jobs_in runs) taken (marks_of counts runs) l.marks (l.first ∙ sym (marked_first counts runs l.within))

pub lent_left : (leads : Jobs → Item → Bool) (most : ℕ) (counts : List ℕ) (runs new : List Run) (taken : List Job) → Lent leads most counts runs new taken → items_of (jobs_in new) ≡ left_after leads most [] (items_of (jobs_in runs))
lent_left leads most counts runs new taken l = others_left leads most (jobs_in runs) (jobs_in new) (marks_of counts runs) l.marks (l.others ∙ sym (unmarked_others counts runs l.within))

pub lent_count : (leads : Jobs → Item → Bool) (most : ℕ) (counts : List ℕ) (runs new : List Run) (taken : List Job) → Lent leads most counts runs new taken
    → length taken ≡ sum_of counts
lent_count leads most counts runs new taken l = ap length l.first ∙ first_count counts runs l.within

pub lent_whole : (leads : Jobs → Item → Bool) (most : ℕ) (counts : List ℕ) (runs new : List Run) (taken : List Job) → Lent leads most counts runs new taken
    → filled (gaps_where (length taken) new) taken (jobs_in new) ≡ jobs_in runs
lent_whole leads most counts runs new taken l = by_count (length taken) (lent_count leads most counts runs new taken l)
  where
    by_count : (n : ℕ) → n ≡ sum_of counts → filled (gaps_where n new) taken (jobs_in new) ≡ jobs_in runs
    by_count zero is = l.others ∙ none_lent counts runs l.within (sym is)
    by_count (suc n) is =
        ap (λ (t : List Bool). filled t taken (jobs_in new)) l.gaps
        ∙ ap (λ (t : List Job). filled (marks_of counts runs) t (jobs_in new)) l.first
        ∙ ap (λ (t : List Job). filled (marks_of counts runs) (first_of counts runs) t) l.others
        ∙ filled_whole counts runs l.within

pub lent_own : (leads : Jobs → Item → Bool) (most : ℕ) (counts : List ℕ) (runs new : List Run) (taken : List Job) → Lent leads most counts runs new taken → belong (owners_in new) (items_of taken) ≡ true
lent_own leads most counts runs new taken l =
    ap (λ (t : List Connection). belong t (items_of taken)) l.owners ∙ ap (λ (t : List Job). belong (owners_of counts runs) (items_of t)) l.first ∙ lent_belong counts runs l.within

pub lent_length : (leads : Jobs → Item → Bool) (most : ℕ) (counts : List ℕ) (runs new : List Run) (taken : List Job)
    → Lent leads most counts runs new taken → length (jobs_in new) + length taken ≡ length (jobs_in runs)
lent_length leads most counts runs new taken l = omega
    (arith, ap length l.others, others_count counts runs l.within, lent_count leads most counts runs new taken l)

-- what is seen where nothing is lent
pub seen_settled : (n : ℕ) (runs : List Run) (jobs : List Job) → n ≡ 0 → lent_in runs ≡ 0 → jobs_in runs ≡ jobs
    → (let seen : Held = record { jobs = jobs_in runs; gaps = gaps_where n runs; lent = owners_in runs } in let settled : Held = record { jobs = jobs; gaps = []; lent = [] } in seen ≡ settled)
seen_settled n runs jobs none unlent is =
    let gaps : gaps_where n runs ≡ [] = ap (λ (k : ℕ). gaps_where k runs) none in
    let owners = no_owners runs unlent in
    λ i. record { jobs = is i; gaps = gaps i; lent = owners i }
