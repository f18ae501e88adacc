-- Where all jobs are taken, none is a stranger's.
use Rattle.std.proofs.Common.{◌≡◌, inl, inr, ◌+◌, ◌<◌, ◌≤◌, length, take, drop, get_or, suc, add-one, drop-cons, ℕ, Bool, true, false, cond, not, Option, Some, List, [], ◌∷◌, ◌++◌, refl, ap, sym, ◌∙◌, subst, eqb}
use Rattle.std.specs.Prelude.{◌&&◌, ◌||◌}
use Rattle.std.specs.Cmp.{unsigned_ties, nat_cmp_total}
use Rattle.std.specs.FinMap as finmap
use Rattle.std.proofs.lemmas.Bool.{cases_Bool, and_parts, or_parts, or_from, and_cases, eqb-true, eqb-false, ne_eqb, not_from_true, not-false, not-true}
use Rattle.std.proofs.lemmas.List.{drop_all}
use Rattle.std.proofs.lemmas.List.Folds.{list_any-append}
use Rattle.nr_model.specs.Items.{Connection, same_connection, Item, is_end}
use Rattle.nr_model.specs.Entries.{Jobs}
use Rattle.nr_model.proofs.JobLists.{same_is}
use Rattle.nr_entry.specs.declared.job.Job.{Job}
use Rattle.nr_entry.specs.Jobs.{connection_of, item_of, items_of}
use Rattle.nr_job_numbers.specs.declared.account.Account.{Account}
use Rattle.nr_job_numbers.specs.Account.{is_of, is_next, taken}
use Rattle.nr_job_numbers.specs.Stored.{Held, put_at, takes_by, takes_one, taken_one, takes_all, is_strange, is_stranger, has_end_of, has_stranger}
use Rattle.nr_job_numbers.proofs.Steps.{found, put_here, more_items}

-- what is found under another serial
pub put_elsewhere : (m : Held) (k q : ℕ) (x : Account) → (q ≡ k → ⊥) → finmap.get (finmap.insert m k x) q ≡ finmap.get m q
put_elsewhere m k q x apart =
    finmap.get-insert nat_cmp_total m k x q
    ∙ ap (λ (b : Bool). cond b (Some x) (finmap.get m q)) (sym (unsigned_ties q k) ∙ ne_eqb q k apart)

-- what is held once a job was taken
pub once_taken : (held : Held) (job : Item) (a : Account) → finmap.get held job.connection.serial ≡ Some a
    → taken_one held job ≡ finmap.insert held job.connection.serial (taken job a)
once_taken held job a at = ap (λ (o : Option Account). put_at (taken job) job.connection.serial o held) at

-- a connection that is known behind these was known at first, and its end isn't among them
abbrev pub IsPlain : ℕ → ℕ → Held → Jobs → Held → Type 0
IsPlain node worker held before now =
    (c : Connection) → is_stranger node worker now c ≡ false → (is_stranger node worker held c ≡ false) × (has_end_of c before ≡ false)

pub plain_at_first : (node worker : ℕ) (held : Held) → IsPlain node worker held [] held
plain_at_first node worker held c known = (known, refl)

-- a job that is taken is no stranger's
pub is_known : (node worker : ℕ) (held : Held) (job : Item) → takes_one node worker held job ≡ true → is_stranger node worker held job.connection ≡ false
is_known node worker held job e =
    let at = found node worker held job e in
    let a = at.0 in
    let own_test : eqb job.connection.node node ≡ true =
    (and_parts (eqb job.connection.node node) (takes_by worker job (finmap.get held job.connection.serial)) e).0 in
    let of_it : is_of worker a ≡ true = (and_parts (is_of worker a) (is_next job a) at.2).0 in
    or_from (not (eqb job.connection.node node)) (is_strange worker (finmap.get held job.connection.serial)) (not_from_true _ own_test)
    (ap (is_strange worker) at.1 ∙ not_from_true _ of_it)

none_by : (b : Bool) → (b && false) ≡ false
none_by true = refl
none_by false = refl

-- connections of one node that differ have other serials
pub serial_apart : (node : ℕ) (d c : Connection) → eqb d.node node ≡ true → eqb c.node node ≡ true → same_connection d c ≡ false → c.serial ≡ d.serial → ⊥
serial_apart node d c own_d own_c other same =
    let of_d : d.node ≡ node = eqb-true d.node node own_d in
    let of_c : c.node ≡ node = eqb-true c.node node own_c in
    elim (and_cases (eqb d.node c.node) (eqb d.serial c.serial) other) [
      | inl apart ↦ eqb-false d.node c.node apart (of_d ∙ sym of_c)
      | inr apart ↦ eqb-false d.serial c.serial apart (sym same)
    ]

-- the end of a connection behind one more job
end_behind : (c : Connection) (before : Jobs) (job : Item) → has_end_of c before ≡ false → (same_connection job.connection c ≡ true → is_end job.deed ≡ false)
    → has_end_of c (before ++ job ∷ []) ≡ false
end_behind c before job none not_it =
    let p : Item → Bool = λ (j : Item). same_connection j.connection c && is_end j.deed in
    let one : (p job || false) ≡ false =
    elim (cases_Bool (same_connection job.connection c)) [
      | inl e ↦ or_from (p job) false (ap (λ (b : Bool). same_connection job.connection c && b) (not_it e) ∙ none_by (same_connection job.connection c)) refl
      | inr e ↦ or_from (p job) false (ap (λ (b : Bool). b && is_end job.deed) e) refl
    ] in
    list_any-append p before (job ∷ []) ∙ or_from (has_end_of c before) (p job || false) none one

plain_more : (node worker : ℕ) (held now : Held) (before : Jobs) (job : Item) → takes_one node worker now job ≡ true
    → IsPlain node worker held before now → IsPlain node worker held (before ++ job ∷ []) (taken_one now job)
plain_more node worker held now before job e plain c known =
    let at = found node worker now job e in
    let a = at.0 in
    let s = job.connection.serial in
    let once = once_taken now job a at.1 in
    let known_now : is_stranger node worker (finmap.insert now s (taken job a)) c ≡ false =
    subst (λ (h : Held). is_stranger node worker h c ≡ false) once known in
    let parts = or_parts (not (eqb c.node node)) (is_strange worker (finmap.get (finmap.insert now s (taken job a)) c.serial)) known_now in
    elim (cases_Bool (same_connection job.connection c)) [
      | inl same ↦
          let is : job.connection ≡ c = same_is job.connection c same in
          let facts = plain job.connection (is_known node worker now job e) in
          let after : is_of worker (taken job a) ≡ true =
          not-false (is_of worker (taken job a))
          (sym (ap (is_strange worker) (ap (λ (d : Connection). finmap.get (finmap.insert now s (taken job a)) d.serial) (sym is) ∙ put_here now s (taken job a))) ∙ parts.1) in
          let goes_on : is_end job.deed ≡ false = not-true (is_end job.deed) (and_parts (eqb a.worker worker) (not (is_end job.deed)) after).1 in (
            subst (λ (d : Connection). is_stranger node worker held d ≡ false) is facts.0,
            end_behind c before job (subst (λ (d : Connection). has_end_of d before ≡ false) is facts.1) (λ _. goes_on),
          )
      | inr other ↦
          let apart : c.serial ≡ s → ⊥ = serial_apart node job.connection c
          (and_parts (eqb job.connection.node node) (takes_by worker job (finmap.get now s)) e).0 (not-false (eqb c.node node) parts.0) other in
          let before_it : is_stranger node worker now c ≡ false =
          or_from (not (eqb c.node node)) (is_strange worker (finmap.get now c.serial)) parts.0
          (ap (is_strange worker) (sym (put_elsewhere now s c.serial (taken job a) apart)) ∙ parts.1) in
          let facts = plain c before_it in
          (facts.0, end_behind c before job facts.1 (λ same. absurd (cc (same, other))))
    ]

-- none of these is a stranger's
pub no_stranger : (node worker : ℕ) (held now : Held) (before jobs : Jobs) → IsPlain node worker held before now → takes_all node worker now jobs ≡ true
    → has_stranger node worker held before jobs ≡ false
no_stranger node worker held now before [] plain all = refl
no_stranger node worker held now before (job ∷ jobs) plain all =
    let parts = and_parts (takes_one node worker now job) (takes_all node worker (taken_one now job) jobs) all in
    let facts = plain job.connection (is_known node worker now job parts.0) in
    or_from (is_stranger node worker held job.connection || has_end_of job.connection before) (has_stranger node worker held (before ++ job ∷ []) jobs)
    (or_from (is_stranger node worker held job.connection) (has_end_of job.connection before) facts.0 facts.1)
    (no_stranger node worker held (taken_one now job) (before ++ job ∷ []) jobs (plain_more node worker held now before job parts.0 plain) parts.1)

-- the jobs one by one
next_jobs : (jobs : List Job) (i : ℕ) (job : Job) → i < length jobs → job ≡ get_or jobs i job
    → (items_of (drop i jobs) ≡ item_of job ∷ items_of (drop (i + 1) jobs)) × (items_of (take (i + 1) jobs) ≡ items_of (take i jobs) ++ item_of job ∷ [])
next_jobs jobs i job within is =
    let back : get_or jobs i job ≡ job = sym is in
    let number : suc i ≡ i + 1 = sym (add-one i) in
    let step : drop i jobs ≡ job ∷ drop (i + 1) jobs = drop-cons jobs i job within ∙ (λ j. back j ∷ drop (number j) jobs) in
    (ap items_of step, more_items jobs i job within is)

pub next_stranger : (node worker : ℕ) (held : Held) (jobs : List Job) (i : ℕ) (job : Job) → i < length jobs → job ≡ get_or jobs i job
    → has_stranger node worker held (items_of (take i jobs)) (items_of (drop i jobs))
    ≡ ((is_stranger node worker held (connection_of job.conn) || has_end_of (connection_of job.conn) (items_of (take i jobs)))
    || has_stranger node worker held (items_of (take (i + 1) jobs)) (items_of (drop (i + 1) jobs)))
next_stranger node worker held jobs i job within is =
    let next = next_jobs jobs i job within is in
    ap (has_stranger node worker held (items_of (take i jobs))) next.0
    ∙ ap (λ (before : Jobs). (is_stranger node worker held (connection_of job.conn) || has_end_of (connection_of job.conn) (items_of (take i jobs)))
    || has_stranger node worker held before (items_of (drop (i + 1) jobs))) (sym next.1)

-- none more
pub last_stranger : (node worker : ℕ) (held : Held) (jobs : List Job) (i : ℕ) → length jobs ≤ i
    → has_stranger node worker held (items_of (take i jobs)) (items_of (drop i jobs)) ≡ false
last_stranger node worker held jobs i past =
    ap (λ (js : List Job). has_stranger node worker held (items_of (take i jobs)) (items_of js)) (drop_all i jobs past)
