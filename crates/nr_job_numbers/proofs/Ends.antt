-- Ends that are noted in the accounts, and their connections, which go on again.
use Rattle.std.proofs.Common.{◌≡◌, inl, inr, ℕ, ◌+◌, ◌-◌, ◌<◌, ◌≤◌, Bool, true, false, cond, not, Option, Some, None, refl, ap, sym, ◌∙◌, subst, arith, eqb}
use Rattle.std.proofs.Common.{List, [], ◌∷◌, ◌++◌, length, take, drop, get_or}
use Rattle.std.specs.Prelude.{◌&&◌, ◌||◌}
use Rattle.std.specs.FinMap as finmap
use Rattle.std.proofs.lemmas.Bool.{cases_Bool, and_parts, or_parts, not-false, not-true}
use Rattle.std.proofs.lemmas.List.Folds.{list_any-append}
use Rattle.nr_model.specs.Items.{Connection, same_connection, Item, is_end}
use Rattle.nr_model.specs.Entries.{Jobs}
use Rattle.nr_model.proofs.JobLists.{same_is, same_self}
use Rattle.nr_entry.specs.declared.job.Job.{Job}
use Rattle.nr_entry.specs.Jobs.{connection_of, item_of, items_of}
use Rattle.nr_job_numbers.specs.declared.account.Account.{Account}
use Rattle.nr_job_numbers.specs.Account.{is_of, noted, reopened}
use Rattle.nr_job_numbers.specs.Stored.{Held, put_at, changed, is_strange, is_stranger, has_end_of, has_stranger, noted_one, reopened_one, reopened_all}
use Rattle.nr_job_numbers.proofs.Seen.{put_same, put_twice}
use Rattle.nr_job_numbers.proofs.Steps.{put_here, more_items}
use Rattle.nr_job_numbers.proofs.Strangers.{put_elsewhere, serial_apart, next_stranger}

-- the account of a connection that is known
known_by : (worker : ℕ) (o : Option Account) → is_strange worker o ≡ false → (a : Account) × (o ≡ Some a) × (is_of worker a ≡ true)
known_by worker None e = absurd (cc e)
known_by worker (Some a) e = (a, refl, not-false (is_of worker a) e)

known : (node worker : ℕ) (held : Held) (c : Connection) → is_stranger node worker held c ≡ false
    → (a : Account) × (finmap.get held c.serial ≡ Some a) × (is_of worker a ≡ true)
known node worker held c e = known_by worker (finmap.get held c.serial) (or_parts (not (eqb c.node node)) (is_strange worker (finmap.get held c.serial)) e).1

once_noted : (held : Held) (job : Item) (a : Account) → finmap.get held job.connection.serial ≡ Some a
    → noted_one held job ≡ finmap.insert held job.connection.serial (noted job a)
once_noted held job a at = ap (λ (o : Option Account). put_at (noted job) job.connection.serial o held) at

-- a job that was noted, and its connection goes on again
undone : (node worker : ℕ) (held : Held) (job : Item) → is_stranger node worker held job.connection ≡ false → reopened_one (noted_one held job) job ≡ held
undone node worker held job e =
    let at = known node worker held job.connection e in
    let a = at.0 in
    let s = job.connection.serial in
    let once = finmap.insert held s (noted job a) in
    let still_open : a.is_ended ≡ false = not-true a.is_ended (and_parts (eqb a.worker worker) (not a.is_ended) at.2).1 in
    let same : finmap.insert held s (reopened a) ≡ held =
    ap (λ (b : Bool). finmap.insert held s (record a { is_ended = b })) (sym still_open) ∙ put_same held s a (sym at.1) in
    ap (λ (h : Held). reopened_one h job) (once_noted held job a at.1)
    ∙ elim (cases_Bool (is_end job.deed)) [
      | inl end ↦
          ap (λ (b : Bool). cond b (changed reopened s once) once) end
          ∙ ap (λ (o : Option Account). put_at reopened s o once) (put_here held s (noted job a)) ∙ put_twice held s (noted job a) (reopened a) ∙ same
      | inr goes_on ↦
          ap (λ (b : Bool). cond b (changed reopened s once) once) goes_on
          ∙ ap (λ (b : Bool). finmap.insert held s (record a { is_ended = b })) goes_on ∙ same
    ]

pub reopened-append : (held : Held) (jobs : Jobs) (job : Item) → reopened_all held (jobs ++ job ∷ []) ≡ reopened_all (reopened_one held job) jobs
reopened-append held [] job = refl
reopened-append held (x ∷ xs) job = ap (λ (h : Held). reopened_one h x) (reopened-append held xs job)

-- who is a stranger once a job was noted
own_stranger : (own served end : Bool) → own ≡ true → served ≡ true → (not own || not (served && not end)) ≡ end
own_stranger true true true e f = refl
own_stranger true true false e f = refl
own_stranger true false end e f = absurd (cc f)
own_stranger false served end e f = absurd (cc e)

other_stranger : (own before now : Bool) → (own ≡ true → now ≡ before) → (not own || now) ≡ ((not own || before) || false)
other_stranger true true now same = same refl
other_stranger true false now same = same refl
other_stranger false before now same = refl

noted_stranger : (node worker : ℕ) (held : Held) (job : Item) (c : Connection) → is_stranger node worker held job.connection ≡ false
    → is_stranger node worker (noted_one held job) c ≡ (is_stranger node worker held c || (same_connection job.connection c && is_end job.deed))
noted_stranger node worker held job c e =
    let d = job.connection in
    let at = known node worker held d e in
    let a = at.0 in
    let after : Held = finmap.insert held d.serial (noted job a) in
    let own : eqb d.node node ≡ true =
    not-false (eqb d.node node) (or_parts (not (eqb d.node node)) (is_strange worker (finmap.get held d.serial)) e).0 in
    let served : eqb a.worker worker ≡ true = (and_parts (eqb a.worker worker) (not a.is_ended) at.2).0 in
    ap (λ (h : Held). is_stranger node worker h c) (once_noted held job a at.1)
    ∙ elim (cases_Bool (same_connection d c)) [
      | inl same ↦
          subst (λ (x : Connection). is_stranger node worker after x ≡ (is_stranger node worker held x || (same_connection d x && is_end job.deed)))
          (same_is d c same)
          (ap (λ (o : Option Account). not (eqb d.node node) || is_strange worker o) (put_here held d.serial (noted job a))
          ∙ own_stranger (eqb d.node node) (eqb a.worker worker) (is_end job.deed) own served
          ∙ sym (λ i. e i || (same_self d i && is_end job.deed)))
      | inr other ↦
          let elsewhere : eqb c.node node ≡ true → finmap.get after c.serial ≡ finmap.get held c.serial =
          λ own_c. put_elsewhere held d.serial c.serial (noted job a) (serial_apart node d c own own_c other) in
          other_stranger (eqb c.node node) (is_strange worker (finmap.get held c.serial)) (is_strange worker (finmap.get after c.serial))
          (λ own_c. ap (is_strange worker) (elsewhere own_c))
          ∙ sym (ap (λ (b : Bool). is_stranger node worker held c || (b && is_end job.deed)) other)
    ]

-- strangers are those that there were, and the connections whose ends were noted
abbrev pub AreNoted : ℕ → ℕ → Held → Held → Jobs → Type 0
AreNoted node worker before now jobs = (c : Connection) → is_stranger node worker now c ≡ (is_stranger node worker before c || has_end_of c jobs)

or_three : (a b c : Bool) → ((a || b) || c) ≡ (a || (b || (c || false)))
or_three true b c = refl
or_three false true c = refl
or_three false false true = refl
or_three false false false = refl

one_noted : (node worker : ℕ) (before now : Held) (jobs : Jobs) (job : Item) → is_stranger node worker now job.connection ≡ false
    → AreNoted node worker before now jobs → AreNoted node worker before (noted_one now job) (jobs ++ job ∷ [])
one_noted node worker before now jobs job plain are c =
    let p : Item → Bool = λ (j : Item). same_connection j.connection c && is_end j.deed in
    noted_stranger node worker now job c plain ∙ ap (λ (b : Bool). b || p job) (are c) ∙ or_three (is_stranger node worker before c) (has_end_of c jobs) (p job)
    ∙ sym (ap (λ (b : Bool). is_stranger node worker before c || b) (list_any-append p jobs (job ∷ [])))

-- the jobs so far were noted, and none was a stranger's
pub record NotedFront (node worker : ℕ) (before now : Held) (jobs : List Job) (i : ℕ) : Type 0 where
  pub back : reopened_all now (items_of (take i jobs)) ≡ before
  pub noted : AreNoted node worker before now (items_of (take i jobs))
  pub rest : has_stranger node worker before (items_of (take i jobs)) (items_of (drop i jobs)) ≡ has_stranger node worker before [] (items_of jobs)

pub noted_more : (node worker : ℕ) (before now new : Held) (jobs : List Job) (i : ℕ) (job : Job) (b : Bool) → i < length jobs → job ≡ get_or jobs i job
    → is_stranger node worker now (connection_of job.conn) ≡ not b → new ≡ cond b (noted_one now (item_of job)) now → b ≡ true
    → NotedFront node worker before now jobs i → NotedFront node worker before new jobs (i + 1)
noted_more node worker before now new jobs i job b within is strange_is new_is good f =
    let c = connection_of job.conn in
    let first = items_of (take i jobs) in
    let more = more_items jobs i job within is in
    let plain : is_stranger node worker now c ≡ false = strange_is ∙ ap not good in
    let after = noted_one now (item_of job) in
    let once : new ≡ after = new_is ∙ ap (λ (x : Bool). cond x after now) good in
    let behind = has_stranger node worker before (items_of (take (i + 1) jobs)) (items_of (drop (i + 1) jobs)) in
    record {
      back = (λ j. reopened_all (once j) (more j)) ∙ reopened-append after first (item_of job)
          ∙ ap (λ (h : Held). reopened_all h first) (undone node worker now (item_of job) plain) ∙ f.back;
      noted = λ d. (λ j. is_stranger node worker (once j) d) ∙ one_noted node worker before now first (item_of job) plain f.noted d
          ∙ sym (λ j. is_stranger node worker before d || has_end_of d (more j));
      rest = ap (λ (x : Bool). x || behind) (sym plain ∙ f.noted c) ∙ sym (next_stranger node worker before jobs i job within is) ∙ f.rest;
    }

-- one more goes on again
pub reopened_more : (now new all : Held) (jobs : List Job) (i : ℕ) (job : Job) → 0 < i → i ≤ length jobs → job ≡ get_or jobs (i - 1) job
    → new ≡ reopened_one now (item_of job) → reopened_all now (items_of (take i jobs)) ≡ all → reopened_all new (items_of (take (i - 1) jobs)) ≡ all
reopened_more now new all jobs i job more within is new_is so =
    let before = items_of (take (i - 1) jobs) in
    let number : i ≡ (i - 1) + 1 = omega arith in
    let all_of_them : items_of (take i jobs) ≡ before ++ item_of job ∷ [] =
    ap (λ (n : ℕ). items_of (take n jobs)) number ∙ more_items jobs (i - 1) job (omega arith) is in
    ap (λ (h : Held). reopened_all h before) new_is ∙ sym (ap (reopened_all now) all_of_them ∙ reopened-append now before (item_of job)) ∙ so
