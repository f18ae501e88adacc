-- Jobs that are taken one after the other, and given back.
use Rattle.std.proofs.Common.{◌≡◌, ℕ, ◌+◌, ◌-◌, ◌<◌, ◌≤◌, Bool, true, false, cond, not, Option, Some, None, List, [], ◌∷◌, ◌++◌, length, take, drop, get_or, refl, ap, sym, ◌∙◌, arith, eqb}
use Rattle.std.specs.Prelude.{◌&&◌}
use Rattle.std.proofs.Math.Bool.{and_assoc, and-true}
use Rattle.std.proofs.lemmas.Bool.{and_parts, and_from, and_left, and_right, not-true}
use Rattle.std.proofs.lemmas.List.{map-append, take_more, take_all, take-append-drop}
use Rattle.std.specs.Cmp.{nat_cmp_total, eq_by_cmp_equiv}
use Rattle.std.specs.FinMap as finmap
use Rattle.nr_model.specs.Items.{Item}
use Rattle.nr_model.specs.Entries.{Jobs}
use Rattle.nr_entry.specs.declared.job.Job.{Job}
use Rattle.nr_entry.specs.Jobs.{item_of, items_of}
use Rattle.nr_job_numbers.specs.declared.account.Account.{Account}
use Rattle.nr_job_numbers.specs.Account.{is_of, is_next, takes, taken, untaken}
use Rattle.nr_job_numbers.specs.Stored.{Held, put_at, changed, takes_by, takes_one, taken_one, takes_all, taken_all, closed_one, closed_all}
use Rattle.nr_job_numbers.proofs.Seen.{put_same, put_twice}

-- two lists, one behind the other
pub takes-append : (node worker : ℕ) (held : Held) (xs ys : Jobs)
    → takes_all node worker held (xs ++ ys) ≡ (takes_all node worker held xs && takes_all node worker (taken_all held xs) ys)
takes-append node worker held [] ys = refl
takes-append node worker held (x ∷ xs) ys =
    ap (λ (b : Bool). takes_one node worker held x && b) (takes-append node worker (taken_one held x) xs ys)
    ∙ sym (and_assoc (takes_one node worker held x) (takes_all node worker (taken_one held x) xs) (takes_all node worker (taken_all (taken_one held x) xs) ys))

pub taken-append : (held : Held) (xs ys : Jobs) → taken_all held (xs ++ ys) ≡ taken_all (taken_all held xs) ys
taken-append held [] ys = refl
taken-append held (x ∷ xs) ys = taken-append (taken_one held x) xs ys

pub closed-append : (node : ℕ) (held : Held) (xs ys : Jobs) → closed_all node held (xs ++ ys) ≡ closed_all node (closed_all node held xs) ys
closed-append node held [] ys = refl
closed-append node held (x ∷ xs) ys = closed-append node (closed_one node held x) xs ys

-- the first so many, and one more
pub more_items : (jobs : List Job) (i : ℕ) (job : Job) → i < length jobs → job ≡ get_or jobs i job
    → items_of (take (i + 1) jobs) ≡ items_of (take i jobs) ++ item_of job ∷ []
more_items jobs i job within is =
    ap items_of (take_more jobs i job within) ∙ map-append item_of (take i jobs) (get_or jobs i job ∷ [])
    ∙ ap (λ (j : Job). items_of (take i jobs) ++ item_of j ∷ []) (sym is)

-- all of them were taken so far
pub record TookFront (node worker : ℕ) (before now : Held) (jobs : List Job) (i : ℕ) : Type 0 where
  pub front : takes_all node worker before (items_of (take i jobs)) ≡ true
  pub held : now ≡ taken_all before (items_of (take i jobs))

take_none : {A : Type 0} (xs : List A) → take 0 xs ≡ []
take_none [] = refl
take_none (x ∷ xs) = refl

pub took_none : (node worker : ℕ) (held : Held) (jobs : List Job) → TookFront node worker held held jobs 0
took_none node worker held jobs =
    let none = take_none jobs in
    record {
      front = ap (λ (js : List Job). takes_all node worker held (items_of js)) none;
      held = sym (ap (λ (js : List Job). taken_all held (items_of js)) none);
    }

pub took_more : (node worker : ℕ) (before now new : Held) (jobs : List Job) (i : ℕ) (job : Job) (b : Bool) → i < length jobs → job ≡ get_or jobs i job
    → b ≡ takes_one node worker now (item_of job) → new ≡ cond b (taken_one now (item_of job)) now → b ≡ true
    → TookFront node worker before now jobs i → TookFront node worker before new jobs (i + 1)
took_more node worker before now new jobs i job b within is takes_is new_is good f =
    let more = more_items jobs i job within is in
    let one = item_of job in
    let first = items_of (take i jobs) in
    let fits : takes_one node worker (taken_all before first) one ≡ true =
    ap (λ (h : Held). takes_one node worker h one) (sym f.held) ∙ sym takes_is ∙ good in
    record {
      front = ap (takes_all node worker before) more ∙ takes-append node worker before first (one ∷ [])
          ∙ and_from _ _ f.front (and-true _ ∙ fits);
      held = new_is ∙ ap (λ (b : Bool). cond b (taken_one now one) now) good ∙ ap (λ (h : Held). taken_one h one) f.held
          ∙ sym (ap (taken_all before) more ∙ taken-append before first (one ∷ []));
    }

-- one of them isn't taken, so not all are
pub not_all : (node worker : ℕ) (before now : Held) (jobs : List Job) (i : ℕ) (job : Job) (b : Bool) → i < length jobs → job ≡ get_or jobs i job
    → b ≡ takes_one node worker now (item_of job) → b ≡ false
    → TookFront node worker before now jobs i → takes_all node worker before (items_of jobs) ≡ false
not_all node worker before now jobs i job b within is takes_is bad f =
    let more = more_items jobs i job within is in
    let one = item_of job in
    let first = items_of (take i jobs) in
    let fails : takes_one node worker (taken_all before first) one ≡ false =
    ap (λ (h : Held). takes_one node worker h one) (sym f.held) ∙ sym takes_is ∙ bad in
    let apart : items_of jobs ≡ items_of (take (i + 1) jobs) ++ items_of (drop (i + 1) jobs) =
    ap items_of (sym (take-append-drop (i + 1) jobs)) ∙ map-append item_of (take (i + 1) jobs) (drop (i + 1) jobs) in
    let front : takes_all node worker before (items_of (take (i + 1) jobs)) ≡ false =
    ap (takes_all node worker before) more ∙ takes-append node worker before first (one ∷ []) ∙ and_right _ _ (and-true _ ∙ fails) in
    ap (takes_all node worker before) apart ∙ takes-append node worker before (items_of (take (i + 1) jobs)) (items_of (drop (i + 1) jobs))
    ∙ and_left _ _ front

-- what is held once one more is as if it hadn't been taken
found_by : (node worker : ℕ) (job : Item) (o : Option Account) → takes_by worker job o ≡ true → (a : Account) × (o ≡ Some a) × (takes worker job a ≡ true)
found_by node worker job None e = absurd (cc e)
found_by node worker job (Some a) e = (a, refl, e)

-- the account of a job that is taken
pub found : (node worker : ℕ) (held : Held) (job : Item) → takes_one node worker held job ≡ true
    → (a : Account) × (finmap.get held job.connection.serial ≡ Some a) × (takes worker job a ≡ true)
found node worker held job e =
    found_by node worker job (finmap.get held job.connection.serial)
    (and_parts (eqb job.connection.node node) (takes_by worker job (finmap.get held job.connection.serial)) e).1

-- it wasn't ended
pub not_ended : (worker : ℕ) (job : Item) (a : Account) → takes worker job a ≡ true → a.is_ended ≡ false
not_ended worker job a e =
    let own = (and_parts (is_of worker a) (is_next job a) e).0 in
    not-true a.is_ended (and_parts (eqb a.worker worker) (not a.is_ended) own).1

one_back : (worker : ℕ) (job : Item) (a : Account) → takes worker job a ≡ true → untaken (taken job a) ≡ a
one_back worker job a e =
    let number : (a.next + 1) - 1 ≡ a.next = omega arith in
    let still_open : false ≡ a.is_ended = sym (not_ended worker job a e) in
    λ i. record { worker = a.worker; next = number i; is_ended = still_open i }

pub put_here : (m : Held) (k : ℕ) (x : Account) → finmap.get (finmap.insert m k x) k ≡ Some x
put_here m k x =
    finmap.get-insert nat_cmp_total m k x k
    ∙ ap (λ (b : Bool). cond b (Some x) (finmap.get m k)) ((eq_by_cmp_equiv nat_cmp_total).refl k)

pub given_back : (node worker : ℕ) (held : Held) (job : Item) → takes_one node worker held job ≡ true
    → changed untaken job.connection.serial (taken_one held job) ≡ held
given_back node worker held job e =
    let at = found node worker held job e in
    let a = at.0 in
    let s = job.connection.serial in
    let once : taken_one held job ≡ finmap.insert held s (taken job a) = ap (λ (o : Option Account). put_at (taken job) s o held) at.1 in
    ap (changed untaken s) once
    ∙ ap (λ (o : Option Account). put_at untaken s o (finmap.insert held s (taken job a))) (put_here held s (taken job a))
    ∙ put_twice held s (taken job a) (untaken (taken job a))
    ∙ ap (finmap.insert held s) (one_back worker job a at.2)
    ∙ put_same held s a (sym at.1)

-- the last of the first so many is given back
pub one_fewer : (node worker : ℕ) (before now new : Held) (jobs : List Job) (i : ℕ) (job : Job) → i < length jobs → job ≡ get_or jobs i job
    → takes_all node worker before (items_of (take (i + 1) jobs)) ≡ true → now ≡ taken_all before (items_of (take (i + 1) jobs))
    → new ≡ changed untaken (get_or jobs i job).conn.serial now
    → (takes_all node worker before (items_of (take i jobs)) ≡ true) × (new ≡ taken_all before (items_of (take i jobs)))
one_fewer node worker before now new jobs i job within is all now_is new_is =
    let more = more_items jobs i job within is in
    let one = item_of job in
    let first = items_of (take i jobs) in
    let parts = and_parts (takes_all node worker before first) (takes_all node worker (taken_all before first) (one ∷ []))
    (sym (ap (takes_all node worker before) more ∙ takes-append node worker before first (one ∷ [])) ∙ all) in (
      parts.0,
      new_is ∙ ap (λ (j : Job). changed untaken j.conn.serial now) (sym is) ∙ ap (changed untaken job.conn.serial) (now_is ∙ ap (taken_all before) more ∙ taken-append before first (one ∷ []))
          ∙ given_back node worker (taken_all before first) one (sym (and-true _) ∙ parts.1),
    )

-- all of them, and none of them
pub took_all : (node worker : ℕ) (before now : Held) (jobs : List Job) (i : ℕ) → length jobs ≤ i → TookFront node worker before now jobs i
    → TookFront node worker before now jobs (length jobs)
took_all node worker before now jobs i past f =
    let here : take i jobs ≡ take (length jobs) jobs = take_all i jobs past ∙ sym (take_all (length jobs) jobs (omega arith)) in
    record {
      front = ap (λ (js : List Job). takes_all node worker before (items_of js)) (sym here) ∙ f.front;
      held = f.held ∙ ap (λ (js : List Job). taken_all before (items_of js)) here;
    }

pub back_from_all : (node worker : ℕ) (before now : Held) (jobs : List Job) → takes_all node worker before (items_of jobs) ≡ true → now ≡ taken_all before (items_of jobs)
    → (takes_all node worker before (items_of (take (length jobs) jobs)) ≡ true) × (now ≡ taken_all before (items_of (take (length jobs) jobs)))
back_from_all node worker before now jobs all is =
    let here : take (length jobs) jobs ≡ jobs = take_all (length jobs) jobs (omega arith) in
    (ap (λ (js : List Job). takes_all node worker before (items_of js)) here ∙ all, is ∙ sym (ap (λ (js : List Job). taken_all before (items_of js)) here))

pub back_to_none : (before now : Held) (jobs : List Job) (i : ℕ) → i ≤ 0 → now ≡ taken_all before (items_of (take i jobs)) → now ≡ before
back_to_none before now jobs i least is =
    let zero_is : i ≡ 0 = omega arith in
    is ∙ ap (λ (n : ℕ). taken_all before (items_of (take n jobs))) zero_is ∙ ap (λ (js : List Job). taken_all before (items_of js)) (take_none jobs)

-- accounts go with one job more
pub closed_more : (node : ℕ) (before now new : Held) (jobs : List Job) (i : ℕ) (job : Job) → i < length jobs → job ≡ get_or jobs i job
    → new ≡ closed_one node now (item_of job) → now ≡ closed_all node before (items_of (take i jobs)) → new ≡ closed_all node before (items_of (take (i + 1) jobs))
closed_more node before now new jobs i job within is one so =
    one ∙ ap (λ (h : Held). closed_one node h (item_of job)) so
    ∙ sym (ap (closed_all node before) (more_items jobs i job within is) ∙ closed-append node before (items_of (take i jobs)) (item_of job ∷ []))
