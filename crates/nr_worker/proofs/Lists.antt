-- Lists of jobs, of batches and of bytes.
use Rattle.std.proofs.Common.{◌≡◌, ℕ, zero, suc, ◌+◌, ◌<◌, ◌≤◌, inl, inr, Bool, true, false, cond, List, [], ◌∷◌, ◌++◌, map, length, drop, Contains, refl, ap, sym, ◌∙◌, subst, arith, append_assoc}
use Rattle.std.specs.Prelude.{filter}
use Rattle.std.specs.List.{AllByRecursion, range_with_len}
use Rattle.std.proofs.Math.Seq.{drop-append_seam}
use Rattle.std.proofs.lemmas.Bool.{cases_Bool}
use Rattle.std.proofs.lemmas.List.{length-append, length-drop}
use Rattle.nr_model.specs.Bytes.{IsBeginningOf}
use Rattle.nr_model.specs.Items.{Connection, Item, same_connection}
use Rattle.nr_model.specs.Entries.{Jobs}
use Rattle.nr_model.specs.Asked.{own_jobs}
use Rattle.nr_model.proofs.JobLists.{same_is, same_self}
use Rattle.nr_model.proofs.NodesExecutedLists.{in_cases, some_in}
use Rattle.nr_oplog.proofs.Fronts.{begins_both}
use Rattle.nr_entry.specs.declared.batch.Batch.{Batch}
use Rattle.nr_entry.specs.Jobs.{items_of}
use Rattle.nr_job_numbers.specs.Stored.{numbers_in}
use Rattle.nr_combiner.specs.Served.{ComesFrom}
use Rattle.nr_worker.specs.Worker.{AllPosted, AreAsked, CountsFrom, IsAsked}

-- what holds of all holds of one of them
pub all_at : {A : Type 0} (P : A → Type 0) (xs : List A) (x : A) → AllByRecursion P xs → Contains xs x → P x
all_at P [] x all there = absurd (some_in [] x refl there)
all_at P (y ∷ ys) x all there = elim (in_cases x y ys there) [
  | inl same ↦ subst P same all.0
  | inr behind ↦ all_at P ys x all.1 behind
]

pub all_weaker : {A : Type 0} (P Q : A → Type 0) → ((x : A) → P x → Q x) → (xs : List A) → AllByRecursion P xs → AllByRecursion Q xs
all_weaker P Q f [] all = tt
all_weaker P Q f (x ∷ xs) all = (f x all.0, all_weaker P Q f xs all.1)

pub all_both : {A : Type 0} (P Q : A → Type 0) (xs : List A) → AllByRecursion P xs → AllByRecursion Q xs → AllByRecursion (λ (x : A). P x × Q x) xs
all_both P Q [] a b = tt
all_both P Q (x ∷ xs) a b = ((a.0, b.0), all_both P Q xs a.1 b.1)

-- a beginning of none is none
pub no_front : {A : Type 0} (x y : List A) → x ++ y ≡ [] → x ≡ []
no_front [] y e = refl
no_front (t ∷ x) y e = absurd (cc e)

-- of all jobs of batches
pub posted_weaker : (P Q : Item → Type 0) → ((job : Item) → P job → Q job) → (batches : List Batch) → AllPosted P batches → AllPosted Q batches
posted_weaker P Q f [] all = tt
posted_weaker P Q f (batch ∷ batches) all = (all_weaker P Q f (items_of batch.jobs.items) all.0, posted_weaker P Q f batches all.1)

pub posted_both : (P Q : Item → Type 0) (batches : List Batch) → AllPosted P batches → AllPosted Q batches → AllPosted (λ (job : Item). P job × Q job) batches
posted_both P Q [] a b = tt
posted_both P Q (batch ∷ batches) a b = (all_both P Q (items_of batch.jobs.items) a.0 b.0, posted_both P Q batches a.1 b.1)

pub posted_at : (P : Item → Type 0) (batches : List Batch) (batch : Batch) (job : Item) → AllPosted P batches → Contains batches batch
    → Contains (items_of batch.jobs.items) job → P job
posted_at P batches batch job all there has =
    all_at P (items_of batch.jobs.items) job (all_at (λ (b : Batch). AllByRecursion P (items_of b.jobs.items)) batches batch all there) has

-- the jobs of a connection
own_by : (Q : Item → Type 0) (test : Item → Bool) (job : Item) (jobs : Jobs) → (test job ≡ true → Q job) → AllByRecursion Q (filter test jobs)
    → AllByRecursion Q (filter test (job ∷ jobs))
own_by Q test job jobs here more = elim (cases_Bool (test job)) [
  | inl own ↦ subst (λ (b : Bool). AllByRecursion Q (cond b (job ∷ filter test jobs) (filter test jobs))) (sym own) (here own, more)
  | inr other ↦ subst (λ (b : Bool). AllByRecursion Q (cond b (job ∷ filter test jobs) (filter test jobs))) (sym other) more
]

pub all_own : (Q : Item → Type 0) (c : Connection) (jobs : Jobs) → AllByRecursion (λ (job : Item). job.connection ≡ c → Q job) jobs → AllByRecursion Q (own_jobs c jobs)
all_own Q c [] all = tt
all_own Q c (job ∷ jobs) all =
    own_by Q (λ (j : Item). same_connection j.connection c) job jobs (λ own. all.0 (same_is job.connection c own)) (all_own Q c jobs all.1)

more_none : (b : Bool) (x : Item) (xs : Jobs) → map (λ (j : Item). j.number) (cond b (x ∷ xs) xs) ≡ [] → map (λ (j : Item). j.number) xs ≡ []
more_none true x xs none = absurd (cc none)
more_none false x xs none = none

-- a job among others has a number among theirs
pub has_number : (job : Item) (jobs : Jobs) → Contains jobs job → numbers_in job.connection jobs ≡ [] → ⊥
has_number job [] there none = some_in [] job refl there
has_number job (x ∷ xs) there none = elim (in_cases job x xs there) [
  | inl is ↦ cc (subst (λ (b : Bool). map (λ (j : Item). j.number) (cond b (x ∷ own_jobs job.connection xs) (own_jobs job.connection xs)) ≡ [])
      (ap (λ (y : Item). same_connection y.connection job.connection) is ∙ same_self job.connection) none)
  | inr behind ↦ has_number job xs behind (more_none (same_connection x.connection job.connection) x (own_jobs job.connection xs) none)
]

-- a piece behind what was handed out, where both are of what a longer record emits
pub piece_on : {A : Type 0} (handed piece emitted all : List A) → IsBeginningOf handed all → IsBeginningOf emitted all
    → IsBeginningOf piece (drop (length handed) emitted) → 0 < length piece → IsBeginningOf (handed ++ piece) emitted
piece_on handed piece emitted all front part behind some =
    let left = length-drop (length handed) emitted in
    let long = length-append piece behind.0 in
    let is = ap length behind.1 in
    let near : length handed ≤ length emitted = omega (arith, left, long, is, some) in
    let begins = begins_both handed emitted all front part near in
    let rest : piece ++ behind.0 ≡ begins.0 = behind.1 ∙ ap (drop (length handed)) (sym begins.1) ∙ drop-append_seam handed begins.0 in
    (behind.0, append_assoc handed piece behind.0 ∙ ap (λ xs. handed ++ xs) rest ∙ begins.1)

-- ---- the first of the jobs that were asked for
head_is : (xs ys : List ℕ) (x y : ℕ) → x ∷ xs ≡ y ∷ ys → x ≡ y
head_is xs ys x y is = cc is

tail_is : (xs ys : List ℕ) (x y : ℕ) → x ∷ xs ≡ y ∷ ys → xs ≡ ys
tail_is xs ys x y is = cc is

-- what counts from a number has none below it
pub above : (n : ℕ) (jobs : Jobs) (job : Item) → CountsFrom n jobs → Contains jobs job → n ≤ job.number
above n [] job c there = absurd (some_in [] job refl there)
above n (x ∷ xs) job c there = elim (in_cases job x xs there) [
  | inl is ↦ let a = c.0 in let b = ap (λ (i : Item). i.number) is in omega (arith, a, b)
  | inr more ↦ let a = above (n + 1) xs job c.1 more in omega (arith, a)
]

-- a job of the first number is the first, any other is behind it
first_asked : (n : ℕ) (x : Item) (xs : Jobs) (job : Item) → CountsFrom n (x ∷ xs) → job.number ≡ n → ComesFrom job (x ∷ xs) → IsAsked job x
first_asked n x xs job c at from = elim (in_cases from.item x xs from.there) [
  | inl is ↦ record {
    connection = ap (λ (i : Item). i.connection) is ∙ from.connection;
    number = ap (λ (i : Item). i.number) is ∙ from.number;
    deed = ap (λ (i : Item). i.deed) is ∙ from.deed;
    moment = subst (λ (i : Item). i.moment ≤ job.moment) (sym is) from.moment;
    read = λ read. from.read read ∙ ap (λ (i : Item). i.moment) (sym is);
  }
  | inr more ↦ absurd (let far = above (n + 1) xs from.item c.1 more in let b = from.number in omega (arith, far, b, at))
]

behind : (n : ℕ) (x : Item) (xs : Jobs) (job : Item) → CountsFrom n (x ∷ xs) → n + 1 ≤ job.number → ComesFrom job (x ∷ xs) → ComesFrom job xs
behind n x xs job c far from = elim (in_cases from.item x xs from.there) [
  | inl is ↦ absurd (let here = ap (λ (i : Item). i.number) is in let b = from.number in let d = c.0 in omega (arith, here, b, d, far))
  | inr more ↦ record {
    item = from.item;
    there = more;
    connection = from.connection;
    number = from.number;
    deed = from.deed;
    moment = from.moment;
    read = from.read;
  }
]

all_behind : (n m k : ℕ) (x : Item) (xs done : Jobs) → CountsFrom n (x ∷ xs) → n + 1 ≤ m → map (λ (job : Item). job.number) done ≡ range_with_len m k
    → AllByRecursion (λ (job : Item). ComesFrom job (x ∷ xs)) done → AllByRecursion (λ (job : Item). ComesFrom job xs) done
all_behind n m k x xs [] c far is all = tt
all_behind n m zero x xs (job ∷ done) c far is all = absurd (cc is)
all_behind n m (suc k) x xs (job ∷ done) c far is all =
    let here = head_is _ _ job.number m is in (
      behind n x xs job c (omega (arith, here, far)) all.0,
      all_behind n (m + 1) k x xs done c (omega (arith, far)) (tail_is _ _ job.number m is) all.1,
    )

-- jobs numbered on, each of which comes from what was asked for, are the first of that
pub are_asked : (n k : ℕ) (done asked : Jobs) → map (λ (job : Item). job.number) done ≡ range_with_len n k → CountsFrom n asked
    → AllByRecursion (λ (job : Item). ComesFrom job asked) done → AreAsked done asked
are_asked n k [] asked is c all = tt
are_asked n zero (job ∷ done) asked is c all = absurd (cc is)
are_asked n (suc k) (job ∷ done) [] is c all = absurd (some_in [] all.0.item refl all.0.there)
are_asked n (suc k) (job ∷ done) (x ∷ xs) is c all =
    let here = head_is _ _ job.number n is in
    let later = tail_is _ _ job.number n is in (
      first_asked n x xs job c here all.0,
      are_asked (n + 1) k done xs later c.1 (all_behind n (n + 1) k x xs done c (omega arith) later all.1),
    )
