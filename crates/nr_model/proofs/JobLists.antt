-- Lists of jobs, and numbers that count up.
use Rattle.std.proofs.Common.{◌≡◌, ℕ, zero, suc, ◌+◌, Bool, true, false, cond, List, [], ◌∷◌, ◌++◌, length, map, take, refl, ap, ◌∙◌, subst, arith, eqb}
use Rattle.std.specs.Prelude.{filter}
use Rattle.std.specs.List.{AllByRecursion, range_with_len}
use Rattle.std.proofs.lemmas.Bool.{and_from, eq-eqb}
use Rattle.nr_model.specs.Items.{Connection, same_connection, Deed, Item}
use Rattle.nr_model.specs.Entries.{Jobs}
use Rattle.nr_model.specs.Asked.{own_jobs, jobs_from}
pub use Rattle.nr_model.proofs.Subscribed.{same-is as same_is}

-- a connection is the same as itself
pub same_self : (a : Connection) → same_connection a a ≡ true
same_self a = and_from (eqb a.node a.node) (eqb a.serial a.serial) (eq-eqb a.node a.node refl) (eq-eqb a.serial a.serial refl)

-- all of some lists
pub All-append : {A : Type 0} (P : A → Type 0) (xs ys : List A) → AllByRecursion P xs → AllByRecursion P ys → AllByRecursion P (xs ++ ys)
All-append P [] ys a b = b
All-append P (x ∷ xs) ys a b = (a.0, All-append P xs ys a.1 b)

-- all of a front
pub All-take : {A : Type 0} (P : A → Type 0) (n : ℕ) (xs : List A) → AllByRecursion P xs → AllByRecursion P (take n xs)
All-take P zero [] a = tt
All-take P zero (x ∷ xs) a = tt
All-take P (suc n) [] a = tt
All-take P (suc n) (x ∷ xs) a = (a.0, All-take P n xs a.1)

-- a filter at one element
pub filter-keeps : {A : Type 0} (test : A → Bool) (x : A) (xs : List A) → test x ≡ true → filter test (x ∷ xs) ≡ x ∷ filter test xs
filter-keeps test x xs e = ap (λ (b : Bool). cond b (x ∷ filter test xs) (filter test xs)) e

-- and one that it drops
pub filter-drops : {A : Type 0} (test : A → Bool) (x : A) (xs : List A) → test x ≡ false → filter test (x ∷ xs) ≡ filter test xs
filter-drops test x xs e = ap (λ (b : Bool). cond b (x ∷ filter test xs) (filter test xs)) e

-- none of a list
pub take_none : {A : Type 0} (xs : List A) → take zero xs ≡ []
take_none [] = refl
take_none (x ∷ xs) = refl

-- jobs whose numbers count up from a number
abbrev pub CountsFrom : ℕ → Jobs → Type 0
CountsFrom n [] = Unit {0}
CountsFrom n (job ∷ jobs) = (job.number ≡ n) × CountsFrom (n + 1) jobs

-- two parts count up
pub CountsFrom-append : (n : ℕ) (xs ys : Jobs) → CountsFrom n xs → CountsFrom (n + length xs) ys → CountsFrom n (xs ++ ys)
CountsFrom-append n [] ys a b =
    let e : n + 0 ≡ n = omega arith in
    subst (λ (k : ℕ). CountsFrom k ys) e b
CountsFrom-append n (x ∷ xs) ys a b =
    let e : n + suc (length xs) ≡ (n + 1) + length xs = omega arith in
    (a.0, CountsFrom-append (n + 1) xs ys a.1 (subst (λ (k : ℕ). CountsFrom k ys) e b))

-- the front of what counts up
pub CountsFrom-front : (n : ℕ) (xs ys : Jobs) → CountsFrom n (xs ++ ys) → CountsFrom n xs
CountsFrom-front n [] ys a = tt
CountsFrom-front n (x ∷ xs) ys a = (a.0, CountsFrom-front (n + 1) xs ys a.1)

-- the number behind a front
pub CountsFrom-next : (n : ℕ) (xs : Jobs) (y : Item) (ys : Jobs) → CountsFrom n (xs ++ y ∷ ys) → y.number ≡ n + length xs
CountsFrom-next n [] y ys a =
    let e : n ≡ n + 0 = omega arith in
    a.0 ∙ e
CountsFrom-next n (x ∷ xs) y ys a =
    let e : (n + 1) + length xs ≡ n + suc (length xs) = omega arith in
    CountsFrom-next (n + 1) xs y ys a.1 ∙ e

-- the numbers themselves
pub numbers_of : (n : ℕ) (xs : Jobs) → CountsFrom n xs → map (λ (item : Item). item.number) xs ≡ range_with_len n (length xs)
numbers_of n [] a = refl
numbers_of n (x ∷ xs) a =
    let more = numbers_of (n + 1) xs a.1 in
    let first : x.number ≡ n = a.0 in
    λ i. first i ∷ more i

-- jobs of deeds
pub jobs_from-counts : (c : Connection) (n time : ℕ) (deeds : List Deed) → CountsFrom n (jobs_from c n time deeds)
jobs_from-counts c n time [] = tt
jobs_from-counts c n time (deed ∷ deeds) = (refl, jobs_from-counts c (n + 1) time deeds)

-- as many as there are deeds
pub length-jobs_from : (c : Connection) (n time : ℕ) (deeds : List Deed) → length (jobs_from c n time deeds) ≡ length deeds
length-jobs_from c n time [] = refl
length-jobs_from c n time (deed ∷ deeds) = ap suc (length-jobs_from c (n + 1) time deeds)

-- they are all their connection's
pub own_jobs_from : (c : Connection) (n time : ℕ) (deeds : List Deed) → own_jobs c (jobs_from c n time deeds) ≡ jobs_from c n time deeds
own_jobs_from c n time [] = refl
own_jobs_from c n time (deed ∷ deeds) =
    let job : Item = record { connection = c; number = n; moment = time; deed = deed } in
    filter-keeps (λ (j : Item). same_connection j.connection c) job (jobs_from c (n + 1) time deeds) (same_self c)
    ∙ ap (λ (js : Jobs). job ∷ js) (own_jobs_from c (n + 1) time deeds)

-- and none are of another
pub no_jobs_from : (c d : Connection) (n time : ℕ) (deeds : List Deed) → same_connection c d ≡ false → own_jobs d (jobs_from c n time deeds) ≡ []
no_jobs_from c d n time [] e = refl
no_jobs_from c d n time (deed ∷ deeds) e =
    let job : Item = record { connection = c; number = n; moment = time; deed = deed } in
    filter-drops (λ (j : Item). same_connection j.connection d) job (jobs_from c (n + 1) time deeds) e ∙ no_jobs_from c d (n + 1) time deeds e
