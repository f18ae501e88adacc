-- Elements of lists: where they stand, and which of two lists that were taken apart has them.
use Rattle.std.proofs.Common.{◌≡◌, ℕ, zero, suc, ◌+◌, ◌<◌, ◌≤◌, Bool, true, false, cond, ◌⊎◌, inl, inr, List, [], ◌∷◌, ◌++◌, length, take, drop, refl, ap, sym, ◌∙◌, subst, arith, Contains, drop-cons, ltb}
use Rattle.std.specs.Prelude.{filter}
use Rattle.std.proofs.lemmas.Bool.{cases_Bool, ltb-true, ltb-false}
use Rattle.std.proofs.lemmas.List.{take-append-drop, take_all}
use Rattle.std.proofs.lemmas.List.Elements.{Contains-append_right, filter-append}
use Rattle.nr_model.specs.Items.{Item}
use Rattle.nr_model.specs.Entries.{Jobs, leading, left_after, leads_as_update, leads_as_read, entry_jobs, left_by_entry, read_jobs, left_by_reads, most_entry_jobs}
use Rattle.nr_model.proofs.JobLists.{filter-keeps, take_none}
use Rattle.nr_model.proofs.Choices.{left_none, left_by_all, leading_within}

-- less, or not
pub lt_or_le : (m n : ℕ) → (m < n) ⊎ (n ≤ m)
lt_or_le m n = elim (cases_Bool (ltb m n)) [ inl e ↦ inl (ltb-true m n e) | inr e ↦ inr (ltb-false m n e) ]

-- the first of a list, and one behind it
pub first_in : {A : Type 0} (x : A) (xs : List A) → Contains (x ∷ xs) x
first_in x xs = (0, omega arith, refl)

pub later_in : {A : Type 0} (x y : A) (xs : List A) → Contains xs x → Contains (y ∷ xs) x
later_in x y xs h = let below : h.0 < length xs = h.1 in (suc h.0, omega arith, h.2)

-- the first, or one behind it
pub in_cases : {A : Type 0} (x y : A) (xs : List A) → Contains (y ∷ xs) x → (y ≡ x) ⊎ Contains xs x
in_cases x y xs (zero, below, is) = inl is
in_cases x y xs (suc k, below, is) = inr (k, omega arith, is)

-- where an element stands
pub record Stands {A : Type 0} (x : A) (xs : List A) : Type 0 where
  pub front : List A
  pub back : List A
  pub is : xs ≡ front ++ x ∷ back

pub stands : {A : Type 0} (xs : List A) (x : A) → Contains xs x → Stands x xs
stands xs x h = record {
  front = take h.0 xs;
  back = drop (suc h.0) xs;
  is = sym (take-append-drop h.0 xs) ∙ ap (λ ys. take h.0 xs ++ ys) (drop-cons xs h.0 x h.1 ∙ ap (λ y. y ∷ drop (suc h.0) xs) h.2);
}

pub in_middle : {A : Type 0} (x : A) (front back : List A) → Contains (front ++ x ∷ back) x
in_middle x front back = Contains-append_right front (x ∷ back) x (first_in x back)

-- what passes a test stands in the filter
pub kept_in : {A : Type 0} (test : A → Bool) (xs : List A) (x : A) → Contains xs x → test x ≡ true → Contains (filter test xs) x
kept_in test xs x h passes =
    let s = stands xs x h in
    subst (λ ys. Contains ys x) (sym (ap (filter test) s.is ∙ filter-append test s.front (x ∷ s.back)
    ∙ ap (λ ys. filter test s.front ++ ys) (filter-keeps test x s.back passes)))
    (in_middle x (filter test s.front) (filter test s.back))

-- so the filter isn't empty
pub some_in : {A : Type 0} (xs : List A) (x : A) → length xs ≡ 0 → Contains xs x → ⊥
some_in xs x none (k, below, is) = omega arith

-- an element of a list is one of what was taken of it, or one of what is left
abbrev pub Shares : {A : Type 0} → List A → List A → List A → Type 0
Shares {A} xs taken left = (x : A) → Contains xs x → Contains taken x ⊎ Contains left x

-- one more was taken, or left
one_taken : {A : Type 0} (y : A) (xs taken left : List A) → Shares xs taken left → Shares (y ∷ xs) (y ∷ taken) left
one_taken y xs taken left s x h = elim (in_cases x y xs h) [
  | inl e ↦ inl (subst (λ z. Contains (y ∷ taken) z) e (first_in y taken))
  | inr b ↦ elim (s x b) [ inl t ↦ inl (later_in x y taken t) | inr l ↦ inr l ]
]

one_left : {A : Type 0} (y : A) (xs taken left : List A) → Shares xs taken left → Shares (y ∷ xs) taken (y ∷ left)
one_left y xs taken left s x h = elim (in_cases x y xs h) [
  | inl e ↦ inr (subst (λ z. Contains (y ∷ left) z) e (first_in y left))
  | inr b ↦ elim (s x b) [ inl t ↦ inl t | inr l ↦ inr (later_in x y left l) ]
]

-- and as many pass a test
abbrev pub count : {A : Type 0} → (A → Bool) → List A → ℕ
count test xs = length (filter test xs)

count-cons : {A : Type 0} (test : A → Bool) (x : A) (xs : List A) → count test (x ∷ xs) ≡ cond (test x) 1 0 + count test xs
count-cons test x xs =
    elim (test x) as (λ b. length (cond b (x ∷ filter test xs) (filter test xs)) ≡ cond b 1 0 + count test xs) [
      | true ↦ omega arith
      | false ↦ omega arith
    ]

-- both
pub record Parts (xs taken left : Jobs) : Type 0 where
  pub shares : Shares xs taken left
  pub counts : (test : Item → Bool) → count test xs ≡ count test taken + count test left

parts_taken : (y : Item) (xs taken left : Jobs) → Parts xs taken left → Parts (y ∷ xs) (y ∷ taken) left
parts_taken y xs taken left p = record {
  shares = one_taken y xs taken left p.shares;
  counts = λ test.
      let before = p.counts test in
      let whole = count-cons test y xs in
      let part = count-cons test y taken in
      omega arith;
}

parts_left : (y : Item) (xs taken left : Jobs) → Parts xs taken left → Parts (y ∷ xs) taken (y ∷ left)
parts_left y xs taken left p = record {
  shares = one_left y xs taken left p.shares;
  counts = λ test.
      let before = p.counts test in
      let whole = count-cons test y xs in
      let part = count-cons test y left in
      omega arith;
}

-- all left
all_left : (xs : Jobs) → Parts xs [] xs
all_left xs = record { shares = λ x h. inr h; counts = λ test. omega arith }

-- what leads, where there is room, and what is left
parts_within : (leads : Jobs → Item → Bool) (room : ℕ) (before jobs : Jobs)
    → Parts jobs (take room (leading leads before jobs)) (left_after leads room before jobs)
parts_within leads zero before jobs =
    subst (λ (ys : Jobs). Parts jobs ys (left_after leads zero before jobs)) (sym (take_none (leading leads before jobs)))
    (subst (Parts jobs []) (sym (left_none leads before jobs)) (all_left jobs))
parts_within leads (suc room) before [] = all_left []
parts_within leads (suc room) before (job ∷ jobs) =
    let after = before ++ job ∷ [] in
    let more = leading leads after jobs in
    elim (leads before job) as (λ m. Parts (job ∷ jobs) (take (suc room) (cond m (job ∷ more) more))
    (elim m [ true ↦ left_after leads room after jobs | false ↦ job ∷ left_after leads (suc room) after jobs ])) [
      | true ↦ parts_taken job jobs (take room more) (left_after leads room after jobs) (parts_within leads room after jobs)
      | false ↦ parts_left job jobs (take (suc room) more) (left_after leads (suc room) after jobs) (parts_within leads (suc room) after jobs)
    ]

-- by an entry, and by a look
pub entry_parts : (jobs : Jobs) → Parts jobs (entry_jobs jobs) (left_by_entry jobs)
entry_parts jobs = parts_within leads_as_update most_entry_jobs [] jobs

pub reads_parts : (jobs : Jobs) → Parts jobs (read_jobs jobs) (left_by_reads jobs)
reads_parts jobs =
    let room = length jobs in
    let all : take room (leading leads_as_read [] jobs) ≡ leading leads_as_read [] jobs =
    take_all room (leading leads_as_read [] jobs) (leading_within leads_as_read [] jobs) in
    let left = left_by_all leads_as_read room [] jobs (omega arith) in
    subst (λ (ys : Jobs). Parts jobs ys (left_by_reads jobs)) all
    (subst (Parts jobs (take room (leading leads_as_read [] jobs))) left (parts_within leads_as_read room [] jobs))
