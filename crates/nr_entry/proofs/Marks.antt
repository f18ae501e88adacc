-- The jobs that are taken, and those that are left.
use Rattle.std.proofs.Common.{◌≡◌, ℕ, zero, suc, ◌≤◌, Bool, true, false, not, cond, List, [], ◌∷◌, ◌++◌, length, map, take, refl, sym, ap, ◌∙◌, arith}
use Rattle.std.specs.Prelude.{◌&&◌, ◌||◌}
use Rattle.std.specs.List.{list_any}
use Rattle.std.proofs.lemmas.List.{take_all}
use mathlib.Core.Bool.{beq}
use Rattle.nr_model.specs.Items.{Connection, Item, same_connection, is_update}
use Rattle.nr_model.specs.Entries.{Jobs, leading, not_leading, left_after, has_read_of, has_update_of}
use Rattle.nr_entry.specs.Choice.{marked, unmarked, is_blocked, leads_among, is_taken, room_behind, leading_marks}

-- the marked jobs are the first that lead
take_none : (jobs : Jobs) → take zero jobs ≡ []
take_none [] = refl
take_none (x ∷ jobs) = refl

marked-none : (leads : Jobs → Item → Bool) (before jobs : Jobs) → marked (leading_marks leads zero before jobs) jobs ≡ []
marked-none leads before [] = refl
marked-none leads before (x ∷ jobs) = marked-none leads (before ++ x ∷ []) jobs

pub marked_leading : (leads : Jobs → Item → Bool) (room : ℕ) (before jobs : Jobs) → marked (leading_marks leads room before jobs) jobs ≡ take room (leading leads before jobs)
marked_leading leads zero before jobs = marked-none leads before jobs ∙ sym (take_none (leading leads before jobs))
marked_leading leads (suc room) before [] = refl
marked_leading leads (suc room) before (x ∷ jobs) =
    let after = before ++ x ∷ [] in
    let more = leading leads after jobs in
    elim (leads before x) as (λ m. marked (m ∷ leading_marks leads (room_behind m (suc room)) after jobs) (x ∷ jobs) ≡ take (suc room) (cond m (x ∷ more) more)) [
      | true ↦ ap (λ (t : Jobs). x ∷ t) (marked_leading leads room after jobs)
      | false ↦ marked_leading leads (suc room) after jobs
    ]

-- the others are left
left_none : (leads : Jobs → Item → Bool) (before jobs : Jobs) → left_after leads zero before jobs ≡ jobs
left_none leads before [] = refl
left_none leads before (x ∷ jobs) = refl

unmarked-none : (leads : Jobs → Item → Bool) (before jobs : Jobs) → unmarked (leading_marks leads zero before jobs) jobs ≡ jobs
unmarked-none leads before [] = refl
unmarked-none leads before (x ∷ jobs) = ap (λ (t : Jobs). x ∷ t) (unmarked-none leads (before ++ x ∷ []) jobs)

pub unmarked_left : (leads : Jobs → Item → Bool) (room : ℕ) (before jobs : Jobs) → unmarked (leading_marks leads room before jobs) jobs ≡ left_after leads room before jobs
unmarked_left leads zero before jobs = unmarked-none leads before jobs ∙ sym (left_none leads before jobs)
unmarked_left leads (suc room) before [] = refl
unmarked_left leads (suc room) before (x ∷ jobs) =
    let after = before ++ x ∷ [] in
    elim (leads before x) as (λ m. unmarked (m ∷ leading_marks leads (room_behind m (suc room)) after jobs) (x ∷ jobs) ≡ elim m [ true ↦ left_after leads room after jobs | false ↦ x ∷ left_after leads (suc room) after jobs ]) [
      | true ↦ unmarked_left leads room after jobs
      | false ↦ ap (λ (t : Jobs). x ∷ t) (unmarked_left leads (suc room) after jobs)
    ]

-- where there is room for all, all that lead are taken
leading_within : (leads : Jobs → Item → Bool) (before jobs : Jobs) → length (leading leads before jobs) ≤ length jobs
leading_within leads before [] = omega arith
leading_within leads before (x ∷ jobs) =
    let more = leading leads (before ++ x ∷ []) jobs in
    let rest : length more ≤ length jobs = leading_within leads (before ++ x ∷ []) jobs in
    elim (leads before x) as (λ m. length (cond m (x ∷ more) more) ≤ suc (length jobs)) [ true ↦ omega arith | false ↦ omega arith ]

pub take_all_leading : (leads : Jobs → Item → Bool) (room : ℕ) (before jobs : Jobs) → length jobs ≤ room → take room (leading leads before jobs) ≡ leading leads before jobs
take_all_leading leads room before jobs h = take_all room (leading leads before jobs) (omega (arith, leading_within leads before jobs))

pub left_by_all : (leads : Jobs → Item → Bool) (room : ℕ) (before jobs : Jobs) → length jobs ≤ room → left_after leads room before jobs ≡ not_leading leads before jobs
left_by_all leads room before [] h = refl
left_by_all leads zero before (x ∷ jobs) h = absurd (omega arith)
left_by_all leads (suc room) before (x ∷ jobs) h =
    let after = before ++ x ∷ [] in
    let more = not_leading leads after jobs in
    elim (leads before x) as (λ m. elim m [ true ↦ left_after leads room after jobs | false ↦ x ∷ left_after leads (suc room) after jobs ] ≡ cond m more (x ∷ more)) [
      | true ↦ left_by_all leads room after jobs (omega arith)
      | false ↦ ap (λ (t : Jobs). x ∷ t) (left_by_all leads (suc room) after jobs (omega arith))
    ]

-- and where none leads, all are left
pub left_where_none : (leads : Jobs → Item → Bool) (room : ℕ) (before jobs : Jobs) → leading leads before jobs ≡ [] → left_after leads room before jobs ≡ jobs
left_where_none leads zero before jobs none = left_none leads before jobs
left_where_none leads (suc room) before [] none = refl
left_where_none leads (suc room) before (x ∷ jobs) none =
    let after = before ++ x ∷ [] in
    let more = leading leads after jobs in
    (elim (leads before x) as
    (λ m. cond m (x ∷ more) more ≡ []
    → elim m [ true ↦ left_after leads room after jobs | false ↦ x ∷ left_after leads (suc room) after jobs ] ≡ x ∷ jobs) [
      | true ↦ λ e. absurd (cc e)
      | false ↦ λ e. ap (λ (t : Jobs). x ∷ t) (left_where_none leads (suc room) after jobs e)
    ])
    none

-- marks by what they mark
pub map-marked : {A B : Type 0} (f : A → B) (marks : List Bool) (xs : List A) → map f (marked marks xs) ≡ marked marks (map f xs)
map-marked f [] xs = refl
map-marked f (m ∷ marks) [] = refl
map-marked f (true ∷ marks) (x ∷ xs) = ap (λ t. f x ∷ t) (map-marked f marks xs)
map-marked f (false ∷ marks) (x ∷ xs) = map-marked f marks xs

pub map-unmarked : {A B : Type 0} (f : A → B) (marks : List Bool) (xs : List A) → map f (unmarked marks xs) ≡ unmarked marks (map f xs)
map-unmarked f [] xs = refl
map-unmarked f (m ∷ marks) [] = refl
map-unmarked f (true ∷ marks) (x ∷ xs) = map-unmarked f marks xs
map-unmarked f (false ∷ marks) (x ∷ xs) = ap (λ t. f x ∷ t) (map-unmarked f marks xs)

pub length-leading_marks : (leads : Jobs → Item → Bool) (room : ℕ) (before jobs : Jobs) → length (leading_marks leads room before jobs) ≡ length jobs
length-leading_marks leads room before [] = refl
length-leading_marks leads room before (x ∷ jobs) = ap suc (length-leading_marks leads (room_behind (is_taken leads room before x) room) (before ++ x ∷ []) jobs)

-- one more job blocks its connection, where it is of the other kind
or_none : (b : Bool) → (b || false) ≡ b
or_none true = refl
or_none false = refl

or_assoc : (a b d : Bool) → (a || (b || d)) ≡ ((a || b) || d)
or_assoc true b d = refl
or_assoc false b d = refl

any-push : (test : Item → Bool) (jobs : Jobs) (job : Item) → list_any test (jobs ++ job ∷ []) ≡ (list_any test jobs || test job)
any-push test [] job = or_none (test job)
any-push test (x ∷ jobs) job = ap (λ (b : Bool). test x || b) (any-push test jobs job) ∙ or_assoc (test x) (list_any test jobs) (test job)

not_true : (b : Bool) → not b ≡ not (beq b true)
not_true true = refl
not_true false = refl

not_false : (b : Bool) → b ≡ not (beq b false)
not_false true = refl
not_false false = refl

pub is_blocked-push : (updates : Bool) (c : Connection) (jobs : Jobs) (job : Item)
    → is_blocked updates c (jobs ++ job ∷ []) ≡ (is_blocked updates c jobs || (same_connection job.connection c && not (beq (is_update job.deed) updates)))
is_blocked-push true c jobs job =
    any-push (λ x. same_connection x.connection c && not (is_update x.deed)) jobs job
    ∙ ap (λ (b : Bool). has_read_of c jobs || (same_connection job.connection c && b)) (not_true (is_update job.deed))
is_blocked-push false c jobs job =
    any-push (λ x. same_connection x.connection c && is_update x.deed) jobs job
    ∙ ap (λ (b : Bool). has_update_of c jobs || (same_connection job.connection c && b)) (not_false (is_update job.deed))

and_none : (b : Bool) → (b && false) ≡ false
and_none true = refl
and_none false = refl

-- a job of the kind that is taken blocks none
pub blocked_as_before : (updates : Bool) (c : Connection) (jobs : Jobs) (job : Item) → beq (is_update job.deed) updates ≡ true → is_blocked updates c (jobs ++ job ∷ []) ≡ is_blocked updates c jobs
blocked_as_before updates c jobs job own_kind =
    is_blocked-push updates c jobs job
    ∙ ap (λ (b : Bool). is_blocked updates c jobs || (same_connection job.connection c && not b)) own_kind
    ∙ ap (λ (b : Bool). is_blocked updates c jobs || b) (and_none (same_connection job.connection c))
    ∙ or_none (is_blocked updates c jobs)

-- which job is taken
beq_true : (b : Bool) → beq b true ≡ true → b ≡ true
beq_true true e = refl
beq_true false e = absurd (cc e)

beq_false : (b : Bool) → beq b false ≡ true → b ≡ false
beq_false true e = absurd (cc e)
beq_false false e = refl

not_beq_true : (b : Bool) → beq b true ≡ false → b ≡ false
not_beq_true true e = absurd (cc e)
not_beq_true false e = refl

not_beq_false : (b : Bool) → beq b false ≡ false → b ≡ true
not_beq_false true e = refl
not_beq_false false e = absurd (cc e)

pub leads_is : (updates : Bool) (jobs : Jobs) (job : Item) → beq (is_update job.deed) updates ≡ true → leads_among updates jobs job ≡ not (is_blocked updates job.connection jobs)
leads_is true jobs job own_kind = let update : is_update job.deed ≡ true = beq_true (is_update job.deed) own_kind in ap (λ (b : Bool). b && not (has_read_of job.connection jobs)) update
leads_is false jobs job own_kind = let read : is_update job.deed ≡ false = beq_false (is_update job.deed) own_kind in ap (λ (b : Bool). not b && not (has_update_of job.connection jobs)) read

pub other_leads_not : (updates : Bool) (jobs : Jobs) (job : Item) → beq (is_update job.deed) updates ≡ false → leads_among updates jobs job ≡ false
other_leads_not true jobs job other = ap (λ (b : Bool). b && not (has_read_of job.connection jobs)) (not_beq_true (is_update job.deed) other)
other_leads_not false jobs job other = ap (λ (b : Bool). not b && not (has_update_of job.connection jobs)) (not_beq_false (is_update job.deed) other)
