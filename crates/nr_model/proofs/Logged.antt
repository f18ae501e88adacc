-- An entry has updates, and a look has reads: which items of a sequence are updates, and where its reads stand.
use Rattle.std.proofs.Common.{◌≡◌, ℕ, true, not, [], ◌∷◌, map, suc, ◌+◌, Bool, cond, List, ◌++◌, length, refl, ap, ◌∙◌, arith, false}
use Rattle.std.specs.List.{AllByRecursion}
use Rattle.std.specs.Prelude.{filter}
use Rattle.std.proofs.lemmas.Bool.{not-true}
use Rattle.nr_model.specs.Items.{Deed, Item, Sequence, is_update, Connection, same_connection}
use Rattle.nr_model.specs.Entries.{Jobs}
use Rattle.nr_model.specs.Nodes.Explained.{Placed, placed_all, reads_in}
use Rattle.nr_model.specs.Asked.{own_jobs}

-- all are updates
abbrev pub AreUpdates : Sequence → Type 0
AreUpdates items = AllByRecursion (λ (item : Item). is_update item.deed ≡ true) items

-- all are reads
abbrev pub AreReads : Sequence → Type 0
AreReads items = AllByRecursion (λ (item : Item). not (is_update item.deed) ≡ true) items

-- a job keeps its deed at the moment of its entry
pub All-at_moment : (P : Deed → Type 0) (time : ℕ) (jobs : Jobs) → AllByRecursion (λ (item : Item). P item.deed) jobs
    → AllByRecursion (λ (item : Item). P item.deed) (map {A = Item} (λ job. record job { moment = time }) jobs)
All-at_moment P time [] a = tt
All-at_moment P time (job ∷ jobs) a = (a.0, All-at_moment P time jobs a.1)

-- a filter keeps all that pass
pub all_kept : {A : Type 0} (test : A → Bool) (xs : List A) → AllByRecursion (λ x. test x ≡ true) xs → filter test xs ≡ xs
all_kept test [] a = refl
all_kept test (x ∷ xs) a = ap (λ (b : Bool). cond b (x ∷ filter test xs) (filter test xs)) a.0 ∙ ap (λ ys. x ∷ ys) (all_kept test xs a.1)

-- and drops all that fail
pub none_kept : {A : Type 0} (test : A → Bool) (xs : List A) → AllByRecursion (λ x. not (test x) ≡ true) xs → filter test xs ≡ []
none_kept test [] a = refl
none_kept test (x ∷ xs) a = ap (λ (b : Bool). cond b (x ∷ filter test xs) (filter test xs)) (not-true (test x) a.0) ∙ none_kept test xs a.1

-- the items that are logged
abbrev pub updates : Item → Bool
updates item = is_update item.deed

-- updates are passed by, and counted
pub passed : (n time : ℕ) (jobs : Jobs) (items : Sequence) → AreUpdates jobs
    → reads_in n (map {A = Item} (λ job. record job { moment = time }) jobs ++ items) ≡ reads_in (n + length jobs) items
passed n time [] items a =
    let e : n ≡ n + 0 = omega arith in
    ap (λ (k : ℕ). reads_in k items) e
passed n time (job ∷ jobs) items a =
    let rest = map {A = Item} (λ (j : Item). record j { moment = time }) jobs ++ items in
    let e : (n + 1) + length jobs ≡ n + suc (length jobs) = omega arith in
    ap (λ (b : Bool). cond b (reads_in (n + 1) rest) (record { before = n; item = record job { moment = time } } ∷ reads_in n rest)) a.0
    ∙ passed (n + 1) time jobs items a.1
    ∙ ap (λ (k : ℕ). reads_in k items) e

-- reads stand where they are
pub placed : (n : ℕ) (jobs : Jobs) (items : Sequence) → AreReads jobs → reads_in n (jobs ++ items) ≡ placed_all n jobs ++ reads_in n items
placed n [] items a = refl
placed n (job ∷ jobs) items a =
    let rest = jobs ++ items in
    let here : Placed = record { before = n; item = job } in
    ap (λ (b : Bool). cond b (reads_in (n + 1) rest) (here ∷ reads_in n rest)) (not-true (is_update job.deed) a.0)
    ∙ ap (λ (ps : List Placed). here ∷ ps) (placed n jobs items a.1)

-- the items of a connection have the numbers of its jobs
abbrev pub numbers : Sequence → List ℕ
numbers items = map (λ (item : Item). item.number) items

-- a job keeps its number at the moment of its entry
pub moved_numbers : (c : Connection) (time : ℕ) (jobs : Jobs) → numbers (own_jobs c (map {A = Item} (λ job. record job { moment = time }) jobs)) ≡ numbers (own_jobs c jobs)
moved_numbers c time [] = refl
moved_numbers c time (job ∷ jobs) =
    let moved : Jobs = own_jobs c (map {A = Item} (λ (j : Item). record j { moment = time }) jobs) in
    let ih = moved_numbers c time jobs in
    elim (same_connection job.connection c) as (λ own. numbers (cond own (record job { moment = time } ∷ moved) moved) ≡ numbers (cond own (job ∷ own_jobs c jobs) (own_jobs c jobs))) [
      | true ↦ ap (λ (ns : List ℕ). job.number ∷ ns) ih
      | false ↦ ih
    ]
