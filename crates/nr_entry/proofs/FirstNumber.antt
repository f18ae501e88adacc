-- The number of the first job of a connection, run by run.
use Rattle.std.proofs.Common.{◌≡◌, ℕ, ◌+◌, ◌<◌, Bool, true, false, List, [], ◌∷◌, ◌++◌, length, drop, get_or, refl, sym, ap, subst, ◌∙◌}
use Rattle.std.specs.Prelude.{Some, None, ◌&&◌}
use Rattle.std.proofs.lemmas.List.{map-append, at_drop_more}
use Rattle.std.proofs.lemmas.List.Elements.{filter-append}
use Rattle.nr_model.specs.Items.{Connection, Item, same_connection}
use Rattle.nr_model.specs.Entries.{Jobs}
use Rattle.nr_model.specs.Asked.{own_jobs, first_number}
use Rattle.nr_model.proofs.JobLists.{same_is, filter-drops}
use Rattle.nr_entry.specs.declared.job.Job.{Job}
use Rattle.nr_entry.specs.declared.run.Run.{Run}
use Rattle.nr_entry.specs.Jobs.{connection_of, item_of, items_of}
use Rattle.nr_entry.specs.Waiting.{are_from}
use Rattle.nr_entry.specs.Runs.{jobs_in}

both : (a b : Bool) → (a && b) ≡ true → (a ≡ true) × (b ≡ true)
both true b e = (refl, e)
both false b e = absurd (cc e)

first_some : (a b : Jobs) (n : ℕ) → first_number a ≡ Some n → first_number (a ++ b) ≡ Some n
first_some [] b n e = absurd (cc e)
first_some (x ∷ a) b n e = e

first_none : (a b : Jobs) → first_number a ≡ None → first_number (a ++ b) ≡ first_number b
first_none [] b e = refl
first_none (x ∷ a) b e = absurd (cc e)

own_joined : (c : Connection) (xs ys : List Job) → own_jobs c (items_of (xs ++ ys)) ≡ own_jobs c (items_of xs) ++ own_jobs c (items_of ys)
own_joined c xs ys = ap (own_jobs c) (map-append item_of xs ys) ∙ filter-append (λ (j : Item). same_connection j.connection c) (items_of xs) (items_of ys)

-- none of the jobs of another connection are its own
none_own : (c d : Connection) (jobs : List Job) → same_connection d c ≡ false → are_from d (items_of jobs) ≡ true → own_jobs c (items_of jobs) ≡ []
none_own c d [] other from = refl
none_own c d (x ∷ jobs) other from =
    let parts = both (same_connection (connection_of x.conn) d) (are_from d (items_of jobs)) from in
    filter-drops (λ (j : Item). same_connection j.connection c) (item_of x) (items_of jobs) (subst (λ (e : Connection). same_connection e c ≡ false) (sym (same_is (connection_of x.conn) d parts.0)) other)
    ∙ none_own c d jobs other parts.1

pub no_number : (c d : Connection) (jobs : List Job) → same_connection d c ≡ false → are_from d (items_of jobs) ≡ true → None ≡ first_number (own_jobs c (items_of jobs))
no_number c d jobs other from = sym (ap first_number (none_own c d jobs other from))

-- a run more, in which there is one, or none
pub found_here : (c : Connection) (runs : List Run) (i : ℕ) (run : Run) (n : ℕ) → i < length runs → run ≡ get_or runs i run → first_number (own_jobs c (items_of run.jobs.items)) ≡ Some n
    → first_number (own_jobs c (items_of (jobs_in (drop i runs)))) ≡ Some n
found_here c runs i run n lt is here =
    let e : drop i runs ≡ run ∷ drop (i + 1) runs = at_drop_more (λ (t : List Run). t) runs i run lt ∙ ap (λ (q : Run). q ∷ drop (i + 1) runs) (sym is) in
    ap (λ (t : List Run). first_number (own_jobs c (items_of (jobs_in t)))) e
    ∙ ap first_number (own_joined c run.jobs.items (jobs_in (drop (i + 1) runs)))
    ∙ first_some _ _ n here

pub found_behind : (c : Connection) (runs : List Run) (i : ℕ) (run : Run) → i < length runs → run ≡ get_or runs i run → first_number (own_jobs c (items_of run.jobs.items)) ≡ None
    → first_number (own_jobs c (items_of (jobs_in (drop i runs)))) ≡ first_number (own_jobs c (items_of (jobs_in (drop (i + 1) runs))))
found_behind c runs i run lt is here =
    let e : drop i runs ≡ run ∷ drop (i + 1) runs = at_drop_more (λ (t : List Run). t) runs i run lt ∙ ap (λ (q : Run). q ∷ drop (i + 1) runs) (sym is) in
    ap (λ (t : List Run). first_number (own_jobs c (items_of (jobs_in t)))) e
    ∙ ap first_number (own_joined c run.jobs.items (jobs_in (drop (i + 1) runs)))
    ∙ first_none _ _ here
