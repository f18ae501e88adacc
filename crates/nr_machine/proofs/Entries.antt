-- The updates of an entry, one after the other.
use Rattle.std.proofs.Common.{◌≡◌, ℕ, ◌+◌, ◌<◌, ◌≤◌, Bool, true, false, List, [], ◌∷◌, length, drop, get_or, map, refl, ap, sym, ◌∙◌, subst}
use Rattle.std.proofs.lemmas.List.{drop_all}
use Rattle.std.specs.List.{list_all}
use Rattle.std.proofs.lemmas.List.Folds.{list_all-map, list_all_at}
use Rattle.nr_model.specs.Entries.{entry_moment, entry_items}
use Rattle.nr_model.specs.Items.{Item, Sequence, is_update}
use Rattle.nr_model.specs.Sequential.{for_node}
use Rattle.nr_model.specs.Sequential.Events.{Emission}
use Rattle.nr_model.specs.Servers.{Server, stepped, emitted_in, after_all, emitted_all}
use Rattle.nr_entry.specs.Entry.{are_updates}
use Rattle.nr_entry.specs.Jobs.{item_of, items_of}
use Rattle.nr_entry.specs.Kinds.{deed_of}
use Rattle.nr_entry.specs.declared.job.Job.{Job}
use Rattle.nr_emission.specs.Emitted as emitted
use Rattle.nr_emission.proofs.Sent.{IsFront, Sent, none_sent, sent_more, all_sent, front_more, cut}
use Rattle.nr_machine.specs.Placed.{item_at, items_at}

-- the items of an entry are those of its jobs at its moment
pub items_at-entry : (jobs : List Job) (moment : ℕ) → moment ≡ entry_moment (items_of jobs) → items_at jobs moment ≡ entry_items (items_of jobs)
items_at-entry jobs moment latest = each jobs ∙ ap (λ (m : ℕ). map {A = Item} (λ item. record item { moment = m }) (items_of jobs)) latest
  where
    each : (xs : List Job) → items_at xs moment ≡ map {A = Item} (λ item. record item { moment = moment }) (items_of xs)
    each [] = refl
    each (x ∷ xs) = ap (λ (items : List Item). item_at x moment ∷ items) (each xs)

-- each job of updates is one
pub updates_at : (jobs : List Job) (i : ℕ) (job : Job) → are_updates (items_of jobs) ≡ true → i < length jobs → job ≡ get_or jobs i job → is_update (deed_of job.kind) ≡ true
updates_at jobs i job updates below at = decide (is_update (deed_of job.kind)) refl
  where
    decide : (b : Bool) → is_update (deed_of job.kind) ≡ b → is_update (deed_of job.kind) ≡ true
    decide true e = e
    decide false e =
        let none : list_all (λ (j : Job). is_update (deed_of j.kind)) jobs ≡ false =
        list_all_at (λ (j : Job). is_update (deed_of j.kind)) jobs i job below (ap (λ (j : Job). is_update (deed_of j.kind)) (sym at) ∙ e) in
        let all : list_all (λ (j : Job). is_update (deed_of j.kind)) jobs ≡ true = sym (list_all-map (λ (item : Item). is_update item.deed) item_of jobs) ∙ updates in
        absurd (cc)

-- What was emitted from a state on, and what the rest will emit from now on, is what the whole emits; and so it is with the states.
pub record Along {S : Type 0} (after : S → Emission → S) (node : ℕ) (old now : Server) (before here : S) (whole : Sequence) (rest : List Job) (moment : ℕ) : Type 0 where
  pub state : after_all now (items_at rest moment) ≡ after_all old whole
  pub sent : Sent after node before here (emitted_all old whole) (emitted_all now (items_at rest moment))

-- before any job
pub none_yet : {S : Type 0} (after : S → Emission → S) (node : ℕ) (old now : Server) (before : S) (whole : Sequence) (jobs : List Job) (moment : ℕ) → now ≡ old → items_at jobs moment ≡ whole
    → Along after node old now before before whole (drop 0 jobs) moment
none_yet after node old now before whole jobs moment same all =
    let is : emitted_all now (items_at jobs moment) ≡ emitted_all old whole = ap (λ (s : Server). emitted_all s (items_at jobs moment)) same ∙ ap (emitted_all old) all in
    record {
      state = ap (λ (s : Server). after_all s (items_at jobs moment)) same ∙ ap (after_all old) all;
      sent = subst (λ (rest : List Emission). Sent after node before before (emitted_all old whole) rest) (sym is) (none_sent after node before (emitted_all old whole));
    }

begins : (jobs : List Job) (moment i : ℕ) (job : Job) → i < length jobs → job ≡ get_or jobs i job → items_at (drop i jobs) moment ≡ item_at job moment ∷ items_at (drop (i + 1) jobs) moment
begins jobs moment i job below at = ap (λ (js : List Job). items_at js moment) (cut jobs i job below at)

-- one job further
pub one_further : {S : Type 0} (after : S → Emission → S) (node : ℕ) (old now new : Server) (before here later : S) (whole : Sequence) (jobs : List Job) (moment i : ℕ) (job : Job)
    → i < length jobs → job ≡ get_or jobs i job → new ≡ stepped now (item_at job moment) → later ≡ emitted.all_after after here (for_node node (emitted_in now (item_at job moment)))
    → Along after node old now before here whole (drop i jobs) moment → Along after node old new before later whole (drop (i + 1) jobs) moment
one_further after node old now new before here later whole jobs moment i job below at is more along =
    let one = emitted_in now (item_at job moment) in
    let rest = items_at (drop (i + 1) jobs) moment in
    let parts = begins jobs moment i job below at in
    record {
      state = ap (λ (s : Server). after_all s rest) is ∙ sym (ap (after_all now) parts) ∙ along.state;
      sent =
          subst (λ (s : Server). Sent after node before later (emitted_all old whole) (emitted_all s rest)) (sym is)
          (sent_more after node before here later (emitted_all old whole) one (emitted_all (stepped now (item_at job moment)) rest) more
          (subst (λ (items : Sequence). Sent after node before here (emitted_all old whole) (emitted_all now items)) parts along.sent));
    }

-- past the last job
pub no_further : {S : Type 0} (after : S → Emission → S) (node : ℕ) (old now : Server) (before here : S) (whole : Sequence) (jobs : List Job) (moment i : ℕ) → length jobs ≤ i
    → Along after node old now before here whole (drop i jobs) moment → (now ≡ after_all old whole) × (here ≡ emitted.all_after after before (for_node node (emitted_all old whole)))
no_further after node old now before here whole jobs moment i past along =
    let none : items_at (drop i jobs) moment ≡ [] = ap (λ (js : List Job). items_at js moment) (drop_all i jobs past) in (
      sym (ap (after_all now) none) ∙ along.state,
      all_sent after node before here (emitted_all old whole) (subst (λ (items : Sequence). Sent after node before here (emitted_all old whole) (emitted_all now items)) none along.sent),
    )

-- what was sent before a refusal, and by the job that was refused, is a front of all
pub so_far : {S : Type 0} (after : S → Emission → S) (node : ℕ) (old now : Server) (before here later : S) (whole : Sequence) (jobs : List Job) (moment i : ℕ) (job : Job)
    → i < length jobs → job ≡ get_or jobs i job → IsFront after here later (for_node node (emitted_in now (item_at job moment)))
    → Along after node old now before here whole (drop i jobs) moment → IsFront after before later (for_node node (emitted_all old whole))
so_far after node old now before here later whole jobs moment i job below at some along =
    front_more after node before here later (emitted_all old whole) (emitted_in now (item_at job moment)) (emitted_all (stepped now (item_at job moment)) (items_at (drop (i + 1) jobs) moment)) some
    (subst (λ (items : Sequence). Sent after node before here (emitted_all old whole) (emitted_all now items)) (begins jobs moment i job below at) along.sent)
