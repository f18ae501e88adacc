-- The code's worker stands for the same worker of the law once its jobs wait in another order.
use Rattle.std.proofs.Common.{◌≡◌, ◌<◌, ℕ, Bool, cond, inl, inr, List, [], ◌∷◌, ◌++◌, Contains, refl, ap, sym, ◌∙◌, subst}
use Rattle.std.specs.Prelude.{filter}
use Rattle.std.specs.List.{AllByRecursion}
use Rattle.std.proofs.lemmas.Bool.{cases_Bool}
use Rattle.std.proofs.lemmas.List.{map-append}
use Rattle.std.proofs.lemmas.List.Elements.{filter-append}
use Rattle.nr_model.specs.Items.{Connection, Item, same_connection}
use Rattle.nr_model.specs.Entries.{Jobs}
use Rattle.nr_model.specs.Asked.{own_jobs}
use Rattle.nr_model.proofs.JobLists.{same_self}
use Rattle.nr_model.proofs.NodesExecutedLists.{first_in, in_cases, kept_in, later_in}
use Rattle.nr_entry.specs.Jobs.{item_of, items_of}
use Rattle.nr_entry.specs.declared.job.Job.{Job}
use Rattle.nr_slots.specs.declared.view.WorkerPast.{WorkerPast}
use Rattle.nr_worker.specs.Reading.{Reorders}
use Rattle.nr_worker.specs.Working.{Goes, IsAccountedFor, IsToPost, WorkState, unchanged}
use Rattle.nr_worker.proofs.Batched.{goes_nowhere, late_too}
use Rattle.nr_worker.proofs.Lists.{all_at}
use Rattle.nr_worker.proofs.Portioned.{all_of}

from_kept : (test : Item → Bool) (xs : Jobs) (x : Item) → Contains (filter test xs) x → Contains xs x
from_kept test [] x there = there
from_kept test (y ∷ ys) x there =
    let K : Bool → Type 0 = λ b. Contains (cond b (y ∷ filter test ys) (filter test ys)) x in
    elim (cases_Bool (test y)) [
      | inl own ↦ elim (in_cases x y (filter test ys) (subst K own there)) [
        | inl same ↦ subst (λ (z : Item). Contains (y ∷ ys) z) same (first_in y ys)
        | inr behind ↦ later_in x y ys (from_kept test ys x behind)
      ]
      | inr other ↦ later_in x y ys (from_kept test ys x (subst K other there))
    ]

-- of each connection the same jobs
abbrev AreSame : Jobs → Jobs → Type 0
AreSame xs ys = (c : Connection) → own_jobs c xs ≡ own_jobs c ys

moved : (xs ys : Jobs) → AreSame xs ys → (x : Item) → Contains ys x → Contains xs x
moved xs ys same x there =
    let own : Item → Bool = λ j. same_connection j.connection x.connection in
    from_kept own xs x (subst (λ (l : Jobs). Contains l x) (sym (same x.connection)) (kept_in own ys x there (same_self x.connection)))

all_moved : (P : Item → Type 0) (xs ys : Jobs) → AreSame xs ys → AllByRecursion P ys → AllByRecursion P xs
all_moved P xs ys same all = all_of P xs (λ x there. all_at P ys x all (moved ys xs (λ c. sym (same c)) x there))

accounted_moved : (down : Bool) (xs ys : Jobs) (lane : WorkerPast) (c : Connection) (number : ℕ) → AreSame xs ys → IsAccountedFor down ys lane c number
    → IsAccountedFor down xs lane c number
accounted_moved down xs ys lane c number same (inl is) = inl is
accounted_moved down xs ys lane c number same (inr (inl has)) =
    inr (inl (record { job = has.job; there = moved xs ys same has.job has.there; own = has.own; numbered = has.numbered }))
accounted_moved down xs ys lane c number same (inr (inr underway)) = inr (inr underway)

pub reorders_goes : (v w : WorkState) → Reorders v w → Goes unchanged v w
reorders_goes v w o =
    let xs = items_of w.jobs in
    let ys = items_of v.jobs in
    subst (Goes unchanged v) (sym o.changed) (record {
      leads = λ d led r. record {
        then = d;
        led = led;
        goes = goes_nowhere d;
        reflects = record {
          node = r.node;
          worker = r.worker;
          posted = r.posted;
          heard = r.heard;
          mark = r.mark;
          below = r.below;
          apart = r.apart;
          jobs = all_moved (IsToPost d.served) xs ys o.own r.jobs;
          seats = r.seats;
          numbers = λ c s at.
              let n = r.numbers c s at in
              record { posted = n.posted; waits = all_moved (λ (job : Item). job.connection ≡ c → job.number < s.session.next) xs ys o.own n.waits };
          accounted = λ c s at uncut number below. accounted_moved v.down xs ys v.worker.seat.lane c number o.own (r.accounted c s at uncut number below);
        };
        served = refl;
      };
    })

own_joined : (c : Connection) (xs ys : List Job) → own_jobs c (items_of (xs ++ ys)) ≡ own_jobs c (items_of xs) ++ own_jobs c (items_of ys)
own_joined c xs ys = ap (own_jobs c) (map-append item_of xs ys) ∙ filter-append (λ (job : Item). same_connection job.connection c) (items_of xs) (items_of ys)

pub reordered : (v u : WorkState) (back left jobs : List Job) (late : ℕ) → u ≡ v → u.jobs ≡ back ++ left
    → ((c : Connection) → own_jobs c (items_of jobs) ≡ own_jobs c (items_of left)) → Goes unchanged v (record u { jobs = back ++ jobs; late = late })
reordered v u back left jobs late same are own =
    subst (λ (x : WorkState). Goes unchanged x (record u { jobs = back ++ jobs; late = late })) same
    (late_too unchanged u (record u { jobs = back ++ jobs }) late (reorders_goes u (record u { jobs = back ++ jobs }) (record {
      own = λ c.
          own_joined c back jobs ∙ ap (λ (js : Jobs). own_jobs c (items_of back) ++ js) (own c) ∙ sym (own_joined c back left)
          ∙ ap (λ (js : List Job). own_jobs c (items_of js)) (sym are);
      changed = refl;
    })))
