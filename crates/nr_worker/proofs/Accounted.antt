-- No job that was asked for is lost at a worker.
use Rattle.std.proofs.Common.{zero, suc, ◌≡◌, ℕ, ◌+◌, ◌<◌, ◌≤◌, inl, inr, Bool, true, false, cond, List, [], ◌∷◌, ◌++◌, length, Contains, Option, Some, None, refl, ap, sym, ◌∙◌, subst, arith, append_assoc}
use Rattle.std.specs.Prelude.{◌==◌, ◌||◌, ◌⊎◌, nat_le, get_or}
use Rattle.std.specs.List.{AllByRecursion, slice_get}
use Rattle.std.proofs.Math.Seq.{get_or-append_seam}
use Rattle.std.proofs.lemmas.Bool.{cases_lt}
use Rattle.std.proofs.lemmas.List.{length-append, map-append}
use Rattle.std.proofs.lemmas.List.Elements.{Contains-append_cases, Contains-append_left, Contains-append_right}
use Rattle.nr_model.specs.Items.{Connection, Item}
use Rattle.nr_model.specs.Entries.{Jobs}
use Rattle.nr_model.proofs.NodesExecutedLists.{first_in, in_cases, later_in, some_in}
use Rattle.nr_entry.specs.Jobs.{item_of, items_of}
use Rattle.nr_entry.specs.declared.batch.Answer.{Answer}
use Rattle.nr_entry.specs.declared.batch.Batch.{Batch}
use Rattle.nr_entry.specs.declared.batch.Outcome.{Outcome}
use Rattle.nr_entry.specs.declared.batch.Outcome.TheVariants as outcomes
use Rattle.nr_entry.specs.declared.job.Job.{Job}
use Rattle.nr_slots.specs.declared.view.WorkerPast.{WorkerPast}
use Rattle.nr_slots.specs.Names.{IsBackOf, IsForLast}
use Rattle.nr_worker.specs.Seated.{OpenConnectionState}
use Rattle.nr_worker.specs.Placed.{OpenConnectionsState, seat_at}
use Rattle.nr_worker.specs.Portions.{PortionArrival, EachSeat, GrowsHere, arrivals_at}
use Rattle.nr_worker.specs.Worker.{CountsFrom}
use Rattle.nr_worker.specs.Settling.{back_of, down_of, left_of}
use Rattle.nr_worker.specs.Working.{AreAccountedFor, HasNumber, IsAccountedFor, IsNoOther, IsUnderway}
use Rattle.nr_worker.proofs.Lists.{above}

-- ---- by number
in_front : (c : Connection) (n : ℕ) (xs ys : Jobs) → HasNumber c n xs → HasNumber c n (xs ++ ys)
in_front c n xs ys h = record { job = h.job; there = Contains-append_left xs ys h.job h.there; own = h.own; numbered = h.numbered }

in_back : (c : Connection) (n : ℕ) (xs ys : Jobs) → HasNumber c n ys → HasNumber c n (xs ++ ys)
in_back c n xs ys h = record { job = h.job; there = Contains-append_right xs ys h.job h.there; own = h.own; numbered = h.numbered }

in_one : (c : Connection) (n : ℕ) (xs ys : Jobs) → HasNumber c n (xs ++ ys) → HasNumber c n xs ⊎ HasNumber c n ys
in_one c n xs ys h = elim (Contains-append_cases xs ys h.job h.there) [
  | inl front ↦ inl (record { job = h.job; there = front; own = h.own; numbered = h.numbered })
  | inr back ↦ inr (record { job = h.job; there = back; own = h.own; numbered = h.numbered })
]

later_number : (c : Connection) (n : ℕ) (job : Item) (jobs : Jobs) → HasNumber c n jobs → HasNumber c n (job ∷ jobs)
later_number c n job jobs h = record { job = h.job; there = later_in h.job job jobs h.there; own = h.own; numbered = h.numbered }

-- jobs of a connection that count up have each number
counted_has : (c : Connection) (m n : ℕ) (jobs : Jobs) → CountsFrom m jobs → AllByRecursion (λ (job : Item). job.connection ≡ c) jobs → m ≤ n
    → n < m + length jobs → HasNumber c n jobs
counted_has c m n [] counts own from below = absurd (omega (arith, from, below))
counted_has c m n (job ∷ jobs) counts own from below = elim (cases_lt m n) [
  | inl more ↦ later_number c n job jobs (counted_has c (m + 1) n jobs counts.1 own.1 (omega (arith, more)) (omega (arith, below)))
  | inr first ↦ record { job = job; there = first_in job jobs; own = own.0; numbered = let a = counts.0 in omega (arith, from, first, a) }
]

-- and one for each
pub same_number : (m : ℕ) (jobs : Jobs) (a b : Item) → CountsFrom m jobs → Contains jobs a → Contains jobs b → a.number ≡ b.number → a ≡ b
same_number m [] a b counts at_a at_b same = absurd (some_in [] a refl at_a)
same_number m (job ∷ jobs) a b counts at_a at_b same = elim (in_cases a job jobs at_a) [
  | inl is_a ↦ elim (in_cases b job jobs at_b) [
    | inl is_b ↦ sym is_a ∙ is_b
    | inr later_b ↦ absurd (
        let far = above (m + 1) jobs b counts.1 later_b in
        let here = ap (λ (i : Item). i.number) is_a in
        let first = counts.0 in omega (arith, far, here, first, same)
        )
  ]
  | inr later_a ↦ elim (in_cases b job jobs at_b) [
    | inl is_b ↦ absurd (
        let far = above (m + 1) jobs a counts.1 later_a in
        let here = ap (λ (i : Item). i.number) is_b in
        let first = counts.0 in omega (arith, far, here, first, same)
        )
    | inr later_b ↦ same_number (m + 1) jobs a b counts.1 later_a later_b same
  ]
]

-- a number of some that count up is below their end
pub below_end : (m : ℕ) (jobs : Jobs) (job : Item) → CountsFrom m jobs → Contains jobs job → job.number < m + length jobs
below_end m [] job counts there = absurd (some_in [] job refl there)
below_end m (x ∷ jobs) job counts there = elim (in_cases job x jobs there) [
  | inl is ↦ let a = counts.0 in let b = ap (λ (i : Item). i.number) is in omega (arith, a, b)
  | inr later ↦ let a = below_end (m + 1) jobs job counts.1 later in omega (arith, a)
]

-- ---- answers
-- one more
no_other_more : (xs : List Answer) (x : Answer) (k : ℕ) → (k ≡ length xs → x.outcome ≡ outcomes.Executed) → IsNoOther (slice_get xs k)
    → IsNoOther (slice_get (xs ++ x ∷ []) k)
no_other_more [] x zero last h = last refl
no_other_more [] x (suc k) last h = tt
no_other_more (y ∷ xs) x zero last h = h
no_other_more (y ∷ xs) x (suc k) last h = no_other_more xs x k (λ e. last (ap suc e)) h

-- none yet
no_answer : (xs : List Answer) (k : ℕ) → k ≡ length xs → IsNoOther (slice_get xs k)
no_answer [] k e = tt
no_answer (x ∷ xs) zero e = absurd (omega (arith, e))
no_answer (x ∷ xs) (suc k) e = no_answer xs k (omega (arith, e))

-- each was collected
pub answer_at : (xs : List Answer) (k : ℕ) → k < length xs → IsNoOther (slice_get xs k)
    → (answer : Answer) × (slice_get xs k ≡ Some answer) × (answer.outcome ≡ outcomes.Executed)
answer_at [] k within h = absurd (omega (arith, within))
answer_at (x ∷ xs) zero within h = (x, refl, h)
answer_at (x ∷ xs) (suc k) within h = answer_at xs k (omega (arith, within)) h

-- ---- more jobs wait
pub accounted_more : (down : Bool) (waits more : Jobs) (lane : WorkerPast) (c : Connection) (n : ℕ) → IsAccountedFor down waits lane c n
    → IsAccountedFor down (waits ++ more) lane c n
accounted_more down waits more lane c n (inl is) = inl is
accounted_more down waits more lane c n (inr (inl waiting)) = inr (inl (in_front c n waits more waiting))
accounted_more down waits more lane c n (inr (inr underway)) = inr (inr underway)

-- those of a feed
pub accounted_fed : (down : Bool) (waits more : Jobs) (lane : WorkerPast) (c : Connection) (from n : ℕ) → CountsFrom from more
    → AllByRecursion (λ (job : Item). job.connection ≡ c) more → n < from + length more → (n < from → IsAccountedFor down waits lane c n)
    → IsAccountedFor down (waits ++ more) lane c n
accounted_fed down waits more lane c from n counts own below was = elim (cases_lt n from) [
  | inl old ↦ accounted_more down waits more lane c n (was old)
  | inr new ↦ inr (inl (in_back c n waits more (counted_has c from n more counts own new below)))
]

-- ---- a batch is posted
abbrev pub lane_with : Batch → WorkerPast → WorkerPast
lane_with batch lane = record { posted = lane.posted ++ batch ∷ []; collected = lane.collected; hand = lane.hand }

still_underway : (lane : WorkerPast) (batch : Batch) (c : Connection) (n : ℕ) → IsUnderway lane c n → IsUnderway (lane_with batch lane) c n
still_underway lane batch c n u = record {
  before = u.before;
  batch = u.batch;
  after = u.after ++ batch ∷ [];
  posted = ap (λ (bs : List Batch). bs ++ batch ∷ []) u.posted ∙ append_assoc u.before (u.batch ∷ u.after) (batch ∷ []);
  answered = u.answered;
  has = u.has;
}

new_underway : (lane : WorkerPast) (batch : Batch) (c : Connection) (n : ℕ) → length lane.posted ≡ length lane.collected
    → HasNumber c n (items_of batch.jobs.items) → IsUnderway (lane_with batch lane) c n
new_underway lane batch c n all has = record {
  before = lane.posted;
  batch = batch;
  after = [];
  posted = refl;
  answered = no_answer lane.collected (length lane.posted) all;
  has = has;
}

pub accounted_posted : (down : Bool) (jobs left : List Job) (lane : WorkerPast) (batch : Batch) (c : Connection) (n : ℕ) → jobs ≡ batch.jobs.items ++ left
    → length lane.posted ≡ length lane.collected → IsAccountedFor down (items_of jobs) lane c n
    → IsAccountedFor down (items_of left) (lane_with batch lane) c n
accounted_posted down jobs left lane batch c n are all (inl is) = inl is
accounted_posted down jobs left lane batch c n are all (inr (inl waiting)) =
    let some = items_of batch.jobs.items in
    let here = subst (HasNumber c n) (ap items_of are ∙ map-append item_of batch.jobs.items left) waiting in
    elim (in_one c n some (items_of left) here) [
      | inl mine ↦ inr (inr (new_underway lane batch c n all mine))
      | inr others ↦ inr (inl others)
    ]
accounted_posted down jobs left lane batch c n are all (inr (inr underway)) = inr (inr (still_underway lane batch c n underway))

-- ---- an answer is collected
module _ (lane after : WorkerPast) (answer : Answer) (last : IsForLast answer lane.posted lane.collected) (posted : after.posted ≡ lane.posted)
    (collected : after.collected ≡ lane.collected ++ answer ∷ []) (c : Connection) (n : ℕ) where
  stays_underway : (u : IsUnderway lane c n) → (length u.before ≡ length lane.collected → answer.outcome ≡ outcomes.Executed) → IsUnderway after c n
  stays_underway u executed = record {
    before = u.before;
    batch = u.batch;
    after = u.after;
    posted = posted ∙ u.posted;
    answered = subst (λ (xs : List Answer). IsNoOther (slice_get xs (length u.before))) (sym collected)
        (no_other_more lane.collected answer (length u.before) executed u.answered);
    has = u.has;
  }

  -- the batch that was posted last
  same_last : (before : List Batch) (batch : Batch) → lane.posted ≡ before ++ batch ∷ [] → batch ≡ last.1
  same_last before batch is =
      let both : before ++ batch ∷ [] ≡ last.0 ++ last.1 ∷ [] = sym is ∙ last.2 in
      let here = length-append before (batch ∷ []) in
      let there = length-append last.0 (last.1 ∷ []) in
      let alike = ap length both in
      let long : length before ≡ length last.0 = omega (arith, here, there, alike) in
      sym (get_or-append_seam before batch [] batch) ∙ ap (λ (bs : List Batch). get_or bs (length before) batch) both
      ∙ ap (λ k. get_or (last.0 ++ last.1 ∷ []) k batch) long ∙ get_or-append_seam last.0 last.1 [] batch

  -- a job of it comes back, and one of an earlier batch stays
  handed_back : (waits : Jobs) (back : List Job) → back ≡ last.1.jobs.items → (u : IsUnderway lane c n) → (later : List Batch) → u.after ≡ later
      → HasNumber c n (items_of back ++ waits) ⊎ IsUnderway after c n
  handed_back waits back is u [] none =
      let same = same_last u.before u.batch (u.posted ∙ ap (λ (bs : List Batch). u.before ++ u.batch ∷ bs) none) in
      inl (in_front c n (items_of back) waits
      (subst (λ (js : List Job). HasNumber c n (items_of js)) (sym is) (subst (λ (b : Batch). HasNumber c n (items_of b.jobs.items)) same u.has)))
  handed_back waits back is u (x ∷ later) some =
      let long = ap length u.posted ∙ length-append u.before (u.batch ∷ u.after) in
      let more = ap length some in
      let whole = ap length last.2 ∙ length-append last.0 (last.1 ∷ []) in
      let answers = last.3 in
      inr (stays_underway u (λ e. absurd (omega (arith, long, more, whole, answers, e))))

  came_back : (down : Bool) (jobs back : List Job) → back ≡ last.1.jobs.items → IsAccountedFor down (items_of jobs) lane c n
      → IsAccountedFor down (items_of (back ++ jobs)) after c n
  came_back down jobs back is (inl d) = inl d
  came_back down jobs back is (inr (inl waiting)) =
      inr (inl (subst (HasNumber c n) (sym (map-append item_of back jobs)) (in_back c n (items_of back) (items_of jobs) waiting)))
  came_back down jobs back is (inr (inr underway)) = elim (handed_back (items_of jobs) back is underway underway.after refl) [
    | inl waits ↦ inr (inl (subst (HasNumber c n) (sym (map-append item_of back jobs)) waits))
    | inr still ↦ inr (inr still)
  ]

  pub accounted_settled : (most : ℕ) (outcome : Outcome) (down : Bool) (jobs : List Job) → answer.outcome ≡ outcome
      → IsAccountedFor down (items_of jobs) lane c n
      → IsAccountedFor (down_of most outcome down) (items_of (back_of most outcome ++ left_of most outcome jobs)) after c n
  accounted_settled most outcomes.Executed down jobs says (inl d) = inl d
  accounted_settled most outcomes.Executed down jobs says (inr (inl waiting)) = inr (inl waiting)
  accounted_settled most outcomes.Executed down jobs says (inr (inr underway)) = inr (inr (stays_underway underway (λ e. says)))
  accounted_settled most outcomes.Down down jobs says is = inl refl
  accounted_settled most (outcomes.Refused why back) down jobs says is =
      let same : back.items ≡ last.1.jobs.items = subst (λ (o : Outcome). IsBackOf o last.1.jobs.items) says last.4.3 in
      elim (nat_le (length back.items) most) as
      (λ b. IsAccountedFor (cond b down true) (items_of (cond b back.items [] ++ cond b jobs [])) after c n) [
        | true ↦ came_back down jobs back.items same is
        | false ↦ inl refl
      ]

-- ---- what is handed out changes nothing of it
open_before : (a b t : Bool) → t ≡ (a || b) → t ≡ false → a ≡ false
open_before true b t is uncut = absurd (cc (sym is ∙ uncut))
open_before false b t is uncut = refl

grown_here : (down : Bool) (waits : Jobs) (lane : WorkerPast) (c : Connection) (limit : ℕ) (xs : List PortionArrival) (o n : Option OpenConnectionState) → GrowsHere limit xs o n
    → ((s : OpenConnectionState) → o ≡ Some s → AreAccountedFor down waits lane c s) → (t : OpenConnectionState) → n ≡ Some t → AreAccountedFor down waits lane c t
grown_here down waits lane c limit xs None None grows was t is = absurd (cc is)
grown_here down waits lane c limit xs None (Some u) grows was t is = absurd grows
grown_here down waits lane c limit xs (Some s) None grows was t is = absurd grows
grown_here down waits lane c limit xs (Some s) (Some u) grows was t is =
    let same : u ≡ t = ap (λ (o : Option OpenConnectionState). elim o [ None ↦ u | Some z ↦ z ]) is in
    subst (AreAccountedFor down waits lane c) same
    (λ uncut number below.
    was s refl (open_before s.cut _ u.cut grows.cut uncut) number (subst (λ k. number < k) (ap (λ x. x.next) grows.session) below))

pub accounted_grown : (down : Bool) (waits : Jobs) (lane : WorkerPast) (node limit : ℕ) (xs : List PortionArrival) (old new : OpenConnectionsState)
    → ((q : ℕ) → GrowsHere limit (arrivals_at q xs) (seat_at q old) (seat_at q new)) → EachSeat (AreAccountedFor down waits lane) node old
    → EachSeat (AreAccountedFor down waits lane) node new
accounted_grown down waits lane node limit xs old new at was = λ c. elim (c.node == node) as
    (λ b. ((s : OpenConnectionState) → cond b (seat_at c.serial old) None ≡ Some s → AreAccountedFor down waits lane c s)
    → (t : OpenConnectionState) → cond b (seat_at c.serial new) None ≡ Some t → AreAccountedFor down waits lane c t) [
      | true ↦ grown_here down waits lane c limit (arrivals_at c.serial xs) (seat_at c.serial old) (seat_at c.serial new) (at c.serial)
      | false ↦ λ each t is. absurd (cc is)
    ] (was c)
