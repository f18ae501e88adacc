-- A job of which the answer, or the last byte, was handed out stands before each that was asked for later.
use Rattle.std.proofs.Common.{◌≡◌, ℕ, suc, ◌+◌, ◌-◌, ◌<◌, ◌≤◌, inl, inr, List, [], ◌∷◌, ◌++◌, length, take, drop, get_or, refl, ap, sym, ◌∙◌, subst, arith, append_assoc, Contains, drop-cons}
use Rattle.std.specs.Prelude.{flat_map}
use Rattle.std.proofs.lemmas.List.{length-append, length-map, drop-append-le}
use Rattle.std.proofs.lemmas.List.Elements.{Contains-append_left, Contains-append_cases}
use Rattle.std.proofs.Math.Seq.{take-append-add}
use Rattle.nr_model.specs.Items.{Connection, same_connection, Item, Sequence}
use Rattle.nr_model.specs.Sequential.{bytes_for, emitted_for}
use Rattle.nr_model.specs.Servers.{fresh as fresh_server, after_all, emitted_all}
use Rattle.nr_model.specs.Entries.{Jobs}
use Rattle.nr_model.specs.Connections.{Setup, handed_to}
use Rattle.nr_model.specs.Asked.{own_jobs}
use Rattle.nr_model.specs.Bytes.{IsBeginningOf}
use Rattle.nr_model.specs.Nodes.{Taken, Entry, Reads, World, fresh, items_taken, jobs_taken, sequence_of}
use Rattle.nr_model.specs.Nodes.Pasts.{Event, AreEvents, world_after, handed_in}
use Rattle.nr_model.specs.Nodes.Explained.{jobs_executed, asked_jobs, waiting_for, account_of, StandsBefore, IsHandedOut, IsInTime}
use Rattle.nr_model.proofs.JobLists.{same_self}
use Rattle.nr_model.proofs.Emitted.{emitted_for-more}
use Rattle.nr_model.proofs.NodesSteps.{are_first}
use Rattle.nr_model.proofs.NodesExecuted.{are_executed}
use Rattle.nr_model.proofs.NodesExecutedLists.{stands, kept_in, lt_or_le}
use Rattle.nr_model.proofs.NodesExecutedGrows.{Grows, grows, grown_jobs, grown_sequence}

-- one of the first part stands before one of the second
stands_before : (xs ys : Jobs) (x y : Item) → Contains xs x → Contains ys y → StandsBefore x y (xs ++ ys)
stands_before xs ys x y first second =
    let a = stands xs x first in
    let b = stands ys y second in
    let both : xs ++ ys ≡ (a.front ++ x ∷ a.back) ++ (b.front ++ y ∷ b.back) = λ i. a.is i ++ b.is i in
    let apart : (a.front ++ x ∷ a.back) ++ (b.front ++ y ∷ b.back) ≡ ((a.front ++ x ∷ a.back) ++ b.front) ++ (y ∷ b.back) =
    sym (append_assoc (a.front ++ x ∷ a.back) b.front (y ∷ b.back)) in
    let joined : (a.front ++ x ∷ a.back) ++ b.front ≡ a.front ++ x ∷ (a.back ++ b.front) = append_assoc a.front (x ∷ a.back) b.front in
    record {
      front = a.front;
      between = a.back ++ b.front;
      back = b.back;
      stand = both ∙ apart ∙ ap (λ (js : Jobs). js ++ (y ∷ b.back)) joined;
    }

-- as many items as jobs
items_for : (taken : Taken) → length (items_taken taken) ≡ length (jobs_taken taken)
items_for (Entry node jobs) = length-map jobs _
items_for (Reads node count jobs) = refl

pub items_for_all : (taken : List Taken) → length (flat_map items_taken taken) ≡ length (flat_map jobs_taken taken)
items_for_all [] = refl
items_for_all (t ∷ taken) =
    length-append (items_taken t) (flat_map items_taken taken)
    ∙ (λ i. items_for t i + items_for_all taken i)
    ∙ sym (length-append (jobs_taken t) (flat_map jobs_taken taken))

-- an executed job was asked for
asked_for : (old : World) (y : Item) → ((c : Connection) → IsBeginningOf (own_jobs c (jobs_executed old)) (asked_jobs old c))
    → Contains (jobs_executed old) y → Contains (asked_jobs old y.connection) y
asked_for old y own h =
    let c = y.connection in
    let beginning = own c in
    let here = kept_in (λ (j : Item). same_connection j.connection c) (jobs_executed old) y h (same_self c) in
    subst (λ (js : Jobs). Contains js y) beginning.1 (Contains-append_left (own_jobs c (jobs_executed old)) beginning.0 y here)

-- a job that was executed then stands before one that was asked for later
executed_before : (old new : World) (x y : Item) → Grows old new → ((c : Connection) → IsBeginningOf (own_jobs c (jobs_executed old)) (asked_jobs old c))
    → Contains (jobs_executed old) x → Contains (jobs_executed new) y → (Contains (asked_jobs old y.connection) y → ⊥) → StandsBefore x y (jobs_executed new)
executed_before old new x y grown own early late unasked =
    let more = grown_jobs old new grown in
    let split : Contains (jobs_executed old ++ more.0) y = subst (λ (js : Jobs). Contains js y) (sym more.1) late in
    elim (Contains-append_cases (jobs_executed old) more.0 y split) [
      | inl then_there ↦ absurd (unasked (asked_for old y own then_there))
      | inr behind ↦ subst (StandsBefore x y) more.1 (stands_before (jobs_executed old) more.0 x y early behind)
    ]

-- a longer sequence emits no less
emits_more : (c : Connection) (items more : Sequence) → length (emitted_for c items) ≤ length (emitted_for c (items ++ more))
emits_more c items more =
    let long = ap length (emitted_for-more c items more) in
    let parts = length-append (emitted_for c items) (bytes_for c (emitted_all (after_all fresh_server items) more)) in
    omega arith

-- nor does a beginning of it that is longer than the other
emits_behind : (c : Connection) (items more : Sequence) (place : ℕ) → length items ≤ place
    → length (emitted_for c items) ≤ length (emitted_for c (take place (items ++ more)))
emits_behind c items more place long =
    let e : length items + (place - length items) ≡ place = omega arith in
    subst (λ (s : Sequence). length (emitted_for c items) ≤ length (emitted_for c s))
    (sym (take-append-add items more (place - length items)) ∙ ap (λ (n : ℕ). take n (items ++ more)) e)
    (emits_more c items (take (place - length items) more))

-- what stands at a place of a front
within_front : (xs more : Jobs) (place : ℕ) (x : Item) (behind : Jobs) → place < length xs → drop place (xs ++ more) ≡ x ∷ behind → Contains xs x
within_front xs more place x behind below is =
    let apart : drop place (xs ++ more) ≡ drop place xs ++ more = drop-append-le place xs more (omega arith) in
    let first : drop place xs ≡ get_or xs place x ∷ drop (suc place) xs = drop-cons xs place x below in
    let all : get_or xs place x ∷ (drop (suc place) xs ++ more) ≡ x ∷ behind = sym (ap (λ (js : Jobs). js ++ more) first) ∙ sym apart ∙ is in
    let here : get_or xs place x ≡ x = cc in
    (place, below, here)

-- a job whose last byte was handed out was executed by then
handed_then : (old new : World) (before : List Event) (x : Item) → Grows old new
    → IsBeginningOf (account_of before old x.connection) (emitted_for x.connection (sequence_of old))
    → IsHandedOut before (sequence_of new) (jobs_executed new) x → Contains (jobs_executed old) x
handed_then old new before x grown accounted h =
    let c = x.connection in
    let jobs = grown_jobs old new grown in
    let items = grown_sequence old new grown in
    let as_many : length (sequence_of old) ≡ length (jobs_executed old) = items_for_all old.taken in
    let there : drop h.place (jobs_executed old ++ jobs.0) ≡ x ∷ h.behind = ap (drop h.place) jobs.1 ∙ h.is_there in
    elim (lt_or_le h.place (length (jobs_executed old))) [
      | inl below ↦ within_front (jobs_executed old) jobs.0 h.place x h.behind below there
      | inr beyond ↦
          let least : length (emitted_for c (sequence_of old)) ≤ length (emitted_for c (take h.place (sequence_of old ++ items.0))) =
          emits_behind c (sequence_of old) items.0 h.place (omega arith) in
          let least' : length (emitted_for c (sequence_of old)) ≤ length (emitted_for c (take h.place (sequence_of new))) =
          subst (λ (s : Sequence). length (emitted_for c (sequence_of old)) ≤ length (emitted_for c (take h.place s))) items.1 least in
          let whole = ap length accounted.1 in
          let part = length-append (account_of before old c) accounted.0 in
          let handed = length-append (handed_to c (handed_in before)) (waiting_for old c) in
          let some = h.some in
          let all = h.handed in
          absurd (omega arith)
    ]

-- what each past tells of its connections: that their executed jobs were asked for, and that they received no more than what was emitted for them
pub record AreKnown (events : List Event) (world : World) : Type 0 where
  pub own : (c : Connection) → IsBeginningOf (own_jobs c (jobs_executed world)) (asked_jobs world c)
  pub accounted : (c : Connection) → IsBeginningOf (account_of events world c) (emitted_for c (sequence_of world))

-- so the order in time is kept, where each front of the events is a past of which that is known
in_time : (setup : Setup) (events : List Event)
    → ((before later : List Event) → events ≡ before ++ later → AreEvents setup (fresh setup) before × AreKnown before (world_after setup before))
    → IsInTime (sequence_of (world_after setup events)) setup events (world_after setup events)
in_time setup events known = record {
  answered = λ before later x y is a late unasked.
      let k = known before later is in
      executed_before (world_after setup before) (world_after setup events) x y (grows setup events before later is) k.1.own
      (are_executed setup before k.0 x a) late unasked;
  handed = λ before later x y is h late unasked.
      let k = (known before later is).1 in
      let old = world_after setup before in
      let new = world_after setup events in
      let grown = grows setup events before later is in
      executed_before old new x y grown k.own (handed_then old new before x grown (k.accounted x.connection) h) late unasked;
}

-- by what is known of every past
pub are_in_time : (setup : Setup) → ((events : List Event) → AreEvents setup (fresh setup) events → AreKnown events (world_after setup events))
    → (events : List Event) → AreEvents setup (fresh setup) events → IsInTime (sequence_of (world_after setup events)) setup events (world_after setup events)
are_in_time setup known events are =
    in_time setup events (λ before later is.
    let front = are_first setup (fresh setup) before later (subst (AreEvents setup (fresh setup)) is are) in
    (front, known before front))
