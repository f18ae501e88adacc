-- What is done one behind the other is a work of the worker.
use Rattle.std.proofs.Common.{◌≡◌, ◌≤◌, ℕ, arith, length, inl, inr, Bool, true, false, cond, List, [], ◌∷◌, ◌++◌, Option, Some, None, refl, ap, sym, ◌∙◌, subst, append-nil, append_assoc}
use Rattle.std.specs.Prelude.{filter, IfSome, IfNone, Result, Ok, Err, IfOk, OnErr}
use Rattle.std.specs.Bool.{OnTrue, OnFalse}
use Rattle.std.specs.Option.{option_map}
use Rattle.nr_model.specs.Bytes.{Bytes}
use Rattle.nr_model.specs.Connections.{Handed, handed_to}
use Rattle.nr_model.proofs.Exchanged.{handed_to-append}
use Rattle.nr_slots.specs.Seats.{WorkerView}
use Rattle.nr_slots.specs.declared.view.CombinerPast.{CombinerPast}
use Rattle.nr_combiner.specs.Workers.{NodeHandleState, told_of}
use Rattle.nr_entry.specs.declared.entry.TheConstants.{MOST_JOBS}
use Rattle.nr_combiner.specs.declared.answering.Collected.{Collected}
use Rattle.nr_combiner.specs.declared.answering.Lifts.{Lifts}
use Rattle.nr_combiner.specs.declared.answering.Lifts.TheVariants.{Own}
use Rattle.nr_combiner.specs.declared.answering.Turned.{Turned}
use Rattle.std.specs.Prelude.{◌==◌}
use Rattle.std.proofs.lemmas.Bool.{eqb-true}
use Rattle.std.proofs.lemmas.List.Elements.{filter-append}
use Rattle.nr_model.specs.Items.{Connection, Item, same_connection}
use Rattle.nr_worker.specs.Seated.{OpenConnectionState, cut_off}
use Rattle.nr_worker.specs.Placed.{IsPut, OpenConnectionsState, seat_at}
use Rattle.nr_worker.specs.Portions.{HandsOut, seat_of, waiting_of}
use Rattle.nr_worker.specs.Worker.{Served}
use Rattle.nr_worker.specs.Reading.{KeepsJobs, ReadsAside, Reorders}
use Rattle.nr_worker.specs.Settling.{HasSettled}
use Rattle.nr_worker.specs.declared.collecting.Settled.{Settled}
use Rattle.nr_worker.specs.Working.{CutsOff, EndsNext, Goes, HandsIn, HandsOn, TakesPieces, TakesTurn, WorkState, all_ended, all_handed, back_work, fallen_work, heard_work, is_away, is_bare, unchanged}
use Rattle.nr_worker_service.specs.declared.turns.TheConstants.{EVERY}
use Rattle.nr_worker_service.specs.Works.{GaveAll, HasLooked, IsBehindPieces, IsBehindTurn, LeftNothing, Works, all_worked}
use Rattle.nr_worker_service.proofs.Lists.{goes_further, goes_nowhere}

-- ---- what was handed out in two parts, with ends that came in two
worked_twice : (first second : List Handed) (few more : List Item) (served : List Served)
    → all_worked second more (all_worked first few served) ≡ all_worked (first ++ second) (few ++ more) served
worked_twice first second few more [] = refl
worked_twice first second few more (x ∷ served) =
    let c = x.connection in
    let own = λ (job : Item). same_connection job.connection c in
    let ends : (x.ends ++ filter own few) ++ filter own more ≡ x.ends ++ filter own (few ++ more) =
    append_assoc x.ends (filter own few) (filter own more) ∙ ap (λ (l : List Item). x.ends ++ l) (sym (filter-append own few more)) in
    let bytes : (x.handed ++ handed_to c first) ++ handed_to c second ≡ x.handed ++ handed_to c (first ++ second) =
    append_assoc x.handed (handed_to c first) (handed_to c second) ∙ ap (λ (b : Bytes). x.handed ++ b) (sym (handed_to-append c first second)) in
    λ i. record x { handed = bytes i; ends = ends i } ∷ worked_twice first second few more served i

handed_nothing : (served : List Served) → served ≡ all_handed [] served
handed_nothing [] = refl
handed_nothing (x ∷ served) = λ i. record x { handed = sym (append-nil x.handed) i } ∷ handed_nothing served i

ended_nothing : (served : List Served) → served ≡ all_ended [] served
ended_nothing [] = refl
ended_nothing (x ∷ served) = λ i. record x { ends = sym (append-nil x.ends) i } ∷ ended_nothing served i

waited_twice : (o : Option Bytes) (a b all : Bytes) → a ++ b ≡ all
    → option_map (λ (bytes : Bytes). bytes ++ b) (option_map (λ (bytes : Bytes). bytes ++ a) o) ≡ option_map (λ (bytes : Bytes). bytes ++ all) o
waited_twice None a b all is = refl
waited_twice (Some bytes) a b all is = ap (λ (more : Bytes). Some more) (append_assoc bytes a b ∙ ap (λ (more : Bytes). bytes ++ more) is)

waited_same : (o : Option Bytes) → o ≡ option_map (λ (bytes : Bytes). bytes ++ []) o
waited_same None = refl
waited_same (Some bytes) = ap (λ (more : Bytes). Some more) (sym (append-nil bytes))

hands_none : (node : ℕ) (seats : OpenConnectionsState) → HandsOut node [] seats seats
hands_none node seats = record { waiting = λ c. waited_same (waiting_of node seats c); none = λ c absent. (refl, absent) }

hands_then : (node : ℕ) (first second : List Handed) (a b c : OpenConnectionsState) → HandsOut node first a b → HandsOut node second b c
    → HandsOut node (first ++ second) a c
hands_then node first second a b c one two = record {
  waiting = λ d.
      two.waiting d ∙ ap (option_map (λ (bytes : Bytes). bytes ++ handed_to d second)) (one.waiting d)
      ∙ waited_twice (waiting_of node a d) (handed_to d first) (handed_to d second) (handed_to d (first ++ second)) (sym (handed_to-append d first second));
  none = λ d absent.
      let was = one.none d absent in
      let is = two.none d was.1 in
      (handed_to-append d first second ∙ (λ i. was.0 i ++ is.0 i), is.1);
}

-- ---- works
-- whatever became of the worker's connections, it is the same
goes_as : (change other : List Served → List Served) (v w : WorkState) → ((served : List Served) → change served ≡ other served) → Goes change v w → Goes other v w
goes_as change other v w same g = record {
  leads = λ d led r.
      let a = g.leads d led r in
      record { then = a.then; led = a.led; goes = a.goes; reflects = a.reflects; served = a.served ∙ same d.served };
}

goes_then : (first second : List Handed) (few more : List Item) (u v w : WorkState) → Goes (all_worked first few) u v → Goes (all_worked second more) v w
    → Goes (all_worked (first ++ second) (few ++ more)) u w
goes_then first second few more u v w one two = record {
  leads = λ d led r.
      let a = one.leads d led r in
      let b = two.leads a.then a.led a.reflects in
      record {
        then = b.then;
        led = b.led;
        goes = goes_further d a.then b.then a.goes b.goes;
        reflects = b.reflects;
        served = b.served ∙ ap (all_worked second more) a.served ∙ worked_twice first second few more d.served;
      };
}

goes_handed : (handed : List Handed) (v w : WorkState) → Goes (all_handed handed) v w → Goes (all_worked handed []) v w
goes_handed handed v w g = goes_as (all_handed handed) (all_worked handed []) v w (λ served. ended_nothing (all_handed handed served)) g

goes_ended : (ends : List Item) (v w : WorkState) → Goes (all_ended ends) v w → Goes (all_worked [] ends) v w
goes_ended ends v w g = goes_as (all_ended ends) (all_worked [] ends) v w (λ served. ap (all_ended ends) (handed_nothing served)) g

goes_nothing : (v w : WorkState) → Goes unchanged v w → Goes (all_worked [] []) v w
goes_nothing v w g = goes_handed [] v w (goes_as unchanged (all_handed []) v w handed_nothing g)

pub works_then : (u v w : WorkState) → Works u v → Works v w → Works u w
works_then u v w one two = record {
  handed = one.handed ++ two.handed;
  ends = one.ends ++ two.ends;
  goes = goes_then one.handed two.handed one.ends two.ends u v w one.goes two.goes;
  waiting = hands_then u.worker.node one.handed two.handed u.seats v.seats w.seats one.waiting
      (subst (λ (n : ℕ). HandsOut n two.handed v.seats w.seats) one.node two.waiting);
  node = two.node ∙ one.node;
}

-- nothing was handed out
pub works_none : (v w : WorkState) → Goes unchanged v w → w.seats ≡ v.seats → w.worker.node ≡ v.worker.node → Works v w
works_none v w g seats node = record {
  handed = [];
  ends = [];
  goes = goes_nothing v w g;
  waiting = subst (HandsOut v.worker.node [] v.seats) (sym seats) (hands_none v.worker.node v.seats);
  node = node;
}

pub works_still : (v w : WorkState) → Goes unchanged v w → w ≡ v → Works v w
works_still v w g same = works_none v w g (ap (λ (x : WorkState). x.seats) same) (ap (λ (x : WorkState). x.worker.node) same)

pub works_posted : {E : Type 0} (posted : Result Bool E) (v w : WorkState) → IfOk posted (λ is_posted. OnTrue is_posted (HandsIn MOST_JOBS v w))
    → IfOk posted (λ is_posted. OnFalse is_posted (w ≡ v)) → OnErr posted (w ≡ v) → Goes unchanged v w → Works v w
works_posted (Ok true) v w posted none same g =
    works_none v w g (ap (λ (x : WorkState). x.seats) posted.changed)
    (ap (λ (x : WorkState). x.worker.node) posted.changed ∙ ap (λ (x : NodeHandleState). x.node) posted.posted.posted)
works_posted (Ok false) v w posted none same g = works_still v w g none
works_posted (Err error) v w posted none same g = works_still v w g same

pub works_turned : {A : Type 0} (turned : Option A) (v w : WorkState) → IfSome turned (λ _. HandsOn v w) → IfNone turned (w ≡ v) → Works v w
works_turned (Some turned) v w on same = record {
  handed = on.handed;
  ends = [];
  goes = goes_handed on.handed v w on.goes;
  waiting = on.waiting;
  node = ap (λ (x : WorkState). x.worker.node) on.changed;
}
works_turned None v w on same =
    subst (Works v) (sym same) (record {
      handed = [];
      ends = [];
      goes = goes_nothing v v (record { leads = λ d led r. record { then = d; led = led; goes = goes_nowhere d; reflects = r; served = refl } });
      waiting = hands_none v.worker.node v.seats;
      node = refl;
    })

pub works_collected : {E : Type 0} (settled : Result Settled E) (v w : WorkState) → IfOk settled (λ told. HasSettled told v w) → OnErr settled (w ≡ v)
    → Goes unchanged v w → Works v w
works_collected (Ok told) v w s same g =
    works_none v w g (ap (λ (x : WorkState). x.seats) s.changed)
    (ap (λ (x : WorkState). x.worker.node) s.changed ∙ ap (λ (x : NodeHandleState). x.node) s.collected.collected)
works_collected (Err why) v w s same g = works_still v w g same

-- its node fell, or came back
node_heard : (is_down : Bool) (since : ℕ) (v : WorkState)
    → ((heard_work is_down since v).seats ≡ v.seats) × ((heard_work is_down since v).worker ≡ v.worker) × ((heard_work is_down since v).mark ≡ v.mark)
node_heard true since v = (refl, refl, refl)
node_heard false since v = elim (is_away since v) as
    (λ b. let w = cond b (cond (is_bare v) (back_work since v) (fallen_work v)) v in (w.seats ≡ v.seats) × (w.worker ≡ v.worker) × (w.mark ≡ v.mark)) [
      | true ↦ elim (is_bare v) as
          (λ b. let w = cond b (back_work since v) (fallen_work v) in (w.seats ≡ v.seats) × (w.worker ≡ v.worker) × (w.mark ≡ v.mark)) [
            | true ↦ (refl, refl, refl)
            | false ↦ (refl, refl, refl)
          ]
      | false ↦ (refl, refl, refl)
    ]

pub works_heard : (is_down : Bool) (since : ℕ) (v w : WorkState) → w ≡ heard_work is_down since v → Goes unchanged v w → Works v w
works_heard is_down since v w is g =
    let same = node_heard is_down since v in
    works_none v w g (ap (λ (x : WorkState). x.seats) is ∙ same.0) (ap (λ (x : WorkState). x.worker.node) is ∙ ap (λ (x : NodeHandleState). x.node) same.1)

pub mark_heard : (is_down : Bool) (since : ℕ) (v w : WorkState) → w ≡ heard_work is_down since v → w.mark ≡ v.mark
mark_heard is_down since v w is = ap (λ (x : WorkState). x.mark) is ∙ (node_heard is_down since v).2

pub worker_heard : (is_down : Bool) (since : ℕ) (v w : WorkState) → w ≡ heard_work is_down since v → w.worker ≡ v.worker
worker_heard is_down since v w is = ap (λ (x : WorkState). x.worker) is ∙ (node_heard is_down since v).1

-- the end of one was put
ended_seats : {E : Type 0} (put : Result Bool E) (v w : WorkState) → IfOk put (λ is_one. OnTrue is_one (EndsNext v w))
    → IfOk put (λ is_one. OnFalse is_one (w ≡ record v { worker = told_of w.worker.seat.noted v.worker; mark = w.mark; ending = false }))
    → OnErr put (w ≡ record v { worker = told_of w.worker.seat.noted v.worker; mark = w.mark; late = w.late })
    → (w.seats ≡ v.seats) × (w.worker.node ≡ v.worker.node)
ended_seats (Ok true) v w one none same = (ap (λ (x : WorkState). x.seats) one.changed, ap (λ (x : WorkState). x.worker.node) one.changed)
ended_seats (Ok false) v w one none same = (ap (λ (x : WorkState). x.seats) none, ap (λ (x : WorkState). x.worker.node) none)
ended_seats (Err memory) v w one none same = (ap (λ (x : WorkState). x.seats) same, ap (λ (x : WorkState). x.worker.node) same)

pub works_ended : {E : Type 0} (put : Result Bool E) (v w : WorkState) → IfOk put (λ is_one. OnTrue is_one (EndsNext v w))
    → IfOk put (λ is_one. OnFalse is_one (w ≡ record v { worker = told_of w.worker.seat.noted v.worker; mark = w.mark; ending = false }))
    → OnErr put (w ≡ record v { worker = told_of w.worker.seat.noted v.worker; mark = w.mark; late = w.late })
    → ((ends : List Item) × Goes (all_ended ends) v w) → Works v w
works_ended put v w one none same (ends, g) =
    let still = ended_seats put v w one none same in
    record {
      handed = [];
      ends = ends;
      goes = goes_ended ends v w g;
      waiting = subst (HandsOut v.worker.node [] v.seats) (sym still.0) (hands_none v.worker.node v.seats);
      node = still.1;
    }

pub works_reordered : (v w : WorkState) → Reorders v w → Goes unchanged v w → Works v w
works_reordered v w o g = works_none v w g (ap (λ (x : WorkState). x.seats) o.changed) (ap (λ (x : WorkState). x.worker.node) o.changed)

-- reads were run beside the lock, or the same jobs wait
pub works_read : (places count most : ℕ) (turned : Option Turned) (v w : WorkState) → IfSome turned (λ t. ReadsAside places count most t v w)
    → IfNone turned (KeepsJobs v w) → IfNone turned (Goes unchanged v w) → Works v w
works_read places count most (Some turned) v w read keeps g =
    let b = read.between in
    let p = read.handed_in in
    works_then v b w
    (works_none v b read.goes (ap (λ (x : WorkState). x.seats) p.changed)
    (ap (λ (x : WorkState). x.worker.node) p.changed ∙ ap (λ (x : NodeHandleState). x.node) p.posted.posted))
    (works_turned (Some turned) b w read.handed tt)
works_read places count most None v w read keeps g =
    works_none v w g (ap (λ (x : WorkState). x.seats) keeps.changed) (ap (λ (x : WorkState). x.worker.node) keeps.changed)

pub works_same : (v : WorkState) → Works v v
works_same v = works_turned {A = Turned} None v v tt refl

-- ---- behind a turn
pub behind_turned : (places : ℕ) (lifts : Lifts) (turned : Option Turned) (v w : WorkState) → IfSome turned (λ t. TakesTurn places lifts EVERY t v w)
    → IfSome turned (λ t. IsBehindTurn places t w)
behind_turned places lifts (Some turned) v w took = record { lifts = lifts; before = v; after = w; took = took; node = refl; mark = refl; heard = refl }
behind_turned places lifts None v w took = tt

pub behind_read : (places count : ℕ) (turned : Option Turned) (v w : WorkState) → IfSome turned (λ t. ReadsAside places count EVERY t v w)
    → IfSome turned (λ t. IsBehindTurn places t w)
behind_read places count (Some turned) v w read =
    record { lifts = Own; before = read.between; after = w; took = read.took; node = refl; mark = refl; heard = refl }
behind_read places count None v w read = tt

pub behind_pieces : (collected : Option Collected) (v w : WorkState) → IfSome collected (λ c. TakesPieces EVERY c v w)
    → IfSome collected (λ c. IsBehindPieces c w)
behind_pieces (Some collected) v w took = record { before = v; after = w; took = took; node = refl; mark = refl; heard = refl }
behind_pieces None v w took = tt

pub mark_collected : {E : Type 0} (settled : Result Settled E) (v w : WorkState) → IfOk settled (λ told. HasSettled told v w) → OnErr settled (w ≡ v)
    → w.mark ≡ v.mark
mark_collected (Ok told) v w s same = ap (λ (x : WorkState). x.mark) s.changed
mark_collected (Err why) v w s same = ap (λ (x : WorkState). x.mark) same

pub heard_collected : {E : Type 0} (settled : Result Settled E) (v w : WorkState) → IfOk settled (λ told. HasSettled told v w) → OnErr settled (w ≡ v)
    → w.worker.seat.noted ≡ v.worker.seat.noted
heard_collected (Ok told) v w s same = ap (λ (x : WorkState). x.worker.seat.noted) s.changed ∙ ap (λ (x : NodeHandleState). x.seat.noted) s.collected.collected
heard_collected (Err why) v w s same = ap (λ (x : WorkState). x.worker.seat.noted) same

turn_still : (places : ℕ) (turned : Turned) (v w : WorkState) → w.worker.node ≡ v.worker.node → w.mark ≡ v.mark → w.worker.seat.noted ≡ v.worker.seat.noted
    → IsBehindTurn places turned v → IsBehindTurn places turned w
turn_still places turned v w node mark heard b =
    record { lifts = b.lifts; before = b.before; after = b.after; took = b.took; node = node ∙ b.node; mark = mark ∙ b.mark; heard = heard ∙ b.heard }

pub pieces_still : (collected : Collected) (v w : WorkState) → w.worker.node ≡ v.worker.node → w.mark ≡ v.mark → w.worker.seat.noted ≡ v.worker.seat.noted
    → IsBehindPieces collected v → IsBehindPieces collected w
pieces_still collected v w node mark heard b =
    record { before = b.before; after = b.after; took = b.took; node = node ∙ b.node; mark = mark ∙ b.mark; heard = heard ∙ b.heard }

pub looked_still : (places : ℕ) (v w : WorkState) → w.worker.node ≡ v.worker.node → w.mark ≡ v.mark → w.worker.seat ≡ v.worker.seat → HasLooked places v
    → HasLooked places w
looked_still places v w node mark seat (inl (turned, behind, nothing)) = inl (
  turned,
  turn_still places turned v w node mark (ap (λ (s : WorkerView). s.noted) seat) behind,
  subst (λ (s : WorkerView). LeftNothing (length s.lane.posted) turned) (sym seat) nothing,
)
looked_still places v w node mark seat (inr (collected, behind, all)) = inr (
  collected,
  pieces_still collected v w node mark (ap (λ (s : WorkerView). s.noted) seat) behind,
  subst (λ (s : WorkerView). GaveAll (length s.lane.posted) collected) (sym seat) all,
)

pub looked_turned : (places : ℕ) (turned : Turned) (v w : WorkState) (batches : ℕ) → Works v w → w.mark ≡ v.mark → w.worker.seat.noted ≡ v.worker.seat.noted
    → batches ≡ length w.worker.seat.lane.posted → IsBehindTurn places turned v → LeftNothing batches turned → HasLooked places w
looked_turned places turned v w batches k mark heard count behind nothing =
    inl (turned, turn_still places turned v w k.node mark heard behind, subst (λ n. LeftNothing n turned) count nothing)

pub looked_got : (places : ℕ) (collected : Collected) (w : WorkState) (batches : ℕ) → batches ≡ length w.worker.seat.lane.posted → IsBehindPieces collected w
    → GaveAll batches collected → HasLooked places w
looked_got places collected w batches count behind all = inr (collected, behind, subst (λ n. GaveAll n collected) count all)

-- so each of its batches had been answered as it heard last
pub all_answered : (places : ℕ) (w : WorkState) → HasLooked places w → length w.worker.seat.lane.posted ≤ length w.worker.seat.noted.answered
all_answered places w (inl (turned, behind, nothing)) =
    let few = nothing.answered in
    let counted = behind.took.counted in
    let same = ap (λ (d : CombinerPast). length d.answered) behind.heard in
    omega (arith, few, counted, same)
all_answered places w (inr (collected, behind, all)) =
    let few = all.answered in
    let counted = behind.took.counted in
    let same = ap (λ (d : CombinerPast). length d.answered) behind.heard in
    omega (arith, few, counted, same)

-- ---- no more bytes are taken from one
abbrev pending_of : Option OpenConnectionState → Option Bytes
pending_of o = option_map (λ (s : OpenConnectionState). s.pending) o

pending_cut : (o : Option OpenConnectionState) → pending_of (option_map cut_off o) ≡ pending_of o
pending_cut None = refl
pending_cut (Some s) = refl

pending_put : (serial : ℕ) (old new : OpenConnectionsState) → IsPut serial (option_map cut_off (seat_at serial old)) old new
    → (other : ℕ) → pending_of (seat_at other new) ≡ pending_of (seat_at other old)
pending_put serial old new put other =
    let seat = option_map cut_off (seat_at serial old) in
    elim (serial == other) as (λ b. (serial == other) ≡ b → pending_of (seat_at other new) ≡ pending_of (seat_at other old)) [
      | true ↦ λ own.
          ap pending_of (put.at other ∙ ap (λ b. cond b seat (seat_at other old)) own) ∙ pending_cut (seat_at serial old)
          ∙ ap (λ n. pending_of (seat_at n old)) (eqb-true serial other own)
      | false ↦ λ apart. ap pending_of (put.at other ∙ ap (λ b. cond b seat (seat_at other old)) apart)
    ] refl

waits_still : (node serial : ℕ) (old new : OpenConnectionsState) → IsPut serial (option_map cut_off (seat_at serial old)) old new
    → (c : Connection) → waiting_of node new c ≡ waiting_of node old c
waits_still node serial old new put c =
    elim (c.node == node) as (λ b. pending_of (cond b (seat_at c.serial new) None) ≡ pending_of (cond b (seat_at c.serial old) None)) [
      | true ↦ pending_put serial old new put c.serial
      | false ↦ refl
    ]

none_pending : (o : Option OpenConnectionState) → pending_of o ≡ None → o ≡ None
none_pending None is = refl
none_pending (Some s) is = absurd (cc is)

pub works_stopped : (serial : ℕ) (v w : WorkState) → CutsOff serial v w → Goes unchanged v w → Works v w
works_stopped serial v w cut g = record {
  handed = [];
  ends = [];
  goes = goes_nothing v w g;
  waiting = record {
    waiting = λ c. waits_still v.worker.node serial v.seats w.seats cut.put c ∙ waited_same (waiting_of v.worker.node v.seats c);
    none = λ c absent. (refl, none_pending (seat_of v.worker.node w.seats c) (waits_still v.worker.node serial v.seats w.seats cut.put c ∙ ap pending_of absent));
  };
  node = ap (λ (x : WorkState). x.worker.node) cut.changed;
}
