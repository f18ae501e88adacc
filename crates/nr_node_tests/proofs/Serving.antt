-- A worker that had posted nothing serves one connection, step by step.
use Rattle.std.proofs.Common.{◌≡◌, ℕ, ◌+◌, inr, List, [], ◌∷◌, ◌++◌, length, drop, refl, ap, sym}
use Rattle.std.proofs.Common.{◌∙◌, subst, append-nil, append_assoc}
use Rattle.std.specs.Prelude.{suc, false, Contains, Option, Some, None, option_to_list, IfSome}
use Rattle.std.specs.List.{AllByRecursion}
use Rattle.nr_model.specs.Bytes.{Bytes}
use Rattle.nr_model.specs.Commands.{served}
use Rattle.nr_model.specs.Entries.{Jobs}
use Rattle.nr_model.specs.Items.{Connection, Deed, Item}
use Rattle.nr_model.specs.Asked.{jobs_from}
use Rattle.nr_model.specs.Modes.{deeds_by, plain}
use Rattle.nr_model.specs.Requests.{frames_within, framing_of}
use Rattle.nr_model.proofs.Asked.{own_feed}
use Rattle.nr_model.proofs.JobLists.{same_self}
use Rattle.nr_model.proofs.NodesExecutedLists.{first_in, in_middle}
use Rattle.nr_entry.specs.Jobs.{connection_of, items_of}
use Rattle.nr_entry.specs.declared.batch.Batch.{Batch}
use Rattle.nr_entry.specs.declared.job.Job.{Job}
use Rattle.nr_log_end.specs.declared.standing.Standing.{Standing}
use Rattle.nr_oplog.specs.declared.view.LogView.{LogView}
use Rattle.nr_slots.specs.declared.view.CombinerPast.{CombinerPast}
use Rattle.nr_slots.specs.Seats.{WorkerView, with_heard, with_posted}
use Rattle.nr_session.specs.SessionState.{SessionState, asked}
use Rattle.nr_node.specs.Sound.{IsSound}
use Rattle.nr_node.specs.declared.collecting.LastPiece.{LastPiece}
use Rattle.nr_combiner.specs.Heard.{HasHeard}
use Rattle.nr_combiner.specs.Turned.{tells_down}
use Rattle.nr_combiner.specs.Workers.{HasPosted, NodeHandleState, told_of}
use Rattle.nr_combiner.specs.declared.answering.Turned.{Turned}
use Rattle.nr_taps.specs.Marks.{Adopts}
use Rattle.nr_taps.specs.Sequence.{AreAllOfOneLog}
use Rattle.nr_taps.specs.Taps.{HaveMet}
use Rattle.nr_worker.specs.Worker.{CountsFrom, WorkerState, IsLed, Served, all_asked, asked_of}
use Rattle.nr_worker.specs.Law.{AreAnswered, HoldsOfDesks}
use Rattle.nr_worker.specs.Moves.{fresh_desk}
use Rattle.nr_node_tests.specs.Answered.{HasGotFirst, HasOpened, desk_of_one, served_one}

-- ---- what its bytes ask for
none_before : deeds_by served [] ≡ []
unfolding framing_of frames_within
none_before = refl

asked_once : (c : Connection) (sent got : Bytes) → asked_of (served_one c sent got) ≡ jobs_from c 0 0 (deeds_by served sent)
asked_once c sent got =
    own_feed c [] (record { connection = c; moment = 0; bytes = sent }) (same_self c)
    ∙ ap (λ (deeds : List Deed). jobs_from c (length deeds) 0 (drop (length deeds) (deeds_by served sent))) none_before

-- they are the jobs of a new session
pub fed_first : (c : Connection) (sent : Bytes) (s : SessionState) (old new : List Job)
    → s ≡ record { connection = c; rest = []; mode = plain; next = 0; fed = 0; ended = false; gave_end = false; lost = None; fell = false } → old ≡ []
    → items_of new ≡ items_of old ++ jobs_from s.connection s.next 0 (asked s.mode s.rest sent).deeds
    → items_of new ≡ asked_of (served_one c sent [])
fed_first c sent s old new fresh none fed =
    fed ∙ ap (λ (jobs : List Job). items_of jobs ++ jobs_from s.connection s.next 0 (asked s.mode s.rest sent).deeds) none
    ∙ ap (λ (t : SessionState). jobs_from t.connection t.next 0 (asked t.mode t.rest sent).deeds) fresh ∙ sym (asked_once c sent [])

-- they count up, and are the connection's
counts : (c : Connection) (n time : ℕ) (deeds : List Deed) → CountsFrom n (jobs_from c n time deeds)
counts c n time [] = tt
counts c n time (deed ∷ deeds) = (refl, counts c (n + 1) time deeds)

own : (c : Connection) (n time : ℕ) (deeds : List Deed) → AllByRecursion (λ (job : Item). job.connection ≡ c) (jobs_from c n time deeds)
own c n time [] = tt
own c n time (deed ∷ deeds) = (refl, own c (n + 1) time deeds)

-- each of these jobs is among them
abbrev AreAmong : Connection → Jobs → Jobs → Type 0
AreAmong c all jobs = AllByRecursion (λ (job : Item). job.connection ≡ c → Contains all job) jobs

each_there : (c : Connection) (front jobs : Jobs) → AreAmong c (front ++ jobs) jobs
each_there c front [] = tt
each_there c front (job ∷ jobs) = (
  λ _. in_middle job front jobs,
  subst (λ (all : Jobs). AreAmong c all jobs) (append_assoc front (job ∷ []) jobs) (each_there c (front ++ job ∷ []) jobs),
)

-- each is of the only connection that there is
each_known : (one : Served) (jobs : Jobs) → AllByRecursion (λ (job : Item). job.connection ≡ one.connection) jobs
    → AllByRecursion (λ (job : Item). (x : Served) × Contains (one ∷ []) x × (x.connection ≡ job.connection)) jobs
each_known one [] all = tt
each_known one (job ∷ jobs) all = ((one, first_in one [], sym all.0), each_known one jobs all.1)

-- ---- a turn
-- what it told
abbrev AreHeard : NodeHandleState → ℕ → CombinerPast → List LastPiece → List LastPiece → Option (Turned × LogView) → Type 0
AreHeard w most desk before pieces told =
    IfSome told (λ (t : Turned × LogView). HasHeard w.seat.worker most (tells_down t.0.combined) desk t.1.standing w.seat.lane before pieces)

abbrev AreSound : NodeHandleState → Option (Turned × LogView) → Type 0
AreSound w told = IfSome told (λ (t : Turned × LogView). IsSound t.1.standing × (t.1.standing.node ≡ w.node))

last_in : (pieces left : List LastPiece) (o : Option LastPiece) (one : LastPiece) → pieces ≡ left ++ option_to_list o → o ≡ Some one → Contains pieces one
last_in pieces left o one is some =
    let whole = is ∙ ap (λ (p : Option LastPiece). left ++ option_to_list p) some in
    subst (λ (l : List LastPiece). Contains l one) (sym whole) (in_middle one left [])

pub got_first : (w : NodeHandleState) (c : Connection) (old new : Option Standing) (most : ℕ) (desk : CombinerPast) (before pieces left : List LastPiece)
    (told : Option (Turned × LogView)) (turned : Turned) (token : LogView) (o : Option LastPiece) (one : LastPiece) (got : Bytes)
    → told ≡ Some (turned, token) → before ≡ [] → AreHeard w most desk before pieces told → AreSound w told
    → Adopts old token.standing new → HaveMet old (Some token.standing) → pieces ≡ left ++ option_to_list o → o ≡ Some one
    → connection_of one.piece.conn ≡ c → one.piece.from ≡ 0 → got ≡ one.piece.bytes.items → HasGotFirst w c old new desk got
got_first w c old new most desk before pieces left told turned token o one got is none heard sound adopted met behind some named from bytes = record {
  most = most;
  down = tells_down turned.combined;
  standing = token.standing;
  pieces = pieces;
  heard = subst (λ (l : List LastPiece). AreHeard w most desk l pieces (Some (turned, token))) none (subst (AreHeard w most desk before pieces) is heard);
  sound = subst (AreSound w) is sound;
  adopted = adopted;
  met = met;
  one = one;
  there = last_in pieces left o one behind some;
  named = named;
  from = from;
  bytes = sym bytes;
}

-- ---- the steps, by the law
alone : (mark : Option Standing) → AreAllOfOneLog (option_to_list mark ++ [])
alone None = tt
alone (Some s) = (tt, tt)

module _ (law : HoldsOfDesks) (w : NodeHandleState) (c : Connection) (sent : Bytes) (none : w.seat.lane.posted ≡ []) where
  abbrev at : List Batch → CombinerPast → Option Standing → Served → WorkerState
  at posted heard mark one = record { node = w.node; worker = w.seat.worker; posted = posted; heard = heard; mark = mark; served = one ∷ [] }

  abbrev new_one : Served
  new_one = record { connection = c; fed = []; closing = None; handed = []; ends = [] }

  abbrev asks : Served
  asks = served_one c sent []

  abbrev behind : Batch → NodeHandleState
  behind batch = record w { seat = with_posted batch w.seat; next = suc w.next }

  abbrev IsAnsweredBy : List Batch → CombinerPast → Option Standing → Bytes → Type 0
  IsAnsweredBy posted heard mark got = AreAnswered (desk_of_one w.node w.seat.worker posted heard mark c sent got ∷ [])

  opens : (m : Option Standing) (o : HasOpened w c m) → IsLed (at [] o.desk m new_one)
  opens m o =
      let fresh = fresh_desk w.node w.seat.worker in
      (law.opened c o.standing w.seat.lane fresh (at [] o.desk m new_one) (law.fresh w.node w.seat.worker) record {
        new = tt;
        knows = o.knows;
        serves = o.serves;
        posted = none;
        sound = o.sound;
        adopted = o.adopted;
        met = tt;
        opened = refl;
      }).0

  is_fed : (h : CombinerPast) (m : Option Standing) → IsLed (at [] h m new_one) → IsLed (at [] h m asks)
  is_fed h m led = (law.asked asks.fed None (at [] h m new_one) (at [] h m asks) led record {
    front = [];
    one = new_one;
    back = [];
    there = refl;
    live = refl;
    counted = subst (CountsFrom 0) (sym (asked_once c sent [])) (counts c 0 0 (deeds_by served sent));
    posted = tt;
    changed = refl;
  }).0

  posts : (h : CombinerPast) (m : Option Standing) (batch : Batch) → items_of batch.jobs.items ≡ asked_of asks → IsLed (at [] h m asks) → IsLed (at (batch ∷ []) h m asks)
  posts h m batch is led =
      let items = items_of batch.jobs.items in
      let mine = subst (λ (jobs : Jobs). AllByRecursion (λ (job : Item). job.connection ≡ c) jobs) (sym (is ∙ asked_once c sent []))
      (own c 0 0 (deeds_by served sent)) in
      let there = subst (λ (all : Jobs). AreAmong c all (asked_of asks)) (sym (append-nil (asked_of asks))) (each_there c [] (asked_of asks)) in
      (law.posted batch (at [] h m asks) (at (batch ∷ []) h m asks) led record {
        asked = (subst (AreAmong c (all_asked asks)) (sym is) there, tt);
        known = each_known asks items mine;
        posted = refl;
      }).0

  gets : (h desk : CombinerPast) (m n : Option Standing) (batch : Batch) (got : Bytes) → HasGotFirst (behind batch) c m n desk got → IsLed (at (batch ∷ []) h m asks)
      → IsLed (at (batch ∷ []) desk n (served_one c sent got))
  gets h desk m n batch got g led =
      let there = subst (λ (l : List LastPiece). Contains l g.one) g.heard.added.behind g.there in
      let before = at (batch ∷ []) h m asks in
      let after = at (batch ∷ []) desk n (served_one c sent got) in
      (law.turned g.most g.down g.standing (behind batch).seat.lane [] g.pieces before after led record {
        heard = g.heard;
        posted = ap (λ (l : List Batch). l ++ batch ∷ []) none;
        sound = g.sound;
        adopted = g.adopted;
        met = g.met;
        got = (inr (g.one, refl, there, g.named, g.from, ap (served_one c sent) (sym g.bytes)), tt);
        same = refl;
      }).0

  answered_at : (desk : CombinerPast) (m n : Option Standing) (batch : Batch) (got : Bytes) → HasOpened w c m → items_of batch.jobs.items ≡ asked_of asks
      → HasGotFirst (behind batch) c m n desk got → IsAnsweredBy (w.seat.lane.posted ++ batch ∷ []) desk n got
  answered_at desk m n batch got o is g =
      let led = gets o.desk desk m n batch got g (posts o.desk m batch is (is_fed o.desk m (opens m o))) in
      subst (λ (l : List Batch). IsAnsweredBy (l ++ batch ∷ []) desk n got) (sym none)
      (law.answered [] (at (batch ∷ []) desk n (served_one c sent got) ∷ []) tt (led, tt) (alone n))

  answered_one : (v : NodeHandleState) (desk : CombinerPast) (jobs : List Job) (m n : Option Standing) (got : Bytes) → HasOpened w c m → items_of jobs ≡ asked_of asks
      → HasPosted jobs w v → HasGotFirst v c m n desk got → IsAnsweredBy v.seat.lane.posted desk n got
  answered_one v desk jobs m n got o is p g =
      subst (λ (x : NodeHandleState). HasGotFirst x c m n desk got → IsAnsweredBy x.seat.lane.posted desk n got) (sym p.posted)
      (answered_at desk m n p.batch got o (ap items_of p.holds ∙ is)) g

-- where opening left the worker as it was, and the turn its seat, but for what they heard
pub answered_by : (law : HoldsOfDesks) (first : NodeHandleState) (c : Connection) (sent : Bytes) → first.seat.lane.posted ≡ [] → (opened posted last : NodeHandleState) (jobs : List Job) (m n : Option Standing)
    (got : Bytes) → opened ≡ told_of opened.seat.noted first → last.seat ≡ with_heard last.seat.noted posted.seat
    → HasOpened first c m → items_of jobs ≡ asked_of (served_one c sent []) → HasPosted jobs opened posted → HasGotFirst posted c m n last.seat.noted got
    → AreAnswered (desk_of_one first.node first.seat.worker last.seat.lane.posted last.seat.noted n c sent got ∷ [])
answered_by law first c sent none opened posted last jobs m n got same kept o is p g =
    let w : NodeHandleState = told_of opened.seat.noted first in
    let at : HasOpened w c m = record { standing = o.standing; desk = o.desk; knows = o.knows; serves = o.serves; sound = o.sound; adopted = o.adopted } in
    subst (λ (x : WorkerView). AreAnswered (desk_of_one first.node first.seat.worker x.lane.posted last.seat.noted n c sent got ∷ [])) (sym kept)
    (answered_one law w c sent none posted last.seat.noted jobs m n got at is (subst (λ (x : NodeHandleState). HasPosted jobs x posted) same p) g)
