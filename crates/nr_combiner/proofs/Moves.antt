-- Connections are opened and closed, and bytes are handed out: what was kept holds on.
use Rattle.std.proofs.Common.{◌≡◌, ℕ, zero, suc, ◌<◌, inl, inr, ◌⊎◌, true, cond, List, [], ◌∷◌, ◌++◌, length, replicate, Option, Some, None, refl, ap, sym, ◌∙◌, subst, arith, get_or, set, length-set}
use Rattle.std.specs.Prelude.{Result, Ok, Err, OnOk, OnErr, IfOk, IfSome, IfNone}
use Rattle.std.specs.List.{AllByRecursion}
use Rattle.std.proofs.lemmas.Bool.{cases_Bool, cases_lt}
use Rattle.std.proofs.lemmas.Bool.Decides.{eqb_tells}
use Rattle.std.proofs.lemmas.List.{get_or-replicate, get_or_append_left, length-append}
use lib.ListN.{length-replicate}
use Rattle.nr_blob.specs.declared.memory.Memory.{Memory}
use Rattle.nr_model.specs.Bytes.{IsBeginningOf}
use Rattle.nr_model.specs.Items.{Connection}
use Rattle.nr_model.proofs.NodesExecutedGrows.{begins_itself}
use Rattle.nr_entry.specs.Jobs.{connection_of, items_of}
use Rattle.nr_entry.specs.declared.conn.ConnId.{ConnId}
use Rattle.nr_entry.specs.declared.entry.Entry.{Entry}
use Rattle.nr_log_end.specs.declared.standing.Standing.{Standing}
use Rattle.nr_log_end.specs.Standings.{opened_with, record_of}
use Rattle.nr_oplog.specs.declared.view.LogView.{LogView}
use Rattle.nr_job_numbers.specs.Book.{Book}
use Rattle.nr_replica.specs.Members.{Member, fresh_member, closed_member, handed_member}
use Rattle.nr_replica.specs.Replicas.{ReplicaState}
use Rattle.nr_slots.specs.declared.view.CombinerPast.{CombinerPast}
use Rattle.nr_slots.specs.Rule.{no_desk}
use Rattle.nr_slots.specs.Seats.{CombinerView, desk_of}
use Rattle.nr_node.specs.Batches.{IsOpened}
use Rattle.nr_node.specs.Collected.{AreHanded}
use Rattle.nr_node.specs.Lending.{LooksAtTail}
use Rattle.nr_node.specs.Level.{NodeState, connection_at, unpassed, jobs_reserved}
use Rattle.nr_node.specs.Steps.{nobody, opened_node, HasOpened, closed_node, refusing_node, HasHandedOut, IsStill}
use Rattle.nr_node.specs.declared.collecting.LastPiece.{LastPiece}
use Rattle.nr_node.specs.declared.answers.OpenError.{OpenError}
use Rattle.nr_combiner.specs.Served.{jobs_of, owed_at, IsAmong, IsDesk, AreExecuted, IsOwnOfBatch, AllJobs, IsServed}
use Rattle.nr_node.proofs.Lists.{record_opened, unpassed_opened}
use Rattle.nr_combiner.proofs.Among.{same_keeps}
use Rattle.nr_combiner.proofs.Deeds.{same_jobs}
use Rattle.nr_combiner.proofs.Grows.{AreServedOn, Grows, still_itself, served_still}
use Rattle.nr_combiner.proofs.Turns.{served_same}

-- all is kept, and the node stays the same one
abbrev pub GoesOn : NodeState → NodeState → CombinerView → List ℕ → Type 0
GoesOn n m seat numbers = IsServed m seat numbers × (n.book.node ≡ m.book.node)

pub same_on : (n m : NodeState) (seat : CombinerView) (numbers : List ℕ) → m ≡ n → IsServed n seat numbers → GoesOn n m seat numbers
same_on n m seat numbers same s = (subst (λ (x : NodeState). IsServed x seat numbers) (sym same) s, ap (λ (x : NodeState). x.book.node) (sym same))

-- a connection more leaves the others with their workers
served_more : (members : List Member) (m : Member) → AreServedOn members (members ++ m ∷ [])
served_more members m c near =
    (omega (arith, near, length-append members (m ∷ [])), ap (λ (x : Member). x.worker) (get_or_append_left members (m ∷ []) (fresh_member c 0 0) c.serial near))

-- so does a change of one that leaves its worker
changed_at : (members : List Member) (i : ℕ) (f : Member → Member) (d : Member) → ((m : Member) → (f m).worker ≡ m.worker) → (serial : ℕ) → serial < length members
    → (get_or (set members i (f (get_or members i nobody))) serial d).worker ≡ (get_or members serial d).worker
changed_at [] i f d same serial near = absurd (omega arith)
changed_at (m ∷ members) zero f d same zero near = same m
changed_at (m ∷ members) zero f d same (suc serial) near = refl
changed_at (m ∷ members) (suc i) f d same zero near = refl
changed_at (m ∷ members) (suc i) f d same (suc serial) near = changed_at members i f d same serial (omega (arith, near))

pub served_changed : (members : List Member) (i : ℕ) (f : Member → Member) → ((m : Member) → (f m).worker ≡ m.worker)
    → AreServedOn members (set members i (f (get_or members i nobody)))
served_changed members i f same c near =
    (omega (arith, near, length-set members i (f (get_or members i nobody))), changed_at members i f (fresh_member c 0 0) same c.serial near)

opened_on : (n : NodeState) (v : LogView) (seat : CombinerView) (numbers : List ℕ) (limit worker seen : ℕ) → v.standing ≡ opened_with worker seen n.seat.standing
    → IsServed n seat numbers → GoesOn n (record (opened_node limit worker n) { seat = v }) seat numbers
opened_on n v seat numbers limit worker seen noted s =
    let m : NodeState = record (opened_node limit worker n) { seat = v } in
    let count = length n.replica.members in
    let done : record_of v.standing.history ≡ record_of n.seat.standing.history = ap (λ (x : Standing). record_of x.history) noted ∙ record_opened n.seat.standing worker in
    let behind : unpassed v.standing ≡ unpassed n.seat.standing = ap unpassed noted ∙ unpassed_opened n.seat.standing worker seen in
    let all : jobs_of m ≡ jobs_of n = λ i. (done i ++ jobs_reserved (behind i)) ++ (items_of n.next ++ items_of n.replica.waiting) in
    let grows : Grows n m = record {
      node = refl;
      workers = refl;
      members = served_more n.replica.members (fresh_member (connection_at n.replica.node count) worker limit);
      keeps = λ up. (up, λ job a. subst (IsAmong job) (sym all) a);
      log = subst (IsBeginningOf (record_of n.seat.standing.history)) (sym done) (begins_itself (record_of n.seat.standing.history));
    } in
    let jobs : AllJobs (IsOwnOfBatch n seat.desks) m = record {
      done = subst (AllByRecursion (IsOwnOfBatch n seat.desks)) (sym done) s.handed_in.done;
      reserved = subst (λ (rs : List (ℕ × Entry)). AllByRecursion (IsOwnOfBatch n seat.desks) (jobs_reserved rs)) (sym behind) s.handed_in.reserved;
      due = s.handed_in.due;
      waits = s.handed_in.waits;
    } in
    (served_still n m seat numbers grows (λ w. still_itself (owed_at w n)) jobs s, refl)

pub opened_served : (r : Result ConnId OpenError) (n m : NodeState) (seat : CombinerView) (numbers : List ℕ) (limit worker : ℕ)
    → OnOk r (HasOpened limit worker n m) → OnErr r (m ≡ n) → IsServed n seat numbers → GoesOn n m seat numbers
opened_served (Ok conn) n m seat numbers limit worker opened unchanged s =
    subst (λ (x : NodeState). GoesOn n x seat numbers) (sym opened.opened)
    (opened_on n m.seat seat numbers limit worker m.seat.standing.seen opened.noted s)
opened_served (Err why) n m seat numbers limit worker opened unchanged s = same_on n m seat numbers unchanged s

-- one is closed, or passed over
is_opened : (n : NodeState) (c : Connection) → IsOpened n c ⊎ (IsOpened n c → ⊥)
is_opened n c = elim (eqb_tells c.node n.replica.node) [
  | inr e ↦ inr (λ (o : IsOpened n c). e.1 o.0)
  | inl e ↦ elim (cases_lt c.serial (length n.replica.members)) [
    | inl near ↦ inl (e.1, near)
    | inr past ↦ inr (λ (o : IsOpened n c). omega (arith, past, o.1))
  ]
]

pub closed_served : (n m : NodeState) (seat : CombinerView) (numbers : List ℕ) (conn : ConnId) → (IsOpened n (connection_of conn) → m ≡ closed_node conn.serial n)
    → ((IsOpened n (connection_of conn) → ⊥) → m ≡ n) → IsServed n seat numbers → GoesOn n m seat numbers
closed_served n m seat numbers conn closed other s = elim (is_opened n (connection_of conn)) [
  | inl o ↦ subst (λ (x : NodeState). GoesOn n x seat numbers) (sym (closed o)) (
    served_same n (closed_node conn.serial n) seat numbers refl refl (served_changed n.replica.members conn.serial closed_member (λ m. refl)) refl
        (same_keeps n (closed_node conn.serial n) refl refl refl refl) (same_jobs (IsOwnOfBatch n seat.desks) n (closed_node conn.serial n) refl refl refl s.handed_in) s,
    refl,
  )
  | inr apart ↦ same_on n m seat numbers (other apart) s
]

-- bytes are handed out
handed_on : (n m : NodeState) (seat : CombinerView) (numbers : List ℕ) (serial most : ℕ) → HasHandedOut serial most n m → IsServed n seat numbers → GoesOn n m seat numbers
handed_on n m seat numbers serial most h s = (
  served_same n m seat numbers (ap (λ (b : Book). b.node) h.book) (ap (λ (r : ReplicaState). r.owed) h.replica)
      (subst (AreServedOn n.replica.members) (sym (ap (λ (r : ReplicaState). r.members) h.replica)) (served_changed n.replica.members serial (handed_member most) (λ m. refl)))
      (ap (λ (x : Standing). x.history) h.standing)
      (same_keeps n m h.standing h.next (ap (λ (r : ReplicaState). r.waiting) h.replica) (ap (λ (r : ReplicaState). r.down) h.replica))
      (same_jobs (IsOwnOfBatch n seat.desks) n m h.standing h.next (ap (λ (r : ReplicaState). r.waiting) h.replica) s.handed_in) s,
  ap (λ (b : Book). b.node) (sym h.book),
)

-- so they are, or none
pub handed_served : {A : Type 0} (r : Result (Option A) Memory) (n m : NodeState) (seat : CombinerView) (numbers : List ℕ) (serial most : ℕ) (P : Type 0)
    → IfOk r (λ taken. IfNone taken (P × (m ≡ n))) → IfOk r (λ taken. IfSome taken (λ _. HasHandedOut serial most n m)) → OnErr r (m ≡ n)
    → IsServed n seat numbers → GoesOn n m seat numbers
handed_served (Ok None) n m seat numbers serial most P none some failed s = same_on n m seat numbers none.1 s
handed_served (Ok (Some t)) n m seat numbers serial most P none some failed s = handed_on n m seat numbers serial most some s
handed_served (Err memory) n m seat numbers serial most P none some failed s = same_on n m seat numbers failed s

-- so they are for one connection after the other
pub all_handed_on : (most : ℕ) (serials : List ℕ) (pieces : List LastPiece) (n m : NodeState) (seat : CombinerView) (numbers : List ℕ)
    → AreHanded most serials pieces n m → IsServed n seat numbers → GoesOn n m seat numbers
all_handed_on most [] [] n m seat numbers same s = same_on n m seat numbers same s
all_handed_on most [] (one ∷ pieces) n m seat numbers h s = absurd h
all_handed_on most (serial ∷ serials) [] n m seat numbers h s = absurd h
all_handed_on most (serial ∷ serials) (one ∷ pieces) n m seat numbers (mid, first, rest) s =
    let there = handed_on n mid seat numbers serial most first.handed s in
    let on = all_handed_on most serials pieces mid m seat numbers rest there.0 in
    (on.0, there.1 ∙ on.1)

-- a token was made
pub kept_still : (n m : NodeState) (seat : CombinerView) (numbers : List ℕ) → IsStill n m → IsServed n seat numbers → IsServed m seat numbers
kept_still n m seat numbers still s =
    served_same n m seat numbers (ap (λ (b : Book). b.node) still.book) (ap (λ (r : ReplicaState). r.owed) still.replica)
    (subst (AreServedOn n.replica.members) (sym (ap (λ (r : ReplicaState). r.members) still.replica)) (λ c near. (near, refl)))
    (ap (λ (x : Standing). x.history) still.standing)
    (same_keeps n m still.standing still.next (ap (λ (r : ReplicaState). r.waiting) still.replica) (ap (λ (r : ReplicaState). r.down) still.replica))
    (same_jobs (IsOwnOfBatch n seat.desks) n m still.standing still.next (ap (λ (r : ReplicaState). r.waiting) still.replica) s.handed_in) s

-- the tail was looked at, and the server may be lent
pub lent_served : (n m : NodeState) (seat : CombinerView) (numbers : List ℕ) → LooksAtTail n m → IsServed n seat numbers → GoesOn n m seat numbers
lent_served n m seat numbers l s =
    let done : record_of m.seat.standing.history ≡ record_of n.seat.standing.history = ap (λ (x : Standing). record_of x.history) l.standing.1 in
    let behind : unpassed m.seat.standing ≡ unpassed n.seat.standing = ap unpassed l.standing.1 in
    let due : items_of m.next ≡ items_of n.next = ap items_of l.next in
    let waits : items_of m.replica.waiting ≡ items_of n.replica.waiting = ap (λ (r : ReplicaState). items_of r.waiting) l.replica in
    let all : jobs_of m ≡ jobs_of n = λ i. (done i ++ jobs_reserved (behind i)) ++ (due i ++ waits i) in
    let jobs : AllJobs (IsOwnOfBatch n seat.desks) m = record {
      done = subst (AllByRecursion (IsOwnOfBatch n seat.desks)) (sym done) s.handed_in.done;
      reserved = subst (λ (rs : List (ℕ × Entry)). AllByRecursion (IsOwnOfBatch n seat.desks) (jobs_reserved rs)) (sym behind) s.handed_in.reserved;
      due = subst (AllByRecursion (IsOwnOfBatch n seat.desks)) (sym due) s.handed_in.due;
      waits = subst (AllByRecursion (IsOwnOfBatch n seat.desks)) (sym waits) s.handed_in.waits;
    } in (
      served_same n m seat numbers (ap (λ (b : Book). b.node) l.book) (ap (λ (r : ReplicaState). r.owed) l.replica)
          (subst (AreServedOn n.replica.members) (sym (ap (λ (r : ReplicaState). r.members) l.replica)) (λ c near. (near, refl)))
          (ap (λ (x : Standing). x.history) l.standing.1)
          (λ up. (sym (ap (λ (r : ReplicaState). r.down) l.replica) ∙ up, λ job a. subst (IsAmong job) (sym all) a)) jobs s,
      ap (λ (b : Book). b.node) (sym l.book),
    )

-- the next entry is refused, where it is up
abbrev refused_node : NodeState → NodeState
refused_node n = record n { replica = record n.replica { refused = true } }

pub refusing_served : (n m : NodeState) (seat : CombinerView) (numbers : List ℕ) → m ≡ refusing_node n → IsServed n seat numbers → GoesOn n m seat numbers
refusing_served n m seat numbers is s = subst (λ (x : NodeState). GoesOn n x seat numbers) (sym is) (elim (cases_Bool n.replica.down) [
  | inl down ↦ same_on n (refusing_node n) seat numbers (ap (λ b. cond b n (refused_node n)) down) s
  | inr up ↦ subst (λ (x : NodeState). GoesOn n x seat numbers) (sym (ap (λ b. cond b n (refused_node n)) up)) (
    served_same n (refused_node n) seat numbers refl refl (λ c near. (near, refl)) refl (same_keeps n (refused_node n) refl refl refl refl)
        (same_jobs (IsOwnOfBatch n seat.desks) n (refused_node n) refl refl refl s.handed_in) s,
    refl,
  )
])

-- nothing was lifted yet, and nothing is owed
pub fresh_served : (n : NodeState) (seat : CombinerView) (numbers : List ℕ) (workers : ℕ) → n.replica.owed ≡ replicate workers None → seat.desks ≡ replicate workers no_desk
    → length numbers ≡ workers → AllJobs (IsOwnOfBatch n seat.desks) n → IsServed n seat numbers
fresh_served n seat numbers workers owed desks long jobs =
    let owed_long : length n.replica.owed ≡ workers = ap length owed ∙ length-replicate {A = Option ℕ} workers None in
    let idle : (w : ℕ) → w < length n.replica.owed → owed_at w n ≡ None =
    λ w near. ap (λ (os : List (Option ℕ)). get_or os w None) owed ∙ get_or-replicate {A = Option ℕ} workers w None None (subst (λ (k : ℕ). w < k) owed_long near) in
    let empty : (w : ℕ) → w < length n.replica.owed → desk_of seat w ≡ no_desk =
    λ w near. ap (λ (ds : List CombinerPast). get_or ds w no_desk) desks ∙ get_or-replicate {A = CombinerPast} workers w no_desk no_desk (subst (λ (k : ℕ). w < k) owed_long near) in
    record {
      workers = ap length desks ∙ length-replicate {A = CombinerPast} workers no_desk ∙ sym owed_long;
      numbered = long ∙ sym owed_long;
      desks = λ w near. subst (IsDesk n w (get_or numbers w 0) (desk_of seat w)) (sym (idle w near))
          (subst (λ (d : CombinerPast). length d.lifted ≡ length d.answered) (sym (empty w near)) refl);
      executed = λ w near. subst (λ (d : CombinerPast). AreExecuted (record_of n.seat.standing.history) d.lifted d.answered) (sym (empty w near)) tt;
      handed_in = jobs;
    }
