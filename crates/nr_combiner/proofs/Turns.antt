-- What a turn of the combiner does to its node: what was kept holds on.
use Rattle.std.proofs.Common.{◌≡◌, ℕ, zero, suc, Bool, inl, inr, ◌⊎◌, List, [], ◌∷◌, ◌++◌, map, length, Option, Some, None, refl, ap, sym, ◌∙◌, subst, arith, get_or}
use Rattle.std.specs.Prelude.{◌≢◌, ◌<◌, OnErr, Result, Ok, Err}
use Rattle.nr_model.specs.Bytes.{IsBeginningOf}
use Rattle.nr_model.proofs.NodesExecutedGrows.{begins_itself}
use Rattle.nr_blob.specs.declared.memory.Memory.{Memory}
use Rattle.nr_entry.specs.declared.entry.Entry.{Entry}
use Rattle.nr_entry.specs.declared.job.Job.{Job}
use Rattle.nr_log_end.specs.declared.standing.Standing.{Standing}
use Rattle.nr_log_end.specs.declared.standing.LogEvent.{LogEvent}
use Rattle.nr_log_end.specs.declared.standing.LogEvent.TheVariants.{Applied, Ran}
use Rattle.nr_log_end.specs.Standings.{record_of}
use Rattle.nr_log_end.specs.Tries.{IsFull, IsLost}
use Rattle.nr_job_numbers.specs.Book.{Book}
use Rattle.nr_replica.specs.Members.{Member, fresh_member}
use Rattle.nr_replica.specs.Replicas.{ReplicaState}
use Rattle.nr_slots.specs.Seats.{CombinerView}
use Rattle.nr_node.specs.Advanced.{HaveGot}
use Rattle.nr_node.specs.Level.{NodeState}
use Rattle.nr_node.specs.Owing.{awaited}
use Rattle.nr_node.specs.Steps.{GoesOnWaiting}
use Rattle.nr_node.specs.declared.answers.Round.{Round}
use Rattle.nr_node.specs.declared.answers.Round.TheVariants as rounds
use Rattle.nr_node.proofs.Lists.{record-append}
use Rattle.nr_node.proofs.Owed.{as_many}
use Rattle.nr_combiner.specs.Served.{owed_at, IsOwnOfBatch, AllJobs, IsServed}
use Rattle.nr_combiner.specs.Steps.{HasPut, ComesTo, HasLooked, by_try, outcome_of}
use Rattle.nr_combiner.proofs.Among.{Keeps, tried_keeps, looked_keeps}
use Rattle.nr_combiner.proofs.Deeds.{speaks_of, tried_all, looked_all}
use Rattle.nr_combiner.proofs.Grows.{IsStill, still_itself, AreServedOn, Grows, served_still}

-- what is owed at one worker
pub still_at : (a b : List (Option ℕ)) → awaited b ≡ awaited a → (worker : ℕ) → IsStill (get_or a worker None) (get_or b worker None)
still_at [] [] same worker = tt
still_at [] (y ∷ b) same worker = absurd (cc same)
still_at (x ∷ a) [] same worker = absurd (cc same)
still_at (None ∷ a) (None ∷ b) same zero = tt
still_at (None ∷ a) (Some y ∷ b) same zero = absurd (cc same)
still_at (Some x ∷ a) (None ∷ b) same zero = absurd (cc same)
still_at (Some x ∷ a) (Some y ∷ b) same zero = tt
still_at (x ∷ a) (y ∷ b) same (suc worker) = still_at a b (cc same) worker

-- connections are as many, of the same workers
pub served_as : (olds news : List Member) → news ≡ olds → AreServedOn olds news
served_as olds news same = subst (AreServedOn olds) (sym same) (λ c near. (near, refl))

-- the record and what is owed stay too
pub served_same : (n m : NodeState) (seat : CombinerView) (numbers : List ℕ) → m.book.node ≡ n.book.node → m.replica.owed ≡ n.replica.owed
    → AreServedOn n.replica.members m.replica.members → m.seat.standing.history ≡ n.seat.standing.history → Keeps n m → AllJobs (IsOwnOfBatch n seat.desks) m
    → IsServed n seat numbers → IsServed m seat numbers
served_same n m seat numbers node owed members history keeps jobs s =
    let r = record_of n.seat.standing.history in
    let grows : Grows n m = record {
      node = node;
      workers = ap length owed;
      members = members;
      keeps = keeps;
      log = subst (λ (h : List LogEvent). IsBeginningOf r (record_of h)) (sym history) (begins_itself r);
    } in
    served_still n m seat numbers grows
    (λ worker. subst (λ (os : List (Option ℕ)). IsStill (owed_at worker n) (get_or os worker None)) (sym owed) (still_itself (owed_at worker n))) jobs s

still_served : (n m : NodeState) (seat : CombinerView) (numbers : List ℕ) → m ≡ n → IsServed n seat numbers → IsServed m seat numbers
still_served n m seat numbers same s = subst (λ (x : NodeState). IsServed x seat numbers) (sym same) s

waiting_served : (n m : NodeState) (seat : CombinerView) (numbers : List ℕ) → GoesOnWaiting n m → Keeps n m → AllJobs (IsOwnOfBatch n seat.desks) m
    → IsServed n seat numbers → IsServed m seat numbers
waiting_served n m seat numbers h keeps jobs s =
    served_same n m seat numbers (ap (λ (b : Book). b.node) h.book) (ap (λ (r : ReplicaState). r.owed) h.left.replica)
    (served_as n.replica.members m.replica.members (ap (λ (r : ReplicaState). r.members) h.left.replica)) (ap (λ (x : Standing). x.history) h.met.standing) keeps jobs s

tried_by_cases : (places : ℕ) (r : Result Round Memory) (n m : NodeState) (seat : CombinerView) (numbers : List ℕ) → ComesTo places r n m → Keeps n m
    → AllJobs (IsOwnOfBatch n seat.desks) m → IsServed n seat numbers → IsServed m seat numbers
tried_by_cases places (Ok rounds.Done) n m seat numbers (inl (at, entry, h)) keeps jobs s =
    served_same n m seat numbers (ap (λ (b : Book). b.node) h.book) (ap (λ (r : ReplicaState). r.owed) h.left.replica)
    (served_as n.replica.members m.replica.members (ap (λ (r : ReplicaState). r.members) h.left.replica)) (ap (λ (x : Standing). x.history) h.reserved.standing) keeps jobs s
tried_by_cases places (Ok rounds.Done) n m seat numbers (inr h) keeps jobs s =
    served_same n m seat numbers (ap (λ (x : NodeState). x.book.node) h.same) (ap (λ (r : ReplicaState). r.owed) h.left.replica)
    (served_as n.replica.members m.replica.members (ap (λ (r : ReplicaState). r.members) h.left.replica)) (ap (λ (x : NodeState). x.seat.standing.history) h.same) keeps jobs s
tried_by_cases places (Ok rounds.Full) n m seat numbers h keeps jobs s = waiting_served n m seat numbers h.0 keeps jobs s
tried_by_cases places (Ok rounds.Again) n m seat numbers h keeps jobs s = waiting_served n m seat numbers h.0 keeps jobs s
tried_by_cases places (Ok rounds.NotYet) n m seat numbers h keeps jobs s = absurd h
tried_by_cases places (Ok rounds.Down) n m seat numbers same keeps jobs s = still_served n m seat numbers same s
tried_by_cases places (Err memory) n m seat numbers (inl same) keeps jobs s = still_served n m seat numbers same s
tried_by_cases places (Err memory) n m seat numbers (inr h) keeps jobs s = waiting_served n m seat numbers h keeps jobs s

pub tried_served : (places : ℕ) (r : Result Round Memory) (n m : NodeState) (seat : CombinerView) (numbers : List ℕ) → ComesTo places r n m
    → IsServed n seat numbers → IsServed m seat numbers
tried_served places r n m seat numbers h s =
    tried_by_cases places r n m seat numbers h (tried_keeps places r n m h) (tried_all (IsOwnOfBatch n seat.desks) places r n m h s.handed_in) s

pub tried_book : (places : ℕ) (r : Result Round Memory) (n m : NodeState) → ComesTo places r n m → m.book ≡ n.book
tried_book places (Ok rounds.Done) n m (inl (at, entry, h)) = h.book
tried_book places (Ok rounds.Done) n m (inr h) = ap (λ (x : NodeState). x.book) h.same
tried_book places (Ok rounds.Full) n m h = h.0.book
tried_book places (Ok rounds.Again) n m h = h.0.book
tried_book places (Ok rounds.NotYet) n m h = absurd h
tried_book places (Ok rounds.Down) n m same = ap (λ (x : NodeState). x.book) same
tried_book places (Err memory) n m (inl same) = ap (λ (x : NodeState). x.book) same
tried_book places (Err memory) n m (inr h) = h.book

-- what connections got leaves them with their workers
got_at : (olds news : List Member) (d : Member) → HaveGot olds news → (serial : ℕ) → serial < length olds
    → (serial < length news) × ((get_or news serial d).worker ≡ (get_or olds serial d).worker)
got_at [] news d got serial near = absurd (omega arith)
got_at (old ∷ olds) [] d got serial near = absurd got
got_at (old ∷ olds) (new ∷ news) d got zero near = (omega arith, ap (λ (m : Member). m.worker) got.0.1)
got_at (old ∷ olds) (new ∷ news) d got (suc serial) near =
    let less : serial < length olds = omega (arith, near) in
    let rest = got_at olds news d got.1 serial less in
    (omega (arith, rest.0), rest.1)

got_served : (olds news : List Member) → HaveGot olds news → AreServedOn olds news
got_served olds news got c near = got_at olds news (fresh_member c 0 0) got c.serial near

pub looked_served : (looked : Result Round Memory) (behind : Bool) (entries : List Entry) (ran : List Job) (tail : ℕ) (n m : NodeState) (seat : CombinerView) (numbers : List ℕ)
    → HasLooked looked behind entries ran tail n m → IsServed n seat numbers → IsServed m seat numbers
looked_served looked behind entries ran tail n m seat numbers h s =
    let more = map Applied entries ++ map Ran ran in
    let r = record_of n.seat.standing.history in
    let longer : record_of m.seat.standing.history ≡ r ++ record_of more =
    ap (λ (x : Standing). record_of x.history) h.by.standing ∙ record-append n.seat.standing.history more in
    let grows : Grows n m = record {
      node = h.by.closed.node;
      workers = as_many m.replica.owed n.replica.owed h.by.owed;
      members = got_served n.replica.members m.replica.members h.by.got;
      keeps = looked_keeps looked behind entries ran tail n m h;
      log = (record_of more, sym longer);
    } in
    served_still n m seat numbers grows (still_at n.replica.owed m.replica.owed h.by.owed) (looked_all (IsOwnOfBatch n seat.desks) looked behind entries ran tail n m (speaks_of n seat.desks) h s.handed_in) s

-- what a try to reserve came to
pub tried_by : (places : ℕ) (r : Result Round Memory) (n m : NodeState) → (r ≡ Ok rounds.Done → HasPut n m)
    → (r ≡ Ok rounds.Full → GoesOnWaiting n m) → (r ≡ Ok rounds.Again → GoesOnWaiting n m)
    → (r ≡ Ok rounds.Full → IsFull n.seat.standing n.seat.looks places m.seat.standing m.seat.looks)
    → (r ≡ Ok rounds.Again → IsLost n.seat.standing n.seat.looks m.seat.standing m.seat.looks) → (r ≡ Ok rounds.NotYet → ⊥)
    → (r ≡ Ok rounds.Down → m ≡ n)
    → OnErr r ((m ≡ n) ⊎ GoesOnWaiting n m) → ComesTo places r n m
tried_by places (Ok rounds.Done) n m done full again met_full met_lost never down failed = done refl
tried_by places (Ok rounds.Full) n m done full again met_full met_lost never down failed = (full refl, met_full refl)
tried_by places (Ok rounds.Again) n m done full again met_full met_lost never down failed = (again refl, met_lost refl)
tried_by places (Ok rounds.NotYet) n m done full again met_full met_lost never down failed = absurd (never refl)
tried_by places (Ok rounds.Down) n m done full again met_full met_lost never down failed = down refl
tried_by places (Err memory) n m done full again met_full met_lost never down failed = failed

-- a turn is down where its look was
tried_up : (tried : Result Round Memory) (looked : Round) → looked ≢ rounds.Down → by_try tried looked ≡ Ok rounds.Down → ⊥
tried_up (Err memory) looked up e = absurd (cc e)
tried_up (Ok rounds.Done) looked up e = up (cc e)
tried_up (Ok rounds.Full) looked up e = absurd (cc e)
tried_up (Ok rounds.Again) looked up e = absurd (cc e)
tried_up (Ok rounds.NotYet) looked up e = absurd (cc e)
tried_up (Ok rounds.Down) looked up e = absurd (cc e)

pub down_looked : (tried looked : Result Round Memory) → outcome_of tried looked ≡ Ok rounds.Down → looked ≡ Ok rounds.Down
down_looked tried (Err memory) e = absurd (cc e)
down_looked tried (Ok rounds.Down) e = refl
down_looked tried (Ok rounds.Done) e = absurd (tried_up tried rounds.Done (λ u. absurd (cc u)) e)
down_looked tried (Ok rounds.Full) e = absurd (tried_up tried rounds.Full (λ u. absurd (cc u)) e)
down_looked tried (Ok rounds.Again) e = absurd (tried_up tried rounds.Again (λ u. absurd (cc u)) e)
down_looked tried (Ok rounds.NotYet) e = absurd (tried_up tried rounds.NotYet (λ u. absurd (cc u)) e)
