-- In a round each node passes the whole log.
use Rattle.std.proofs.Common.{◌≡◌, ℕ, zero, suc, ◌+◌, ◌-◌, ◌≤◌, ◌<◌, Bool, true, false, not, inl, inr, List, [], ◌∷◌, ◌++◌, length, map, refl, ap, sym, ◌∙◌, subst, arith, append_assoc}
use Rattle.std.specs.Prelude.{◌&&◌, ◌==◌}
use Rattle.std.proofs.lemmas.Bool.{cases_Bool, cond_both, eqb-true, not-true}
use Rattle.std.proofs.lemmas.Bool.Decides.{eqb_tells}
use Rattle.std.proofs.lemmas.List.{append-nil}
use Rattle.std.proofs.Math.Bool.{and-false}
use Rattle.nr_model.specs.Entries.{Jobs, read_jobs}
use Rattle.nr_model.specs.Connections.{Setup}
use Rattle.nr_model.specs.Nodes.{Client, Slot, Empty, Posted, Lifted, Answered, Worker, Node, no_node, Logged, World, Reads, node_at, worker_at, logged_at, with_node, log_of, tail_of}
use Rattle.nr_model.specs.Nodes.Steps.{Step, Fetch, Apply, Look, Done, Refused, is_node, is_posted, is_filled, outcome, came_to, owing_less, executed_from, jobs_of_worker, is_owed, with_executed, with_reads, advanced, advanced_by, after_step}
use Rattle.nr_model.specs.declared.reason.Reason.TheVariants.{NoSuch, Down, Busy, Nothing, NotYet}
use Rattle.nr_model.specs.Nodes.Pasts.{Event, is_done, IsEvent, AreEvents, after_event}
use Rattle.nr_model.specs.Nodes.Settling.{in_turn, applying, is_idle, after_events}
use Rattle.nr_model.proofs.NodesSteps.{came_idle, by_look, are_last, world_after-append}
use Rattle.nr_model.proofs.NodesOwnPlaces.{log_of-append}
use Rattle.nr_model.proofs.NodesOwnAdvance.{by_advance, next_entry}
use Rattle.nr_model.proofs.NodesOwnShape.{worker_in, executed_at}
use Rattle.nr_model.proofs.NodesRoundsLeft.{by_outcome}
use Rattle.nr_model.proofs.NodesRoundsRuns.{idle_tells, done_tells, at_keep, IsRun, cut, Leads, leads_none, leads_on, leads_one}
use Rattle.nr_model.proofs.NodesRoundsParts.{is_in, IsTaken, AreTaken, cell, AreFilled, HasPassed}

-- jobs that are executed leave a slot lifted
posted_owing : (n : ℕ) (slot : Slot) → is_posted slot ≡ false → is_posted (owing_less n slot) ≡ false
posted_owing n Empty e = e
posted_owing n (Posted jobs) e = e
posted_owing n (Lifted owed) e = e
posted_owing n (Answered executed) e = e

executed_taken : (clients : List Client) (jobs : Jobs) (workers : List Worker) (v : ℕ) → is_posted (worker_in workers v).slot ≡ false
    → is_posted (worker_in (executed_from 0 clients jobs workers) v).slot ≡ false
executed_taken clients jobs workers v e =
    subst (λ (x : Worker). is_posted x.slot ≡ false) (sym (executed_at 0 clients jobs workers v))
    (posted_owing (length (jobs_of_worker (0 + v) clients jobs)) (worker_in workers v).slot e)

-- an entry that is passed leaves batches lifted, and cells filled
advanced_taken : (v : ℕ) (refused : Refused) (n : ℕ) (log : List Logged) (node : Node) → IsTaken v node → IsTaken v (advanced refused n log node)
advanced_taken v refused n log node p =
    let entry = next_entry log node in
    by_advance (IsTaken v) refused n log node (λ down up. absurd (cc (down, up))) (λ up still. absurd (cc still))
    (λ up still.
    cond_both (is_owed n entry node) (with_executed entry.jobs node) node (λ (x : Node). is_posted (worker_at v x).slot ≡ false)
    (λ own. executed_taken node.clients entry.jobs node.workers v (p up)) (λ other. p up))

advanced_filled : (s : ℕ) (refused : Refused) (n : ℕ) (log : List Logged) (node : Node) → cell node s ≡ false → cell (advanced refused n log node) s ≡ false
advanced_filled s refused n log node p =
    let entry = next_entry log node in
    by_advance (λ (x : Node). cell x s ≡ false) refused n log node (λ down. p) (λ up. p)
    (λ up. cond_both (is_owed n entry node) (with_executed entry.jobs node) node (λ (x : Node). cell x s ≡ false) (λ own. p) (λ other. p))

-- the nodes before one have passed the whole log
pub record InTurn (setup : Setup) (n : ℕ) (world : World) : Type 0 where
  pub taken : AreTaken setup world
  pub filled : AreFilled world
  pub passed : (m : ℕ) → m < n → HasPassed (tail_of world) (node_at m world)

apply_turn : (setup : Setup) (n : ℕ) (world : World) (refused : Refused) → InTurn setup n world → InTurn setup n (after_step setup world (Apply n) refused)
apply_turn setup n world refused j =
    let node = node_at n world in
    let log = log_of world.taken in
    let new = advanced refused n log node in
    by_outcome (InTurn setup n) (outcome setup world (Apply n)) setup world (Apply n) refused (λ idle. j)
    (λ done. record {
      taken = λ m v hm hv. at_keep (IsTaken v) world.nodes no_node m n new (λ e p. advanced_taken v refused n log node p) (j.taken m v hm hv);
      filled = λ m s. at_keep (λ (x : Node). cell x s ≡ false) world.nodes no_node m n new (λ e p. advanced_filled s refused n log node p) (j.filled m s);
      passed = λ m hm. at_keep (HasPassed (tail_of world)) world.nodes no_node m n new (λ e p. absurd (omega arith)) (j.passed m hm);
    })

fetch_turn : (setup : Setup) (n : ℕ) (world : World) (refused : Refused) → InTurn setup n world → InTurn setup n (after_step setup world (Fetch n) refused)
fetch_turn setup n world refused j =
    let new : Node = record (node_at n world) { fetched = true } in
    by_outcome (InTurn setup n) (outcome setup world (Fetch n)) setup world (Fetch n) refused (λ idle. j)
    (λ done. record {
      taken = λ m v hm hv. at_keep (IsTaken v) world.nodes no_node m n new (λ e p. p) (j.taken m v hm hv);
      filled = λ m s. at_keep (λ (x : Node). cell x s ≡ false) world.nodes no_node m n new (λ e p. p) (j.filled m s);
      passed = λ m hm. at_keep (HasPassed (tail_of world)) world.nodes no_node m n new (λ e p. absurd (omega arith)) (j.passed m hm);
    })

turns_lead : (setup : Setup) (n turns : ℕ) → Leads setup (in_turn n turns) (InTurn setup n) (InTurn setup n)
turns_lead setup n zero = leads_none setup (InTurn setup n)
turns_lead setup n (suc turns) =
    let J = InTurn setup n in
    leads_on setup (Apply n ∷ []) (Fetch n ∷ in_turn n turns) J J J (leads_one setup (Apply n) J J (apply_turn setup n))
    (leads_on setup (Fetch n ∷ []) (in_turn n turns) J J J (leads_one setup (Fetch n) J J (fetch_turn setup n)) (turns_lead setup n turns))

-- one more
one_more : (setup : Setup) (n : ℕ) (world : World) → ((m : ℕ) → m < n → HasPassed (tail_of world) (node_at m world))
    → HasPassed (tail_of world) (node_at n world) → (m : ℕ) → m < suc n → HasPassed (tail_of world) (node_at m world)
one_more setup n world before here m h = elim (eqb_tells m n) [
  | inl e ↦ subst (λ (k : ℕ). HasPassed (tail_of world) (node_at k world)) (sym e.1) here
  | inr e ↦ let other = e.1 in before m (omega arith)
]

look_turn : (setup : Setup) (n : ℕ) (world : World) (refused : Refused) → InTurn setup n world → HasPassed (tail_of world) (node_at n world)
    → InTurn setup (suc n) (after_step setup world (Look n) refused)
look_turn setup n world refused j here =
    let node = node_at n world in
    let log = log_of world.taken in
    let tail = tail_of world in
    let passed = here.passed in
    let none : tail - node.passed ≡ 0 = omega arith in
    let same = ap (λ (k : ℕ). advanced_by k refused n log node) (sym none) in
    let jobs = read_jobs node.waiting in
    let new = with_reads refused.cuts tail node in
    let all = one_more setup n world j.passed here in
    by_outcome (InTurn setup (suc n)) (outcome setup world (Look n)) setup world (Look n) refused
    (λ idle. record { taken = j.taken; filled = j.filled; passed = all })
    (λ done.
    let there = done_tells (not (is_node setup n)) NoSuch _ done in
    let up = (done_tells node.down Down _ there.1).0 in
    by_look (InTurn setup (suc n)) refused n world node same (λ down. absurd (cc (up, down)))
    (λ on. record {
      taken = λ m v hm hv.
          at_keep (IsTaken v) world.nodes no_node m n new (λ e p still. executed_taken node.clients jobs node.workers v (p still)) (j.taken m v hm hv);
      filled = λ m s. at_keep (λ (x : Node). cell x s ≡ false) world.nodes no_node m n new (λ e p. p) (j.filled m s);
      passed = λ m hm.
          let long : length (log_of (world.taken ++ Reads n node.applied jobs ∷ [])) ≡ tail =
          ap length (log_of-append world.taken (Reads n node.applied jobs ∷ []) ∙ append-nil log) in
          subst (λ (t : ℕ). HasPassed t (node_at m (with_node n new world))) (sym long)
          (at_keep (HasPassed tail) world.nodes no_node m n new (λ e p. record { free = p.free; passed = p.passed }) (all m hm));
    }))

-- what an apply and a fetch tell that aren't done
apply_idle : (setup : Setup) (n : ℕ) (world : World) → n < setup.nodes → is_done (outcome setup world (Apply n)) ≡ false → (node_at n world).fetched ≡ false
apply_idle setup n world hn idle =
    let node = node_at n world in
    let there = idle_tells (not (is_node setup n)) NoSuch _ idle (is_in n setup.nodes hn) in
    elim (cases_Bool node.fetched) [ inl e ↦ absurd (cc (idle_tells (not node.fetched) Nothing Done there (ap not e))) | inr e ↦ e ]

fetch_idle : (setup : Setup) (n : ℕ) (world : World) → n < setup.nodes → (node_at n world).fetched ≡ false → AreFilled world
    → is_done (outcome setup world (Fetch n)) ≡ false → (node_at n world).passed ≡ tail_of world
fetch_idle setup n world hn free filled idle =
    let node = node_at n world in
    let there = idle_tells (not (is_node setup n)) NoSuch _ idle (is_in n setup.nodes hn) in
    let on = idle_tells node.fetched Busy _ there free in
    let by = (logged_at node.passed world).node in
    let test = (node_at by world).at == node.passed in
    let whole : not (is_filled world n node.passed) ≡ false =
    ap (λ (b : Bool). not (not (test && b))) (filled by n) ∙ ap (λ (b : Bool). not (not b)) (and-false test) in
    elim (cases_Bool (node.passed == tail_of world)) [
      | inl e ↦ eqb-true node.passed (tail_of world) e
      | inr e ↦ absurd (cc (idle_tells (not (is_filled world n node.passed)) NotYet Done (idle_tells (node.passed == tail_of world) Nothing _ on e) whole))
    ]

-- a step that isn't done changes nothing
pub idle_still : (setup : Setup) (world : World) (step : Step) (refused : Refused) → is_done (outcome setup world step) ≡ false
    → after_step setup world step refused ≡ world
idle_still setup world step refused idle =
    let none = came_idle setup world step refused idle in
    by_outcome (λ (x : World). x ≡ world) (came_to setup world step refused) setup world step refused (λ h. refl) (λ done. absurd (cc (none, done)))

-- an event that isn't done
idle_outcome : (setup : Setup) (world : World) (e : Event) (step : Step) → IsEvent setup world e → e.step ≡ step → is_idle e.outcome ≡ true
    → is_done (came_to setup world step e.refused) ≡ false
idle_outcome setup world e step is here idle =
    ap (λ (s : Step). is_done (came_to setup world s e.refused)) (sym here) ∙ ap is_done (sym is.outcome_is) ∙ not-true (is_done e.outcome) idle

-- a node that had nothing to apply and nothing to fetch has passed the whole log
passed_from : (setup : Setup) (n : ℕ) (world : World) (apply fetch : Event) (back : List Event) → n < setup.nodes
    → AreEvents setup world (apply ∷ fetch ∷ back) → apply.step ≡ Apply n → fetch.step ≡ Fetch n
    → is_idle apply.outcome ≡ true → is_idle fetch.outcome ≡ true
    → AreFilled (after_events setup world (apply ∷ fetch ∷ []))
    → HasPassed (tail_of (after_events setup world (apply ∷ fetch ∷ []))) (node_at n (after_events setup world (apply ∷ fetch ∷ [])))
passed_from setup n world apply fetch back hn are applies fetches first second filled =
    let none = idle_outcome setup world apply (Apply n) are.0 applies first in
    let next = after_event setup world apply in
    let same : next ≡ world =
    ap (λ (s : Step). after_step setup world s apply.refused) applies ∙ idle_still setup world (Apply n) apply.refused none in
    let no_more = idle_outcome setup next fetch (Fetch n) are.1.0 fetches second in
    let last : after_events setup world (apply ∷ fetch ∷ []) ≡ next =
    ap (λ (s : Step). after_step setup next s fetch.refused) fetches ∙ idle_still setup next (Fetch n) fetch.refused no_more in
    let whole = last ∙ same in
    let all = subst AreFilled whole filled in
    let free = apply_idle setup n world hn none in
    subst (λ (x : World). HasPassed (tail_of x) (node_at n x)) (sym whole) (record {
      free = free;
      passed = fetch_idle setup n world hn free all (subst (λ (x : World). is_done (outcome setup x (Fetch n)) ≡ false) same no_more);
    })

-- the first event of a run
record Headed (setup : Setup) (world : World) (step : Step) (steps : List Step) (events : List Event) : Type 0 where
  first : Event
  rest : List Event
  is : events ≡ first ∷ rest
  step_is : first.step ≡ step
  run : IsRun setup (after_event setup world first) steps rest

headed : (setup : Setup) (world : World) (step : Step) (steps : List Step) (events : List Event) → IsRun setup world (step ∷ steps) events
    → Headed setup world step steps events
headed setup world step steps [] run = let all = run.made in absurd (cc all)
headed setup world step steps (e ∷ events) run =
    let all = run.made in
    let here : e.step ≡ step = cc in
    let more : map (λ (e : Event). e.step) events ≡ steps = cc in
    record { first = e; rest = events; is = refl; step_is = here; run = record { are = run.are.1; made = more } }

joined : (a b : List Event) (x : Event) (r k : List Event) → a ++ ((b ++ x ∷ r) ++ k) ≡ (a ++ b) ++ x ∷ (r ++ k)
joined a b x r k = simp append_assoc

joined_on : (a b : List Event) (x : Event) (r k : List Event) → (a ++ b) ++ x ∷ (r ++ k) ≡ ((a ++ b) ++ x ∷ []) ++ (r ++ k)
joined_on a b x r k = simp append_assoc

joined_pair : (a : List Event) (x y z : Event) (k : List Event) → (a ++ x ∷ y ∷ []) ++ z ∷ k ≡ a ++ x ∷ y ∷ z ∷ k
joined_pair a x y z k = simp append_assoc

-- what a round says of the events before a look
pub record Looks (setup : Setup) (events : List Event) : Type 0 where
  pub until : (n : ℕ) (front back : List Event) (apply fetch look : Event) → events ≡ front ++ apply ∷ fetch ∷ look ∷ back → look.step ≡ Look n
      → (is_idle apply.outcome ≡ true) × (is_idle fetch.outcome ≡ true)
  pub some : (n : ℕ) (front back : List Event) (look : Event) → events ≡ front ++ look ∷ back → look.step ≡ Look n
      → (before : List Event) × (apply : Event) × (fetch : Event) × (front ≡ before ++ apply ∷ fetch ∷ []) × (apply.step ≡ Apply n) × (fetch.step ≡ Fetch n)

-- so a node has passed the whole log where it looks
passed_at_look : (setup : Setup) (world : World) (events : List Event) → AreEvents setup world events → Looks setup events
    → (n : ℕ) (front back : List Event) (look : Event) → n < setup.nodes → events ≡ front ++ look ∷ back → look.step ≡ Look n
    → AreFilled (after_events setup world front) → HasPassed (tail_of (after_events setup world front)) (node_at n (after_events setup world front))
passed_at_look setup world events are looks n front back look hn is step filled =
    let s = looks.some n front back look is step in
    let before = s.0 in
    let apply = s.1 in
    let fetch = s.2 in
    let whole = is ∙ ap (λ (es : List Event). es ++ look ∷ back) s.3 ∙ joined_pair before apply fetch look back in
    let idle = looks.until n before back apply fetch look whole step in
    let at = after_events setup world before in
    let later = are_last setup world before (apply ∷ fetch ∷ look ∷ back) (subst (AreEvents setup world) whole are) in
    let same : after_events setup world front ≡ after_events setup at (apply ∷ fetch ∷ []) =
    ap (after_events setup world) s.3 ∙ world_after-append setup world before (apply ∷ fetch ∷ []) in
    subst (λ (x : World). HasPassed (tail_of x) (node_at n x)) (sym same)
    (passed_from setup n at apply fetch (look ∷ back) hn later s.4 s.5 idle.0 idle.1 (subst AreFilled same filled))

-- the turns of the nodes from one on
pub applying_from : (setup : Setup) (first : World) (whole : List Event) → AreEvents setup first whole → Looks setup whole
    → (turns : List ℕ) (n : ℕ) (front events back : List Event) (world : World) → whole ≡ front ++ (events ++ back)
    → world ≡ after_events setup first front → n + length turns ≤ setup.nodes
    → IsRun setup world (applying n turns) events → InTurn setup n world → InTurn setup (n + length turns) (after_events setup world events)
applying_from setup first whole are looks [] n front events back world is at within run j =
    let e : n ≡ n + 0 = omega arith in
    subst (λ (k : ℕ). InTurn setup k (after_events setup world events)) e (leads_none setup (InTurn setup n) world events run j)
applying_from setup first whole are looks (turns ∷ more) n front events back world is at within run j =
    let c = cut setup (in_turn n turns) (Look n ∷ applying (suc n) more) world events run in
    let middle = after_events setup world c.front in
    let h = headed setup middle (Look n) (applying (suc n) more) c.back c.behind in
    let look = h.first in
    let events_are : events ≡ c.front ++ look ∷ h.rest = c.is ∙ ap (λ (es : List Event). c.front ++ es) h.is in
    let whole_is : whole ≡ (front ++ c.front) ++ look ∷ (h.rest ++ back) =
    is ∙ ap (λ (es : List Event). front ++ (es ++ back)) events_are ∙ joined front c.front look h.rest back in
    let turned = turns_lead setup n turns world c.front c.before j in
    let middle_is : middle ≡ after_events setup first (front ++ c.front) =
    ap (λ (w : World). after_events setup w c.front) at ∙ sym (world_after-append setup first front c.front) in
    let here : HasPassed (tail_of middle) (node_at n middle) =
    subst (λ (x : World). HasPassed (tail_of x) (node_at n x)) (sym middle_is)
    (passed_at_look setup first whole are looks n (front ++ c.front) (h.rest ++ back) look (omega arith) whole_is h.step_is
    (subst AreFilled middle_is turned.filled)) in
    let next = after_event setup middle look in
    let there : InTurn setup (suc n) next =
    subst (λ (s : Step). InTurn setup (suc n) (after_step setup middle s look.refused)) (sym h.step_is) (look_turn setup n middle look.refused turned here) in
    let next_is : next ≡ after_events setup first ((front ++ c.front) ++ look ∷ []) =
    ap (λ (w : World). after_event setup w look) middle_is ∙ sym (world_after-append setup first (front ++ c.front) (look ∷ [])) in
    let all = applying_from setup first whole are looks more (suc n) ((front ++ c.front) ++ look ∷ []) h.rest back next
    (whole_is ∙ joined_on front c.front look h.rest back) next_is (omega arith) h.run there in
    let e : suc n + length more ≡ n + suc (length more) = omega arith in
    let last : after_events setup world events ≡ after_events setup next h.rest =
    ap (after_events setup world) events_are ∙ world_after-append setup world c.front (look ∷ h.rest) in
    subst (λ (x : World). InTurn setup (n + suc (length more)) x) (sym last)
    (subst (λ (k : ℕ). InTurn setup k (after_events setup next h.rest)) e all)
