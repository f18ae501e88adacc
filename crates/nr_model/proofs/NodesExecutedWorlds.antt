-- What the workers' slots say holds of every world that events lead to.
use Rattle.std.proofs.Common.{◌≡◌, ◌≢◌, ℕ, ◌+◌, ◌-◌, ◌<◌, Bool, true, false, not, cond, inl, inr, List, [], ◌∷◌, ◌++◌, length, map, take, drop, set, replicate, refl, ap, sym, ◌∙◌, subst, arith, Contains}
use Rattle.std.specs.Prelude.{◌==◌, ◌&&◌, ◌||◌, flat_map, fold}
use Rattle.std.proofs.lemmas.Bool.{cases_Bool, eqb-true}
use Rattle.std.proofs.lemmas.Bool.Decides.{eqb_tells}
use Rattle.std.proofs.lemmas.List.{append-nil, length-set, length-drop, get_or-drop}
use Rattle.std.proofs.lemmas.List.Elements.{Contains-append_cases, Contains-push_cases}
use Rattle.std.proofs.lemmas.Grind.{flat_map-append}
use Rattle.nr_model.specs.Items.{Item}
use Rattle.nr_model.specs.Entries.{Jobs, entry_jobs, read_jobs}
use Rattle.nr_model.specs.Connections.{Setup}
use Rattle.nr_model.specs.Nodes.{Client, fresh_client, Slot, Empty, Posted, Lifted, Answered, Worker, fresh_worker, Node, fresh_node, Taken, Entry, Reads, Batch, Logged, World, fresh, node_at, worker_at, client_at, with_node, with_worker, log_of, tail_of, jobs_taken}
use Rattle.nr_model.specs.Nodes.Steps.{is_free, is_posted, is_lifted, owed_in, posted_jobs, most_batch_jobs, posted_worker, cleared, emptied, advanced_by, with_reads, fed_client, closed_client}
use Rattle.nr_model.specs.Nodes.Pasts.{Event, after_event, world_after}
use Rattle.nr_model.specs.Nodes.Explained.{jobs_executed}
use Rattle.nr_model.proofs.NodesSteps.{Moves, each_step, each_sized, each_with, node_here, node_other, by_look, fresh_at, world_after-append}
use Rattle.nr_model.proofs.NodesOwnPlaces.{ArePlaced, applied_within, log_of-append, each_placed}
use Rattle.nr_model.proofs.NodesOwnShaped.{fresh_worker_at}
use Rattle.nr_model.proofs.NodesExecutedLists.{first_in, later_in}
use Rattle.nr_model.proofs.NodesExecutedServed.{IsServed, AreServed, each_served}
use Rattle.nr_model.proofs.NodesExecutedFits.{Standing, IsAt, IsOf, WorkerFits, fits_beside, fits_post, with_lifted, fits_lift, fits_lift_beside, fits_answer, fits_refusal, fits_taken}
use Rattle.nr_model.proofs.NodesExecutedNodes.{at_set, own_entry, unapplied, first_owed, owed_within, standing_of, NodeFits, KeepsWorkers, keeps_map, keeps_set, fits_clients, fits_open, advanced_going, ahead_going, reads_fit, emptied_worker, reserve_fits, reserve_beside, reads_beside, revived_fits}
use Rattle.nr_model.proofs.NodesOwnLeft.{none_batch}
use Rattle.nr_model.proofs.NodesSettledDropped.{AreDropped, each_dropped}

-- where an element of what was put together stands
in_parts : {A B : Type 0} (f : A → List B) (xs : List A) (y : B) → Contains (flat_map f xs) y → (x : A) × Contains xs x × Contains (f x) y
in_parts f [] y (k, below, is) = absurd (omega arith)
in_parts f (x ∷ xs) y h = elim (Contains-append_cases (f x) (flat_map f xs) y h) [
  | inl here ↦ (x, first_in x xs, here)
  | inr behind ↦ let p = in_parts f xs y behind in (p.0, later_in p.0 x xs p.1, p.2)
]

in_drop : {A : Type 0} (k : ℕ) (xs : List A) (x : A) → Contains (drop k xs) x → Contains xs x
in_drop k xs x (i, below, is) =
    let long = length-drop k xs in
    (k + i, omega arith, sym (get_or-drop k xs i x) ∙ is)

in_own : (r : ℕ) (e : Logged) (x : Item) → Contains (own_entry r e) x → (e.node ≡ r) × Contains e.jobs x
in_own r e x h = elim (cases_Bool (e.node == r)) [
  | inl own ↦ (eqb-true e.node r own, subst (λ (b : Bool). Contains (cond b e.jobs []) x) own h)
  | inr other ↦ let none = subst (λ (b : Bool). Contains (cond b e.jobs []) x) other h in let below : none.0 < 0 = none.1 in absurd (omega arith)
]

-- so are those of the entries that it hasn't applied
behind_served : (r : ℕ) (log : List Logged) (node : Node) → IsServed r log node → (k : ℕ) (x : Item) → Contains (unapplied r k log) x
    → x.connection.serial < length node.clients
behind_served r log node s k x h =
    let p = in_parts (own_entry r) (drop k log) x h in
    let own = in_own r p.0 x p.2 in
    s.logged p.0 (in_drop k log p.0 p.1) own.0 x own.1

-- each node fits, and a batch has its name alone
pub record AreFit (world : World) : Type 0 where
  pub nodes : (r : ℕ) → r < length world.nodes → NodeFits r (log_of world.taken) (jobs_executed world) world.batches (node_at r world)
  pub one : (b d : Batch) → Contains world.batches b → Contains world.batches d → b.node ≡ d.node → b.worker ≡ d.worker → b.number ≡ d.number → b ≡ d

-- another node in its place
fit_with : (n : ℕ) (node : Node) (world : World) → n < length world.nodes
    → NodeFits n (log_of world.taken) (jobs_executed world) world.batches node → AreFit world → AreFit (with_node n node world)
fit_with n node world there here fit = record {
  nodes = each_with (λ m. NodeFits m (log_of world.taken) (jobs_executed world) world.batches) n node world there here fit.nodes;
  one = fit.one;
}

-- where something holds of the others for another reason
beside_with : (P : ℕ → Node → Type 0) (n : ℕ) (node : Node) (world : World) → n < length world.nodes → P n node
    → ((m : ℕ) → m < length world.nodes → m ≢ n → P m (node_at m world))
    → (m : ℕ) → m < length (with_node n node world).nodes → P m (node_at m (with_node n node world))
beside_with P n node world there here each m at =
    let long = length-set world.nodes n node in
    elim (eqb_tells m n) [
      | inl e ↦ subst (λ (k : ℕ). P k (node_at k (with_node n node world))) (sym e.1) (subst (P n) (sym (node_here n node world there)) here)
      | inr e ↦ subst (P m) (sym (node_other n m node world e.1)) (each m (omega arith) e.1)
    ]

-- connections that keep their workers, and other jobs at a worker that aren't posted
pending_fits : (r w : ℕ) (log : List Logged) (executed : Jobs) (batches : List Batch) (node : Node) (clients : List Client) (pending : Jobs)
    → KeepsWorkers node.clients clients → NodeFits r log executed batches node
    → NodeFits r log executed batches (with_worker w (record (worker_at w node) { pending = pending }) (record node { clients = clients }))
pending_fits r w log executed batches node clients pending keeps fits v =
    let s = standing_of r log executed node in
    let t = standing_of r log executed (record node { clients = clients }) in
    let each : (u : ℕ) → WorkerFits r u batches t (worker_at u node).slot (worker_at u node).batches =
    λ u. fits_clients r u batches s (worker_at u node).slot (worker_at u node).batches clients keeps (fits u) in
    at_set (λ u (x : Worker). WorkerFits r u batches t x.slot x.batches) node.workers w (record (worker_at w node) { pending = pending }) fresh_worker
    (λ h. each w) (λ h. each w) (λ u other. each u) v

-- what an answer is put for
full_is : (slot : Slot) (down : Bool) → (is_lifted slot || (down && is_posted slot)) ≡ true → is_free slot ≡ false
full_is Empty true e = absurd (cc e)
full_is Empty false e = absurd (cc e)
full_is (Posted jobs) down e = refl
full_is (Lifted owed) down e = refl
full_is (Answered whole) true e = absurd (cc e)
full_is (Answered whole) false e = absurd (cc e)

lifted_is : (slot : Slot) → (is_lifted slot || (false && is_posted slot)) ≡ true → slot ≡ Lifted (owed_in slot)
lifted_is Empty e = absurd (cc e)
lifted_is (Posted jobs) e = absurd (cc e)
lifted_is (Lifted owed) e = refl
lifted_is (Answered whole) e = absurd (cc e)

none_owed : (owed : ℕ) → (true && not (owed == 0)) ≡ false → owed ≡ 0
none_owed owed e = elim (cases_Bool (owed == 0)) [ inl is ↦ eqb-true owed 0 is | inr other ↦ absurd (cc (ap not other, e)) ]

answer_fits : (r w : ℕ) (batches : List Batch) (s : Standing) (slot : Slot) (posted : ℕ) (down : Bool) → s.down ≡ down
    → (is_lifted slot || (down && is_posted slot)) ≡ true → (not down && not (owed_in slot == 0)) ≡ false
    → WorkerFits r w batches s slot posted → WorkerFits r w batches s (Answered (not down)) posted
answer_fits r w batches s slot posted true is full owed p = fits_refusal r w batches s slot posted is (full_is slot true full) p
answer_fits r w batches s slot posted false is full owed p =
    fits_answer r w batches s (owed_in slot) posted is (none_owed (owed_in slot) owed)
    (subst (λ (t : Slot). WorkerFits r w batches s t posted) (lifted_is slot full) p)

-- a slot that is cleared
cleared_fits : (r w : ℕ) (batches : List Batch) (s : Standing) (slot : Slot) (posted : ℕ) → WorkerFits r w batches s slot posted
    → WorkerFits r w batches s (cleared slot) posted
cleared_fits r w batches s Empty posted p = p
cleared_fits r w batches s (Posted jobs) posted p = p
cleared_fits r w batches s (Lifted owed) posted p = p
cleared_fits r w batches s (Answered whole) posted p = fits_taken r w batches s whole posted p

-- the jobs executed with what was taken
jobs-push : (taken : List Taken) (t : Taken) → flat_map jobs_taken (taken ++ t ∷ []) ≡ flat_map jobs_taken taken ++ jobs_taken t
jobs-push taken t =
    flat_map-append jobs_taken taken (t ∷ []) ∙ ap (λ (js : Jobs). flat_map jobs_taken taken ++ js) (append-nil (jobs_taken t))

-- a batch that is posted
posted_one : (n w posted : ℕ) (jobs : Jobs) (world : World) → ((b : Batch) → Contains world.batches b → IsOf n w b → b.number < posted) → AreFit world
    → (b d : Batch) → Contains (world.batches ++ record { node = n; worker = w; number = posted; jobs = jobs } ∷ []) b
    → Contains (world.batches ++ record { node = n; worker = w; number = posted; jobs = jobs } ∷ []) d
    → b.node ≡ d.node → b.worker ≡ d.worker → b.number ≡ d.number → b ≡ d
posted_one n w posted jobs world below fit b d first second node worker number =
    let new : Batch = record { node = n; worker = w; number = posted; jobs = jobs } in
    elim (Contains-push_cases world.batches new b first) [
      | inl old ↦ elim (Contains-push_cases world.batches new d second) [
        | inl older ↦ fit.one b d old older node worker number
        | inr e ↦
            let is : posted ≡ d.number = ap (λ (x : Batch). x.number) e in
            let h = below b old (record { node = node ∙ sym (ap (λ (x : Batch). x.node) e); worker = worker ∙ sym (ap (λ (x : Batch). x.worker) e) }) in
            absurd (omega arith)
      ]
      | inr e ↦ elim (Contains-push_cases world.batches new d second) [
        | inl old ↦
            let is : posted ≡ b.number = ap (λ (x : Batch). x.number) e in
            let h = below d old (record { node = sym node ∙ sym (ap (λ (x : Batch). x.node) e); worker = sym worker ∙ sym (ap (λ (x : Batch). x.worker) e) }) in
            absurd (omega arith)
        | inr f ↦ sym e ∙ f
      ]
    ]

-- the worker that posts, lifts, is answered or takes the answer
post_fits : (n w : ℕ) (log : List Logged) (executed : Jobs) (batches : List Batch) (node : Node) → w < length node.workers
    → (worker_at w node).slot ≡ Empty → NodeFits n log executed batches node
    → NodeFits n log executed
    (batches ++ record { node = n; worker = w; number = (worker_at w node).batches; jobs = take most_batch_jobs (worker_at w node).pending } ∷ [])
    (with_worker w (posted_worker (worker_at w node)) node)
post_fits n w log executed batches node there free fits v =
    let worker = worker_at w node in
    let s = standing_of n log executed node in
    let new : Batch = record { node = n; worker = w; number = worker.batches; jobs = take most_batch_jobs worker.pending } in
    at_set (λ u (x : Worker). WorkerFits n u (batches ++ new ∷ []) s x.slot x.batches) node.workers w (posted_worker worker) fresh_worker
    (λ h. fits_post n w batches s new.jobs worker.batches (subst (λ (t : Slot). WorkerFits n w batches s t worker.batches) free (fits w)))
    (λ past. absurd (omega arith))
    (λ u other. fits_beside n u batches new s (worker_at u node).slot (worker_at u node).batches (λ own. other (sym own.worker)) (fits u)) v

lift_fits : (n w : ℕ) (log : List Logged) (executed : Jobs) (batches : List Batch) (node : Node) (jobs : Jobs) → w < length node.workers
    → (worker_at w node).slot ≡ Posted jobs → ((x : Item) → Contains jobs x → IsAt node.clients w x) → NodeFits n log executed batches node
    → NodeFits n log executed batches
    (record (with_worker w (record (worker_at w node) { slot = Lifted (length jobs) }) node) { waiting = node.waiting ++ jobs })
lift_fits n w log executed batches node jobs there posted at fits v =
    let worker = worker_at w node in
    let s = standing_of n log executed node in
    at_set (λ u (x : Worker). WorkerFits n u batches (with_lifted jobs s) x.slot x.batches) node.workers w
    (record worker { slot = Lifted (length jobs) }) fresh_worker
    (λ h. fits_lift n w batches s jobs worker.batches at (subst (λ (t : Slot). WorkerFits n w batches s t worker.batches) posted (fits w)))
    (λ past. absurd (omega arith))
    (λ u other. fits_lift_beside n w u batches s jobs (worker_at u node).slot (worker_at u node).batches other at (fits u)) v

slot_fits : (n w : ℕ) (log : List Logged) (executed : Jobs) (batches : List Batch) (node : Node) (slot : Slot) → w < length node.workers
    → WorkerFits n w batches (standing_of n log executed node) slot (worker_at w node).batches → NodeFits n log executed batches node
    → NodeFits n log executed batches (with_worker w (record (worker_at w node) { slot = slot }) node)
slot_fits n w log executed batches node slot there here fits v =
    at_set (λ u (x : Worker). WorkerFits n u batches (standing_of n log executed node) x.slot x.batches) node.workers w
    (record (worker_at w node) { slot = slot }) fresh_worker (λ h. here) (λ past. absurd (omega arith)) (λ u other. fits u) v

-- where more was taken
taken_fit : (world : World) (n : ℕ) (node : Node) (t : Taken) (log : List Logged) → n < length world.nodes → log_of (world.taken ++ t ∷ []) ≡ log
    → NodeFits n log (jobs_executed world ++ jobs_taken t) world.batches node
    → ((m : ℕ) → m < length world.nodes → m ≢ n → NodeFits m log (jobs_executed world ++ jobs_taken t) world.batches (node_at m world))
    → AreFit world → AreFit (record (with_node n node world) { taken = world.taken ++ t ∷ [] })
taken_fit world n node t log there logged here each fit = record {
  nodes = λ m at.
      let executed = jobs_executed world ++ jobs_taken t in
      let new = node_at m (with_node n node world) in
      subst (λ (l : List Logged). NodeFits m l (flat_map jobs_taken (world.taken ++ t ∷ [])) world.batches new) (sym logged)
      (subst (λ (js : Jobs). NodeFits m log js world.batches new) (sym (jobs-push world.taken t))
      (beside_with (λ k x. NodeFits k log executed world.batches x) n node world there here each m at));
  one = fit.one;
}

-- each step keeps it
fit_moves : (setup : Setup) → Moves setup (λ world step refused outcome after. AreServed world → ArePlaced world → AreDropped world → AreFit world → AreFit after)
fit_moves setup = record {
  idles = λ world step refused reason served placed dropped fit. fit;
  opens = λ world n w refused may served placed dropped fit.
      let there = may.worker.there in
      let node = node_at n world in
      let s = served n there in
      fit_with n _ world there (λ v.
      fits_open n v world.batches (standing_of n (log_of world.taken) (jobs_executed world) node) (worker_at v node).slot (worker_at v node).batches _
      s.waiting (behind_served n (log_of world.taken) node s (first_owed node.resumed node.applied)) (fit.nodes n there v)) fit;
  feeds = λ world c time bytes refused may served placed dropped fit.
      let there = may.client.there in
      let node = node_at c.node world in
      let client = client_at c.serial node in
      let now = fit_with c.node _ world there
      (pending_fits c.node client.worker (log_of world.taken) (jobs_executed world) world.batches node (set node.clients c.serial (fed_client client bytes)) _
      (keeps_set node.clients c.serial (fed_client client bytes) (fresh_client 0 0 (record { node = 0; serial = 0 })) may.client.stands refl)
      (fit.nodes c.node there)) fit in
      record { nodes = now.nodes; one = now.one };
  posts = λ world n w refused may served placed dropped fit.
      let there = may.worker.there in
      let node = node_at n world in
      let worker = worker_at w node in
      let log = log_of world.taken in
      let executed = jobs_executed world in
      let new : Batch = record { node = n; worker = w; number = worker.batches; jobs = take most_batch_jobs worker.pending } in
      record {
        nodes = beside_with (λ m x. NodeFits m log executed (world.batches ++ new ∷ []) x) n (with_worker w (posted_worker worker) node) world there
            (post_fits n w log executed world.batches node may.worker.stands may.free (fit.nodes n there))
            (λ m at other v.
            let x = worker_at v (node_at m world) in
            fits_beside m v world.batches new (standing_of m log executed (node_at m world)) x.slot x.batches (λ own. other (sym own.node)) (fit.nodes m at v));
        one = posted_one n w worker.batches new.jobs world (fit.nodes n there w).below fit;
      };
  lifts = λ world n w refused may served placed dropped fit.
      let there = may.worker.there in
      let node = node_at n world in
      let jobs = posted_jobs (worker_at w node).slot in
      fit_with n _ world there
      (lift_fits n w (log_of world.taken) (jobs_executed world) world.batches node jobs may.worker.stands may.posted
      ((served n there).posted w jobs may.posted) (fit.nodes n there)) fit;
  reserves = λ world n refused may served placed dropped fit.
      let node = node_at n world in
      let log = log_of world.taken in
      let executed = jobs_executed world in
      let jobs = entry_jobs node.waiting in
      taken_fit world n _ (Entry n jobs) (log ++ record { node = n; jobs = jobs } ∷ []) may.there (log_of-append world.taken (Entry n jobs ∷ []))
      (reserve_fits n log executed world.batches node (tail_of world) (replicate setup.nodes true)
      (owed_within node.resumed node.applied (tail_of world) (placed n may.there).resumed (applied_within (tail_of world) node (placed n may.there)))
      (fit.nodes n may.there))
      (λ m at other. reserve_beside m n log executed world.batches (node_at m world) jobs other (fit.nodes m at)) fit;
  fills = λ world n t refused may served placed dropped fit. fit_with n _ world may.there (fit.nodes n may.there) fit;
  fetches = λ world n refused may served placed dropped fit. fit_with n _ world may.there (fit.nodes n may.there) fit;
  applies = λ world n refused may served placed dropped fit.
      let there = may.there in
      let going = advanced_going refused n (log_of world.taken) (jobs_executed world) world.batches (node_at n world)
      (fit.nodes n there, (placed n there).applied) in
      fit_with n _ world there going.0 fit;
  looks = λ world n refused may served placed dropped fit.
      let there = may.there in
      let node = node_at n world in
      let log = log_of world.taken in
      let executed = jobs_executed world in
      let count = tail_of world - node.passed in
      let ahead = advanced_by count refused n log node in
      let going = ahead_going count refused n log executed world.batches node (fit.nodes n there, (placed n there).applied) in
      let jobs = read_jobs ahead.waiting in
      by_look AreFit refused n world ahead refl (λ down. fit_with n ahead world there going.0 fit)
      (λ up. taken_fit world n (with_reads refused.cuts (tail_of world) ahead) (Reads n ahead.applied jobs) log there
      (log_of-append world.taken (Reads n ahead.applied jobs ∷ []) ∙ append-nil log)
      (reads_fit refused.cuts (tail_of world) n log executed world.batches ahead going.0)
      (λ m at other. reads_beside m log executed world.batches (node_at m world) jobs (fit.nodes m at)) fit);
  answers = λ world n w refused may served placed dropped fit.
      let there = may.worker.there in
      let node = node_at n world in
      let worker = worker_at w node in
      let s = standing_of n (log_of world.taken) (jobs_executed world) node in
      fit_with n _ world there
      (slot_fits n w (log_of world.taken) (jobs_executed world) world.batches node (Answered (not node.down)) may.worker.stands
      (answer_fits n w world.batches s worker.slot worker.batches node.down refl may.full may.owed (fit.nodes n there w)) (fit.nodes n there)) fit;
  collects = λ world n w refused may served placed dropped fit.
      let there = may.worker.there in
      let node = node_at n world in
      let worker = worker_at w node in
      let log = log_of world.taken in
      let executed = jobs_executed world in
      let s = standing_of n log executed node in
      let after = with_worker w (record worker { slot = cleared worker.slot }) node in
      let taken = slot_fits n w log executed world.batches node (cleared worker.slot) may.worker.stands
      (cleared_fits n w world.batches s worker.slot worker.batches (fit.nodes n there w)) (fit.nodes n there) in
      fit_with n _ world there (λ v.
      fits_clients n v world.batches s (worker_at v after).slot (worker_at v after).batches (map (emptied w) node.clients)
      (keeps_map (emptied w) (emptied_worker w) node.clients) (taken v)) fit;
  closes = λ world c time refused may served placed dropped fit.
      let there = may.client.there in
      let node = node_at c.node world in
      let client = client_at c.serial node in
      let now = fit_with c.node _ world there
      (pending_fits c.node client.worker (log_of world.taken) (jobs_executed world) world.batches node (set node.clients c.serial (closed_client client)) _
      (keeps_set node.clients c.serial (closed_client client) (fresh_client 0 0 (record { node = 0; serial = 0 })) may.client.stands refl)
      (fit.nodes c.node there)) fit in
      record { nodes = now.nodes; one = now.one };
  revives = λ world n f refused may served placed dropped fit.
      let there = may.there in
      let node = node_at n world in
      fit_with n _ world there
      (revived_fits n (log_of world.taken) (jobs_executed world) world.batches (node_at f world).server node (dropped n there may.down).waiting
      (none_batch node.workers may.idle) (fit.nodes n there)) fit;
  refuses = λ world n refused may served placed dropped fit. fit_with n _ world may.there (fit.nodes n may.there) fit;
}

-- at first
fresh_fits : (setup : Setup) (r : ℕ) → NodeFits r [] [] [] (fresh_node setup)
fresh_fits setup r v =
    let s = standing_of r [] [] (fresh_node setup) in
    subst (λ (x : Worker). WorkerFits r v [] s x.slot x.batches) (sym (fresh_worker_at setup.workers v)) (record {
      owed = λ up. refl;
      below = λ b h own. let none : h.0 < 0 = h.1 in absurd (omega arith);
      last = λ some. absurd (cc some);
    })

fresh_fit : (setup : Setup) → AreFit (fresh setup)
fresh_fit setup = record {
  nodes = λ r there. subst (NodeFits r [] [] []) (sym (fresh_at setup r there)) (fresh_fits setup r);
  one = λ b d first second node worker number. let none : first.0 < 0 = first.1 in absurd (omega arith);
}

-- after any events
fit_from : (setup : Setup) (before events : List Event)
    → AreFit (world_after setup before) → AreFit (fold (after_event setup) (world_after setup before) events)
fit_from setup before [] fit = fit
fit_from setup before (e ∷ events) fit =
    let world = world_after setup before in
    let next = after_event setup world e in
    let here : AreFit next =
    each_step setup (λ world step refused outcome after. AreServed world → ArePlaced world → AreDropped world → AreFit world → AreFit after) (fit_moves setup)
    world e.step e.refused (each_sized setup before) (each_served setup before) (each_placed setup before) (each_dropped setup before) fit in
    let is : world_after setup (before ++ e ∷ []) ≡ next = world_after-append setup (fresh setup) before (e ∷ []) in
    subst (λ (w : World). AreFit (fold (after_event setup) w events)) is
    (fit_from setup (before ++ e ∷ []) events (subst AreFit (sym is) here))

-- so it holds of each world
pub each_fit : (setup : Setup) (events : List Event) → AreFit (world_after setup events)
each_fit setup events = fit_from setup [] events (fresh_fit setup)
