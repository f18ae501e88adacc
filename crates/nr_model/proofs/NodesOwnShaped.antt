-- Every world has its jobs where they belong, and connections that are there stay, at their worker.
use Rattle.std.proofs.Common.{◌≡◌, ℕ, ◌-◌, ◌≤◌, ◌<◌, true, false, not, inl, inr, List, [], ◌∷◌, ◌++◌, length, take, replicate, slice_set, refl, sym, ◌∙◌, subst, ltb, arith}
use Rattle.std.specs.Prelude.{slice_index_or}
use Rattle.std.specs.List.{AllByRecursion}
use Rattle.std.proofs.lemmas.Bool.{cases_Bool, ltb-true, ltb-false}
use Rattle.std.proofs.lemmas.Bool.Decides.{eqb_tells}
use Rattle.std.proofs.lemmas.List.{append-nil, length-set, length-replicate, get_or-replicate, get_or_past, get_or-set_same, get_or-set_other}
use Rattle.nr_model.specs.Entries.{Jobs, entry_jobs, left_by_entry, read_jobs}
use Rattle.nr_model.specs.Connections.{Setup}
use Rattle.nr_model.specs.Nodes.{Answered, Node, Taken, Entry, Reads, Batch, World, fresh, fresh_worker, no_node, node_at, worker_at, client_at, log_of, tail_of}
use Rattle.nr_model.specs.Nodes.Steps.{Step, Refused, Outcome, most_batch_jobs, advanced_by, with_reads}
use Rattle.nr_model.specs.Nodes.Pasts.{Event, world_after}
use Rattle.nr_model.proofs.JobLists.{All-append, All-take}
use Rattle.nr_model.proofs.NodesSteps.{keeps_of, sized_moves, fresh_sized, AreSized, IsSized, Moves, Keeps, each_world, by_look, fresh_at}
use Rattle.nr_model.proofs.NodesOwnLists.{All-weaker, All-entry, All-left_by_entry, All-reads}
use Rattle.nr_model.proofs.NodesOwnAdvance.{ahead_waiting}
use Rattle.nr_model.proofs.NodesOwnShape.{AreAt, IsOf, IsAt, IsShaped, IsNext, Grows, grows_same, of_grown, at_grown, next_opened, next_fed, next_posted, next_lifted, next_slot, next_collected, next_waiting, next_advanced, next_ahead, next_on, next_read, next_closed, next_revived}

-- a node of some
abbrev pub node_in : List Node → ℕ → Node
node_in nodes n = slice_index_or nodes n no_node

-- each node is shaped
abbrev pub AreShaped : Setup → List Node → Type 0
AreShaped setup nodes = (n : ℕ) → n < length nodes → IsShaped setup n (node_in nodes n)

-- how nodes go on
pub record Goes (setup : Setup) (nodes after : List Node) : Type 0 where
  pub shaped : AreShaped setup after
  pub many : length after ≡ length nodes
  pub grows : (n : ℕ) → n < length nodes → Grows (node_in nodes n).clients (node_in after n).clients

goes_same : (setup : Setup) (nodes : List Node) → AreShaped setup nodes → Goes setup nodes nodes
goes_same setup nodes s = record { shaped = s; many = refl; grows = λ n there. grows_same (node_in nodes n).clients }

-- what holds of each node
pub each_node : (P : ℕ → Node → Type 0) (nodes : List Node) (n : ℕ) (node : Node) → n < length nodes → P n node
    → ((m : ℕ) → m < length nodes → P m (node_in nodes m))
    → (m : ℕ) → m < length nodes → P m (node_in (slice_set nodes n node) m)
each_node P nodes n node there here each m at =
    elim (eqb_tells m n) [
      | inl e ↦ subst (λ (k : ℕ). P k (node_in (slice_set nodes n node) k)) (sym e.1) (subst (P n) (sym (get_or-set_same nodes n node no_node there)) here)
      | inr e ↦ subst (P m) (sym (get_or-set_other nodes n m node no_node e.1)) (each m at)
    ]

goes_with : (setup : Setup) (nodes : List Node) (n : ℕ) (node : Node) → n < length nodes → IsNext setup n (node_in nodes n) node → AreShaped setup nodes
    → Goes setup nodes (slice_set nodes n node)
goes_with setup nodes n node there next s =
    let long = length-set nodes n node in
    record {
      shaped = λ m at. each_node (IsShaped setup) nodes n node there next.shaped s m (omega arith);
      many = long;
      grows = each_node (λ m after. Grows (node_in nodes m).clients after.clients) nodes n node there next.grows (λ m at. grows_same (node_in nodes m).clients);
    }

-- the worker of a client stands among its node's
pub worker_stands : (setup : Setup) (n s : ℕ) (node : Node) → IsSized setup node → IsShaped setup n node → s < length node.clients
    → (client_at s node).worker < length node.workers
worker_stands setup n s node sized shaped there =
    let long = sized.workers in
    let below = (shaped.named s there).worker in
    omega arith

-- each step
abbrev pub Going : Setup → World → Step → Refused → Outcome → World → Type 0
Going setup world step refused outcome after = AreSized setup world → AreShaped setup world.nodes → Goes setup world.nodes after.nodes

pub moves_going : (setup : Setup) → Moves setup (Going setup)
moves_going setup = record {
  idles = λ world step refused reason sized s. goes_same setup world.nodes s;
  opens = λ world n w refused may sized s.
      let there = may.worker.there in
      goes_with setup world.nodes n _ there (next_opened setup n w (node_at n world) may.worker.within (s n there)) s;
  feeds = λ world c time bytes refused may sized s.
      let there = may.client.there in
      let stands = may.client.stands in
      goes_with setup world.nodes c.node _ there (next_fed setup c.node c.serial time bytes (node_at c.node world) stands
      (worker_stands setup c.node c.serial (node_at c.node world) (sized.each c.node there) (s c.node there) stands) (s c.node there)) s;
  posts = λ world n w refused may sized s.
      let there = may.worker.there in
      goes_with setup world.nodes n _ there (next_posted setup n w (node_at n world) may.worker.stands (s n there)) s;
  lifts = λ world n w refused may sized s.
      let there = may.worker.there in
      goes_with setup world.nodes n _ there (next_lifted setup n w (node_at n world) may.worker.stands (s n there)) s;
  reserves = λ world n refused may sized s.
      let there = may.there in
      let node = node_at n world in
      goes_with setup world.nodes n _ there (next_waiting setup n node
      (record node { waiting = left_by_entry node.waiting; at = tail_of world; unfilled = replicate setup.nodes true }) refl refl refl
      (All-left_by_entry (IsOf n node.clients) node.waiting (s n there).waiting) (s n there)) s;
  fills = λ world n t refused may sized s.
      let there = may.there in
      let node = node_at n world in
      goes_with setup world.nodes n _ there
      (next_waiting setup n node (record node { unfilled = slice_set node.unfilled t false }) refl refl refl (s n there).waiting (s n there)) s;
  fetches = λ world n refused may sized s.
      let there = may.there in
      let node = node_at n world in
      goes_with setup world.nodes n _ there (next_waiting setup n node (record node { fetched = true }) refl refl refl (s n there).waiting (s n there)) s;
  applies = λ world n refused may sized s.
      let there = may.there in
      goes_with setup world.nodes n _ there (next_advanced setup refused n (log_of world.taken) (node_at n world) (s n there)) s;
  looks = λ world n refused may sized s.
      let there = may.there in
      let node = node_at n world in
      let tail = tail_of world in
      let count = tail - node.passed in
      let ahead = advanced_by count refused n (log_of world.taken) node in
      let next = next_ahead setup count refused n (log_of world.taken) node (s n there) in
      by_look (λ after. Goes setup world.nodes after.nodes) refused n world ahead refl
      (λ down. goes_with setup world.nodes n ahead there next s)
      (λ up. goes_with setup world.nodes n (with_reads refused.cuts tail ahead) there
      (next_on setup n node ahead _ next (next_read setup refused.cuts tail n ahead next.shaped)) s);
  answers = λ world n w refused may sized s.
      let there = may.worker.there in
      let node = node_at n world in
      goes_with setup world.nodes n _ there (next_slot setup n w (Answered (not node.down)) node may.worker.stands refl (s n there)) s;
  collects = λ world n w refused may sized s.
      let there = may.worker.there in
      goes_with setup world.nodes n _ there (next_collected setup n w (node_at n world) may.worker.stands (s n there)) s;
  closes = λ world c time refused may sized s.
      let there = may.client.there in
      let stands = may.client.stands in
      goes_with setup world.nodes c.node _ there (next_closed setup c.node c.serial time (node_at c.node world) stands
      (worker_stands setup c.node c.serial (node_at c.node world) (sized.each c.node there) (s c.node there) stands) (s c.node there)) s;
  revives = λ world n f refused may sized s.
      let there = may.there in
      goes_with setup world.nodes n _ there (next_revived setup n (tail_of world) (node_at f world).server (node_at n world) (s n there)) s;
  refuses = λ world n refused may sized s.
      let there = may.there in
      let node = node_at n world in
      goes_with setup world.nodes n _ there (next_waiting setup n node (record node { refused = true }) refl refl refl (s n there).waiting (s n there)) s;
}

-- what was taken and posted: of connections that are there
pub record AreOf (nodes : List Node) (n : ℕ) (jobs : Jobs) : Type 0 where
  pub there : n < length nodes
  pub of : AllByRecursion (IsOf n (node_in nodes n).clients) jobs

abbrev pub IsTakenIn : List Node → Taken → Type 0
IsTakenIn nodes (Entry n jobs) = AreOf nodes n jobs
IsTakenIn nodes (Reads n count jobs) = AreOf nodes n jobs

pub record IsBatchIn (nodes : List Node) (b : Batch) : Type 0 where
  pub there : b.node < length nodes
  pub at : AllByRecursion (IsAt b.node b.worker (node_in nodes b.node).clients) b.jobs

of_on : (setup : Setup) (nodes after : List Node) (n : ℕ) (jobs : Jobs) → Goes setup nodes after → AreOf nodes n jobs → AreOf after n jobs
of_on setup nodes after n jobs g a =
    let many = g.many in
    let there = a.there in
    record {
      there = omega arith;
      of = All-weaker (IsOf n (node_in nodes n).clients) (IsOf n (node_in after n).clients)
          (of_grown n (node_in nodes n).clients (node_in after n).clients (g.grows n there)) jobs a.of;
    }

taken_on : (setup : Setup) (nodes after : List Node) → Goes setup nodes after → (t : Taken) → IsTakenIn nodes t → IsTakenIn after t
taken_on setup nodes after g (Entry n jobs) a = of_on setup nodes after n jobs g a
taken_on setup nodes after g (Reads n count jobs) a = of_on setup nodes after n jobs g a

batch_on : (setup : Setup) (nodes after : List Node) → Goes setup nodes after → (b : Batch) → IsBatchIn nodes b → IsBatchIn after b
batch_on setup nodes after g b a =
    let many = g.many in
    let there = a.there in
    record {
      there = omega arith;
      at = All-weaker (IsAt b.node b.worker (node_in nodes b.node).clients) (IsAt b.node b.worker (node_in after b.node).clients)
          (at_grown b.node b.worker (node_in nodes b.node).clients (node_in after b.node).clients (g.grows b.node there)) b.jobs a.at;
    }

-- a world with its jobs where they belong
pub record IsShapedWorld (setup : Setup) (world : World) : Type 0 where
  pub sized : AreSized setup world
  pub shaped : AreShaped setup world.nodes
  pub taken : AllByRecursion (IsTakenIn world.nodes) world.taken
  pub batches : AllByRecursion (IsBatchIn world.nodes) world.batches

-- a step's world
shaped_next : (setup : Setup) (world after : World) (taken : List Taken) (batches : List Batch) → IsShapedWorld setup world
    → AreSized setup after → Goes setup world.nodes after.nodes
    → after.taken ≡ world.taken ++ taken → AllByRecursion (IsTakenIn world.nodes) taken
    → after.batches ≡ world.batches ++ batches → AllByRecursion (IsBatchIn world.nodes) batches
    → IsShapedWorld setup after
shaped_next setup world after taken batches s sized g taken_is t batches_is b = record {
  sized = sized;
  shaped = g.shaped;
  taken = subst (AllByRecursion (IsTakenIn after.nodes)) (sym taken_is)
      (All-weaker (IsTakenIn world.nodes) (IsTakenIn after.nodes) (taken_on setup world.nodes after.nodes g) (world.taken ++ taken)
      (All-append (IsTakenIn world.nodes) world.taken taken s.taken t));
  batches = subst (AllByRecursion (IsBatchIn after.nodes)) (sym batches_is)
      (All-weaker (IsBatchIn world.nodes) (IsBatchIn after.nodes) (batch_on setup world.nodes after.nodes g) (world.batches ++ batches)
      (All-append (IsBatchIn world.nodes) world.batches batches s.batches b));
}

-- with nothing more taken, and no batch more
shaped_still : (setup : Setup) (world after : World) → IsShapedWorld setup world → AreSized setup after → Goes setup world.nodes after.nodes
    → after.taken ≡ world.taken → after.batches ≡ world.batches → IsShapedWorld setup after
shaped_still setup world after s sized g taken batches =
    shaped_next setup world after [] [] s sized g (taken ∙ sym (append-nil world.taken)) tt (batches ∙ sym (append-nil world.batches)) tt

-- each step
pub moves_shaped : (setup : Setup) → Moves setup (λ world step refused outcome after. IsShapedWorld setup world → IsShapedWorld setup after)
moves_shaped setup =
    let z = sized_moves setup in
    let g = moves_going setup in
    record {
      idles = λ world step refused reason s. s;
      opens = λ world n w refused may s.
          shaped_still setup world _ s (z.opens world n w refused may s.sized) (g.opens world n w refused may s.sized s.shaped) refl refl;
      feeds = λ world c time bytes refused may s.
          shaped_still setup world _ s (z.feeds world c time bytes refused may s.sized) (g.feeds world c time bytes refused may s.sized s.shaped) refl refl;
      posts = λ world n w refused may s.
          let there = may.worker.there in
          let worker = worker_at w (node_at n world) in
          shaped_next setup world _ []
          (record { node = n; worker = w; number = worker.batches; jobs = take most_batch_jobs worker.pending } ∷ []) s
          (z.posts world n w refused may s.sized) (g.posts world n w refused may s.sized s.shaped)
          (sym (append-nil world.taken)) tt refl (
            record {
              there = there;
              at = All-take (IsAt n w (node_at n world).clients) most_batch_jobs worker.pending ((s.shaped n there).each w).pending;
            },
            tt,
          );
      lifts = λ world n w refused may s.
          shaped_still setup world _ s (z.lifts world n w refused may s.sized) (g.lifts world n w refused may s.sized s.shaped) refl refl;
      reserves = λ world n refused may s.
          let there = may.there in
          let node = node_at n world in
          shaped_next setup world _ (Entry n (entry_jobs node.waiting) ∷ []) [] s
          (z.reserves world n refused may s.sized) (g.reserves world n refused may s.sized s.shaped)
          refl (record { there = there; of = All-entry (IsOf n node.clients) node.waiting (s.shaped n there).waiting }, tt)
          (sym (append-nil world.batches)) tt;
      fills = λ world n t refused may s.
          shaped_still setup world _ s (z.fills world n t refused may s.sized) (g.fills world n t refused may s.sized s.shaped) refl refl;
      fetches = λ world n refused may s.
          shaped_still setup world _ s (z.fetches world n refused may s.sized) (g.fetches world n refused may s.sized s.shaped) refl refl;
      applies = λ world n refused may s.
          shaped_still setup world _ s (z.applies world n refused may s.sized) (g.applies world n refused may s.sized s.shaped) refl refl;
      looks = λ world n refused may s.
          let there = may.there in
          let node = node_at n world in
          let count = tail_of world - node.passed in
          let ahead = advanced_by count refused n (log_of world.taken) node in
          let sized = z.looks world n refused may s.sized in
          let goes = g.looks world n refused may s.sized s.shaped in
          by_look (λ after. AreSized setup after → Goes setup world.nodes after.nodes → IsShapedWorld setup after) refused n world ahead refl
          (λ down size go. shaped_still setup world _ s size go refl refl)
          (λ up size go. shaped_next setup world _ (Reads n ahead.applied (read_jobs ahead.waiting) ∷ []) [] s size go
          refl (
            record {
              there = there;
              of = subst (λ (js : Jobs). AllByRecursion (IsOf n node.clients) (read_jobs js)) (sym (ahead_waiting count refused n (log_of world.taken) node up))
                  (All-reads (IsOf n node.clients) node.waiting (s.shaped n there).waiting);
            },
            tt,
          ) (sym (append-nil world.batches)) tt)
          sized goes;
      answers = λ world n w refused may s.
          shaped_still setup world _ s (z.answers world n w refused may s.sized) (g.answers world n w refused may s.sized s.shaped) refl refl;
      collects = λ world n w refused may s.
          shaped_still setup world _ s (z.collects world n w refused may s.sized) (g.collects world n w refused may s.sized s.shaped) refl refl;
      closes = λ world c time refused may s.
          shaped_still setup world _ s (z.closes world c time refused may s.sized) (g.closes world c time refused may s.sized s.shaped) refl refl;
      revives = λ world n f refused may s.
          shaped_still setup world _ s (z.revives world n f refused may s.sized) (g.revives world n f refused may s.sized s.shaped) refl refl;
      refuses = λ world n refused may s.
          shaped_still setup world _ s (z.refuses world n refused may s.sized) (g.refuses world n refused may s.sized s.shaped) refl refl;
    }

-- as what each step keeps
pub keeps_shaped : (setup : Setup) → Keeps setup (IsShapedWorld setup)
keeps_shaped setup = keeps_of setup (IsShapedWorld setup) (moves_shaped setup)

-- a worker of a fresh node
pub fresh_worker_at : (count w : ℕ) → slice_index_or (replicate count fresh_worker) w fresh_worker ≡ fresh_worker
fresh_worker_at count w =
    let long = length-replicate count fresh_worker in
    elim (cases_Bool (ltb w count)) [
      | inl e ↦ get_or-replicate count w fresh_worker fresh_worker (ltb-true w count e)
      | inr e ↦ let past : count ≤ w = ltb-false w count e in
          get_or_past (replicate count fresh_worker) w fresh_worker (omega arith)
    ]

-- at first
pub fresh_shaped : (setup : Setup) → IsShapedWorld setup (fresh setup)
fresh_shaped setup = record {
  sized = fresh_sized setup;
  shaped = λ n there. subst (IsShaped setup n) (sym (fresh_at setup n there)) (record {
    named = λ s none. absurd (omega (arith, none));
    since = omega arith;
    cut = λ s none. absurd (omega (arith, none));
    waiting = tt;
    each = λ w. subst (AreAt n w []) (sym (fresh_worker_at setup.workers w)) (record { pending = tt; posted = tt });
  });
  taken = tt;
  batches = tt;
}

-- each world is so
pub each_shaped : (setup : Setup) (events : List Event) → IsShapedWorld setup (world_after setup events)
each_shaped setup events = each_world setup (IsShapedWorld setup) (fresh_shaped setup) (keeps_shaped setup) events
