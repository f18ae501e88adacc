-- Batches that are lifted leave jobs that wait, and workers with nothing are not answered.
use Rattle.std.proofs.Common.{◌≡◌, ℕ, ◌<◌, true, false, not, inl, inr, [], ◌∷◌, ◌++◌, length, take, refl, ap, sym, ◌∙◌, subst, arith}
use Rattle.std.specs.Prelude.{◌&&◌, ◌||◌, ◌==◌}
use Rattle.std.proofs.lemmas.Bool.Decides.{eqb_tells}
use Rattle.std.proofs.Math.Bool.{and-false}
use Rattle.nr_model.specs.Entries.{Jobs}
use Rattle.nr_model.specs.Connections.{Setup}
use Rattle.nr_model.specs.Nodes.{Slot, Empty, Lifted, Worker, Node, no_node, World, node_at, worker_at, with_worker, tail_of}
use Rattle.nr_model.specs.Nodes.Steps.{Post, Lift, Answer, Collect, Done, Refused, is_worker, is_empty, is_free, is_posted, is_lifted, is_answered, collected, outcome, posted_jobs, posted_worker, most_batch_jobs, lifted_node, effect, after_step}
use Rattle.nr_model.specs.declared.reason.Reason.TheVariants.{NoSuch, Down, Busy, Nothing}
use Rattle.nr_model.specs.Nodes.Pasts.{is_done}
use Rattle.nr_model.specs.Nodes.Settling.{lifting, answering}
use Rattle.nr_model.proofs.NodesSteps.{AreSized, node_here, node_other}
use Rattle.nr_model.proofs.NodesOwnShape.{worker_here, worker_other}
use Rattle.nr_model.proofs.NodesRoundsLeft.{by_outcome}
use Rattle.nr_model.proofs.NodesRoundsRuns.{idle_by, done_tells, at_keep, Leads, leads_on, leads_one}
use Rattle.nr_model.proofs.NodesRoundsParts.{cell, leads_workers, AreTaken, AreFilled, HasPassed, HavePassed}
use Rattle.nr_model.proofs.NodesRoundsStill.{Stays, stays_on, stays_one, stays_weaker, stays_workers}
use Rattle.nr_model.proofs.NodesRoundsIdle.{some_taken}

-- posting and lifting leave cells and what was passed
pub record IsEven (setup : Setup) (world : World) : Type 0 where
  pub filled : AreFilled world
  pub passed : HavePassed setup world

post_even : (setup : Setup) (n w : ℕ) (world : World) (refused : Refused) → IsEven setup world → IsEven setup (after_step setup world (Post n w) refused)
post_even setup n w world refused j =
    let node = node_at n world in
    let new = with_worker w (posted_worker (worker_at w node)) node in
    by_outcome (IsEven setup) (outcome setup world (Post n w)) setup world (Post n w) refused (λ idle. j)
    (λ done. record {
      filled = λ m s. at_keep (λ (x : Node). cell x s ≡ false) world.nodes no_node m n new (λ e p. p) (j.filled m s);
      passed = λ m hm.
          at_keep (HasPassed (tail_of world)) world.nodes no_node m n new (λ e p. record { free = p.free; passed = p.passed }) (j.passed m hm);
    })

lift_even : (setup : Setup) (n w : ℕ) (world : World) (refused : Refused) → IsEven setup world → IsEven setup (after_step setup world (Lift n w) refused)
lift_even setup n w world refused j =
    let new = lifted_node w (node_at n world) in
    by_outcome (IsEven setup) (outcome setup world (Lift n w)) setup world (Lift n w) refused (λ idle. j)
    (λ done. record {
      filled = λ m s. at_keep (λ (x : Node). cell x s ≡ false) world.nodes no_node m n new (λ e p. p) (j.filled m s);
      passed = λ m hm.
          at_keep (HasPassed (tail_of world)) world.nodes no_node m n new (λ e p. record { free = p.free; passed = p.passed }) (j.passed m hm);
    })

pub lifting_even : (setup : Setup) → Leads setup (lifting setup) (IsEven setup) (IsEven setup)
lifting_even setup =
    let J = IsEven setup in
    leads_workers setup (λ n w. Post n w ∷ Lift n w ∷ []) (λ n w. J)
    (λ n w hn hw.
    leads_on setup (Post n w ∷ []) (Lift n w ∷ []) J J J (leads_one setup (Post n w) J J (post_even setup n w))
    (leads_one setup (Lift n w) J J (lift_even setup n w))) (λ n world j. j)

-- nothing waits at a node that is up, and nothing is posted by a worker of it
abbrev pub IsEmptied : ℕ → Node → Type 0
IsEmptied v node = node.down ≡ false → (node.waiting ≡ []) × (posted_jobs (worker_at v node).slot ≡ [])

abbrev pub AreEmptied : Setup → World → Type 0
AreEmptied setup world = (n w : ℕ) → n < setup.nodes → w < setup.workers → IsEmptied w (node_at n world)

-- where batches were lifted
pub record IsLifted (setup : Setup) (world : World) : Type 0 where
  pub sized : AreSized setup world
  pub taken : AreTaken setup world

batch_some : (jobs : Jobs) → is_empty jobs ≡ false → take most_batch_jobs jobs ≡ [] → ⊥
batch_some [] some e = absurd (cc some)
batch_some (job ∷ jobs) some e = some_taken job jobs e

-- a batch that is posted isn't empty
post_some : (setup : Setup) (n w : ℕ) (world : World) (refused : Refused) → AreSized setup world → n < setup.nodes → w < setup.workers
    → is_done (outcome setup world (Post n w)) ≡ true → AreEmptied setup (effect setup world (Post n w) refused) → ⊥
post_some setup n w world refused sized hn hw done f =
    let node = node_at n world in
    let worker = worker_at w node in
    let new = with_worker w (posted_worker worker) node in
    let long = sized.nodes in
    let there : n < length world.nodes = omega arith in
    let wide = (sized.each n there).workers in
    let stands : w < length node.workers = omega arith in
    let a = done_tells (not (is_worker setup n w)) NoSuch _ done in
    let b = done_tells node.down Down _ a.1 in
    let c = done_tells (not (is_free worker.slot)) Busy _ b.1 in
    let d = done_tells (is_empty worker.pending) Nothing _ c.1 in
    let g : IsEmptied w new = subst (IsEmptied w) (node_here n new world there) (f n w hn hw) in
    let none : posted_jobs (worker_at w new).slot ≡ [] = (g b.0).1 in
    batch_some worker.pending d.0 (sym (ap (λ (x : Worker). posted_jobs x.slot) (worker_here node.workers w (posted_worker worker) stands)) ∙ none)

none_joined : (front back : Jobs) → front ++ back ≡ [] → (front ≡ []) × (back ≡ [])
none_joined [] back e = (refl, e)
none_joined (job ∷ front) back e = absurd (cc e)

-- what is empty behind a lift was empty before it
lift_back : (setup : Setup) (n w : ℕ) (world : World) (refused : Refused) → AreSized setup world → n < setup.nodes → w < setup.workers
    → AreEmptied setup (effect setup world (Lift n w) refused) → AreEmptied setup world
lift_back setup n w world refused sized hn hw f m v hm hv =
    let node = node_at n world in
    let worker = worker_at w node in
    let jobs = posted_jobs worker.slot in
    let new = lifted_node w node in
    let long = sized.nodes in
    let there : n < length world.nodes = omega arith in
    elim (eqb_tells m n) [
      | inr e ↦ subst (IsEmptied v) (node_other n m new world e.1) (f m v hm hv)
      | inl e ↦
          let g : IsEmptied v new = subst (IsEmptied v) (node_here n new world there) (f n v hn hv) in
          let here : IsEmptied v node = λ up.
          let parts = none_joined node.waiting jobs (g up).0 in (
            parts.0,
            elim (eqb_tells v w) [
              | inl same ↦ subst (λ (k : ℕ). posted_jobs (worker_at k node).slot ≡ []) (sym same.1) parts.1
              | inr other ↦
                  sym (ap (λ (x : Worker). posted_jobs x.slot) (worker_other node.workers w v (record worker { slot = Lifted (length jobs) }) other.1))
                  ∙ (g up).1
            ],
          ) in
          subst (λ (k : ℕ). IsEmptied v (node_at k world)) (sym e.1) here
    ]

pub lifting_stays : (setup : Setup) → Stays setup (IsLifted setup) (AreEmptied setup) (lifting setup)
    (λ world. (n : ℕ) → n < setup.nodes → (w : ℕ) → w < setup.workers → Unit {0})
lifting_stays setup =
    let P = IsLifted setup in
    let F = AreEmptied setup in
    let U = λ (world : World). Unit {0} in
    stays_workers setup P F (λ n w world. Unit {0}) (λ n w. Post n w ∷ Lift n w ∷ []) (λ world p. p.sized)
    (λ n w hn hw.
    stays_weaker setup P F (λ world. U world × U world) U (Post n w ∷ Lift n w ∷ []) (λ world both. tt)
    (stays_on setup P F U U (Post n w ∷ []) (Lift n w ∷ []) (λ world p. p.sized)
    (stays_one setup P F U (Post n w)
    (λ world refused sized f.
    by_outcome (λ (x : World). F x → F world) (outcome setup world (Post n w)) setup world (Post n w) refused (λ idle g. g)
    (λ done g. absurd (post_some setup n w world refused sized hn hw done g)) f)
    (λ world refused p f. (
      by_outcome (λ (x : World). F x → is_done (outcome setup world (Post n w)) ≡ false) (outcome setup world (Post n w)) setup world (Post n w) refused
          (λ idle g. idle) (λ done g. absurd (post_some setup n w world refused p.sized hn hw done g)) f,
      tt,
    )))
    (stays_one setup P F U (Lift n w)
    (λ world refused sized f.
    by_outcome (λ (x : World). F x → F world) (outcome setup world (Lift n w)) setup world (Lift n w) refused (λ idle g. g)
    (λ done g. lift_back setup n w world refused sized hn hw g) f)
    (λ world refused p f.
    let node = node_at n world in
    let slot = (worker_at w node).slot in (
      idle_by (not (is_worker setup n w)) NoSuch _
          (λ h. idle_by node.down Down _
          (λ up. idle_by (not (is_posted slot)) Nothing Done (λ e. absurd (cc (ap not (p.taken n w hn hw up), e))))),
      tt,
    )))))

-- workers with nothing
pub record IsResting (setup : Setup) (world : World) : Type 0 where
  pub sized : AreSized setup world
  pub slots : (n w : ℕ) → n < setup.nodes → w < setup.workers → (worker_at w (node_at n world)).slot ≡ Empty
  pub none : (n w : ℕ) → n < setup.nodes → w < setup.workers → collected w (node_at n world).clients ≡ []

answer_idle : (setup : Setup) (n w : ℕ) (world : World) → (worker_at w (node_at n world)).slot ≡ Empty → is_done (outcome setup world (Answer n w)) ≡ false
answer_idle setup n w world empty =
    let node = node_at n world in
    let slot = (worker_at w node).slot in
    let full : not (is_lifted slot || (node.down && is_posted slot)) ≡ true =
    ap (λ (s : Slot). not (is_lifted s || (node.down && is_posted s))) empty ∙ ap not (and-false node.down) in
    idle_by (not (is_worker setup n w)) NoSuch _
    (λ h. idle_by (not (is_lifted slot || (node.down && is_posted slot))) Nothing _ (λ e. absurd (cc (full, e))))

collect_idle : (setup : Setup) (n w : ℕ) (world : World) → (worker_at w (node_at n world)).slot ≡ Empty → collected w (node_at n world).clients ≡ []
    → is_done (outcome setup world (Collect n w)) ≡ false
collect_idle setup n w world empty none =
    let node = node_at n world in
    let slot = (worker_at w node).slot in
    let all : (not (is_answered slot) && length (collected w node.clients) == 0) ≡ true = λ i. not (is_answered (empty i)) && length (none i) == 0 in
    idle_by (not (is_worker setup n w)) NoSuch _
    (λ h. idle_by (not (is_answered slot) && length (collected w node.clients) == 0) Nothing Done (λ e. absurd (cc (all, e))))

pub answering_stays : (setup : Setup) → Stays setup (IsResting setup) (λ world. Unit {0}) (answering setup)
    (λ world. (n : ℕ) → n < setup.nodes → (w : ℕ) → w < setup.workers → Unit {0})
answering_stays setup =
    let P = IsResting setup in
    let U = λ (world : World). Unit {0} in
    stays_workers setup P U (λ n w world. Unit {0}) (λ n w. Answer n w ∷ Collect n w ∷ []) (λ world p. p.sized)
    (λ n w hn hw.
    stays_weaker setup P U (λ world. U world × U world) U (Answer n w ∷ Collect n w ∷ []) (λ world both. tt)
    (stays_on setup P U U U (Answer n w ∷ []) (Collect n w ∷ []) (λ world p. p.sized)
    (stays_one setup P U U (Answer n w) (λ world refused sized f. tt) (λ world refused p f. (answer_idle setup n w world (p.slots n w hn hw), tt)))
    (stays_one setup P U U (Collect n w) (λ world refused sized f. tt)
    (λ world refused p f. (collect_idle setup n w world (p.slots n w hn hw) (p.none n w hn hw), tt)))))
