-- A worker of a world that is held, and what a step at one comes to.
use Rattle.std.proofs.Common.{◌≡◌, ℕ, suc, ◌+◌, ◌<◌, Bool, true, false, List, [], ◌∷◌, length, get_or, set, refl, ap, sym, ◌∙◌, subst, arith, ltb, eq-eqb, None, Option}
use Rattle.std.specs.Prelude.{◌&&◌, not, IsTrue}
use Rattle.std.specs.List.{AllByRecursion}
use Rattle.std.proofs.lemmas.Bool.{and_parts, ltb-true}
use Rattle.nr_model.specs.Entries.{Jobs}
use Rattle.nr_model.specs.Connections as traffic
use Rattle.nr_model.specs.Nodes as nodes
use Rattle.nr_model.specs.Nodes.Steps as steps
use Rattle.nr_model.specs.declared.reason.Reason.TheVariants as reasons
use Rattle.nr_model.specs.Nodes.Pasts.{Answering, handed_by, answer_by}
use Rattle.nr_model.proofs.NodesSteps.{IsSized, came_plainly}
use Rattle.nr_model.proofs.NodesOwnShape.{IsAt, IsShaped}
use Rattle.nr_model.proofs.NodesOwnShaped.{IsShapedWorld, each_shaped}
use Rattle.nr_entry.specs.Entry.{are_of}
use Rattle.nr_session.specs.SessionState.{SessionState}
use Rattle.nr_replica.specs.Members.{Member, AreNumbered}
use Rattle.nr_world.specs.declared.node.WorldNode.{WorldNode}
use Rattle.nr_world.specs.declared.log.Log.{Log}
use Rattle.nr_world.specs.Workers.{worker_seen}
use Rattle.nr_world.specs.Served.{client_seen, clients_seen, workers_seen, node_seen}
use Rattle.nr_world.specs.WorldState.{WorldState, Shows}
use Rattle.nr_world.specs.Whole.{IsWhole, ArePaired, IsHeld}
use Rattle.nr_world.specs.Taken.{Steps, Takes}
use Rattle.nr_world.specs.Batches.{HasWorker, IsPlace, ComesTo}
use Rattle.nr_world.proofs.Sides.{length-both}
use Rattle.nr_world.proofs.Refusing.{nothing_is_refused}
use Rattle.nr_world.proofs.Shown.{nodes_many, node_is, shows_changed, whole_at, whole_set, held_on, takes_done}

-- as many sessions as members
pub paired_length : (n s : ℕ) (sessions : List SessionState) (members : List Member) → ArePaired n s sessions members → length sessions ≡ length members
paired_length n s [] [] h = refl
paired_length n s [] (member ∷ members) h = absurd h
paired_length n s (session ∷ sessions) [] h = absurd h
paired_length n s (session ∷ sessions) (member ∷ members) h = ap suc (paired_length n (suc s) sessions members h.1)

abbrev no_client : nodes.Client
no_client = nodes.fresh_client 0 0 (record { node = 0; serial = 0 })

-- where each client has the name of its place, so has each member
numbered_from : (n s : ℕ) (sessions : List SessionState) (members : List Member) → length sessions ≡ length members
    → ((i : ℕ) → i < length members → (get_or (clients_seen sessions members) i no_client).queue.connection ≡ record { node = n; serial = s + i })
    → AreNumbered n s members
numbered_from n s [] [] h named = tt
numbered_from n s [] (member ∷ members) h named = absurd (omega arith)
numbered_from n s (session ∷ sessions) [] h named = tt
numbered_from n s (session ∷ sessions) (member ∷ members) h named =
    let here : s + 0 ≡ s = omega arith in (
      named 0 (omega arith) ∙ ap (λ (k : ℕ). record { node = n; serial = k }) here,
      numbered_from n (suc s) sessions members (omega arith) (λ i there.
          let on : s + suc i ≡ suc s + i = omega arith in
          named (suc i) (omega arith) ∙ ap (λ (k : ℕ). record { node = n; serial = k }) on),
    )

-- the jobs of a worker's connections are its node's
own_jobs : (n w : ℕ) (clients : List nodes.Client) (jobs : Jobs) → AllByRecursion (IsAt n w clients) jobs → IsTrue (are_of n jobs)
own_jobs n w clients [] h = refl
own_jobs n w clients (job ∷ jobs) h =
    let here = eq-eqb job.connection.node n h.0.of.node in
    let more = own_jobs n w clients jobs h.1 in
    λ i. here i && more i

pub place_of : (setup : traffic.Setup) (n w : ℕ) (node : WorldNode) → IsWhole n node → IsSized setup (node_seen node) → IsShaped setup n (node_seen node)
    → w < setup.workers → IsPlace n w node
place_of setup n w node whole sized shaped within =
    let pairs : length node.sessions ≡ length node.replica.members = paired_length n 0 node.sessions node.replica.members whole.pairs in
    let clients : length (clients_seen node.sessions node.replica.members) ≡ length node.sessions =
    length-both client_seen node.sessions node.replica.members pairs in
    let workers : length (workers_seen node.workers.items node.replica.owed) ≡ length node.workers.items =
    length-both worker_seen node.workers.items node.replica.owed (sym whole.owed) in
    let sizes : length (workers_seen node.workers.items node.replica.owed) ≡ setup.workers = sized.workers in
    record {
      whole = whole;
      stands = omega arith;
      numbered = subst (λ (k : ℕ). AreNumbered k 0 node.replica.members) (sym whole.number)
          (numbered_from n 0 node.sessions node.replica.members pairs (λ i there.
          let on : i ≡ 0 + i = omega arith in
          (shaped.named i (omega arith)).connection ∙ ap (λ (k : ℕ). record { node = n; serial = k }) on));
      own = subst (λ (k : ℕ). IsTrue (are_of k (steps.posted_jobs (nodes.worker_at w (node_seen node)).slot))) (sym whole.number)
          (own_jobs n w (node_seen node).clients (steps.posted_jobs (nodes.worker_at w (node_seen node)).slot) (shaped.each w).posted);
    }

pub has_worker : (v : WorldState) (n w : ℕ) → IsHeld v → steps.is_worker v.setup n w ≡ true → HasWorker v n w
has_worker v n w held e =
    let world = held.world in
    let shaped : IsShapedWorld v.setup world = subst (IsShapedWorld v.setup) (sym held.past.1) (each_shaped v.setup held.events) in
    let both = and_parts (ltb n v.setup.nodes) (ltb w v.setup.workers) e in
    let here : n < v.setup.nodes = ltb-true n v.setup.nodes both.0 in
    let within : w < v.setup.workers = ltb-true w v.setup.workers both.1 in
    let many : length v.nodes ≡ length world.nodes = nodes_many v world held.shows in
    let long : length world.nodes ≡ v.setup.nodes = shaped.sized.nodes in
    let there : n < length v.nodes = omega arith in
    let stands : n < length world.nodes = omega arith in
    record {
      there = there;
      place = λ d.
          let node = get_or v.nodes n d in
          let seen : nodes.node_at n world ≡ node_seen node = node_is v world n d held.shows there in
          let first : 0 + n ≡ n = omega arith in
          place_of v.setup n w node (subst (λ (k : ℕ). IsWhole k node) first (whole_at v.nodes 0 n d there held.whole))
          (subst (IsSized v.setup) seen (shaped.sized.each n stands)) (subst (IsShaped v.setup n) seen (shaped.shaped n stands)) within;
    }

-- a step at a worker comes to what its node says
abbrev pub IsAtWorker : traffic.Setup → steps.Step → ℕ → ℕ → (nodes.Node → steps.Outcome) → Type 0
IsAtWorker setup step n w f =
    (world : nodes.World) → steps.outcome setup world step ≡ steps.idle_where (not (steps.is_worker setup n w)) reasons.NoSuch (f (nodes.node_at n world))

pub comes_to_no_such : (v : WorldState) (step : steps.Step) (n w : ℕ) (f : nodes.Node → steps.Outcome) → IsAtWorker v.setup step n w f
    → steps.is_worker v.setup n w ≡ false
    → ComesTo v step (steps.Idle reasons.NoSuch)
comes_to_no_such v step n w f by e =
    record { is = λ events world past s. by world ∙ ap (λ (b : Bool). steps.idle_where (not b) reasons.NoSuch (f (nodes.node_at n world))) e }

pub comes_to : (v : WorldState) (step : steps.Step) (n w : ℕ) (f : nodes.Node → steps.Outcome) (node : WorldNode) (outcome : steps.Outcome)
    → IsAtWorker v.setup step n w f
    → steps.is_worker v.setup n w ≡ true → n < length v.nodes → node ≡ get_or v.nodes n node → outcome ≡ f (node_seen node) → ComesTo v step outcome
comes_to v step n w f node outcome by e there at is =
    record {
      is = λ events world past s.
          by world
          ∙ ap (λ (b : Bool). steps.idle_where (not b) reasons.NoSuch (f (nodes.node_at n world))) e
          ∙ ap f (node_is v world n node s there ∙ ap node_seen (sym at))
          ∙ sym is;
    }

-- what a step makes of a node
pub record Makes (setup : traffic.Setup) (step : steps.Step) (n : ℕ) (g : nodes.Node → nodes.Node) : Type 0 where
  pub nodes_are : (world : nodes.World) → (steps.effect setup world step steps.nothing_refused).nodes ≡ set world.nodes n (g (nodes.node_at n world))
  pub taken_is : (world : nodes.World) → nodes.log_of (steps.effect setup world step steps.nothing_refused).taken ≡ nodes.log_of world.taken
  pub passed_is : (node : nodes.Node) → (g node).passed ≡ node.passed

-- another node in its place shows the effect
pub shows_made : (v : WorldState) (world : nodes.World) (step : steps.Step) (n : ℕ) (g : nodes.Node → nodes.Node) (x old : WorldNode) → Makes v.setup step n g
    → n < length v.nodes
    → old ≡ get_or v.nodes n old → node_seen x ≡ g (node_seen old) → Shows v world
    → Shows (record v { nodes = set v.nodes n x }) (steps.effect v.setup world step steps.nothing_refused)
shows_made v world step n g x old makes there at seen s =
    let is : nodes.node_at n world ≡ node_seen old = node_is v world n old s there ∙ ap node_seen (sym at) in
    let many = nodes_many v world s in
    let same = makes.passed_is (nodes.node_at n world) in
    let passed = s.passed n (omega arith) in
    shows_changed v world (steps.effect v.setup world step steps.nothing_refused) n x (g (nodes.node_at n world)) s there (seen ∙ ap g (sym is))
    (makes.nodes_are world) (makes.taken_is world) (omega arith)

pub steps_done : (v : WorldState) (step : steps.Step) (n : ℕ) (g : nodes.Node → nodes.Node) (x old : WorldNode) → Makes v.setup step n g
    → ((world : nodes.World) → handed_by world step ≡ []) → ((world : nodes.World) → answer_by world step ≡ None)
    → n < length v.nodes → old ≡ get_or v.nodes n old → node_seen x ≡ g (node_seen old) → ComesTo v step steps.Done
    → Steps v (record v { nodes = set v.nodes n x }) step steps.Done
steps_done v step n g x old makes none unanswered there at seen comes =
    takes_done v (record v { nodes = set v.nodes n x }) step refl none unanswered
    (λ events world past s. (
      steps.nothing_refused,
      nothing_is_refused world step steps.Done,
      came_plainly v.setup world step ∙ comes.is events world past s,
      shows_made v world step n g x old makes there at seen s,
    ))

-- and it is held, where the node is whole
pub held_with : (v : WorldState) (step : steps.Step) (outcome : steps.Outcome) (handed : List traffic.Handed) (answer : Option Answering) (n : ℕ) (x : WorldNode)
    → IsHeld v
    → Takes v (record v { nodes = set v.nodes n x }) step outcome handed answer → IsWhole n x → IsHeld (record v { nodes = set v.nodes n x })
held_with v step outcome handed answer n x held takes whole =
    let first : n ≡ 0 + n = omega arith in
    held_on v (record v { nodes = set v.nodes n x }) step outcome handed answer held takes
    (whole_set v.nodes 0 n x (subst (λ (k : ℕ). IsWhole k x) first whole) held.whole) held.fits

abbrev pub state : traffic.Setup → List WorldNode → Log → Bool → WorldState
state setup all log failed = record { setup = setup; nodes = all; log = log; failed = failed }

-- by the parts of a world that hasn't failed, before and after
pub done_at : (v : WorldState) (setup : traffic.Setup) (all : List WorldNode) (log : Log) (failed after : Bool) (step : steps.Step) (n : ℕ)
    (g : nodes.Node → nodes.Node) (x old : WorldNode)
    → state setup all log failed ≡ v → failed ≡ false → after ≡ false → Makes setup step n g
    → ((world : nodes.World) → handed_by world step ≡ []) → ((world : nodes.World) → answer_by world step ≡ None)
    → n < length all → old ≡ get_or all n old → node_seen x ≡ g (node_seen old) → ComesTo v step steps.Done
    → Steps v (state setup (set all n x) log after) step steps.Done
done_at v setup all log failed after step n g x old is up still makes none unanswered there at seen comes =
    subst (λ (o : WorldState). Steps o (state setup (set all n x) log after) step steps.Done) is
    (subst (λ (b : Bool). Steps (state setup all log failed) (state setup (set all n x) log b) step steps.Done) (up ∙ sym still)
    (steps_done (state setup all log failed) step n g x old makes none unanswered there at seen
    (subst (λ (o : WorldState). ComesTo o step steps.Done) (sym is) comes)))

pub held_at : (v : WorldState) (setup : traffic.Setup) (all : List WorldNode) (log : Log) (failed after : Bool) (step : steps.Step) (outcome : steps.Outcome)
    (handed : List traffic.Handed) (answer : Option Answering) (n : ℕ) (x : WorldNode)
    → state setup all log failed ≡ v → failed ≡ false → after ≡ false
    → (failed ≡ false → IsHeld (state setup all log failed))
    → Takes v (state setup (set all n x) log after) step outcome handed answer → IsWhole n x → IsHeld (state setup (set all n x) log after)
held_at v setup all log failed after step outcome handed answer n x is up still held takes whole =
    subst (λ (b : Bool). IsHeld (state setup (set all n x) log b)) (up ∙ sym still)
    (held_with (state setup all log failed) step outcome handed answer n x (held up)
    (subst (λ (o : WorldState). Takes o (state setup (set all n x) log failed) step outcome handed answer) (sym is)
    (subst (λ (b : Bool). Takes v (state setup (set all n x) log b) step outcome handed answer) (still ∙ sym up) takes)) whole)

-- a worker of it, by its parts
pub has_there : (v : WorldState) (setup : traffic.Setup) (all : List WorldNode) (log : Log) (failed : Bool) (n w : ℕ) → state setup all log failed ≡ v
    → HasWorker v n w → n < length all
has_there v setup all log failed n w is has = subst (λ (o : WorldState). n < length o.nodes) (sym is) has.there

pub has_place : (v : WorldState) (setup : traffic.Setup) (all : List WorldNode) (log : Log) (failed : Bool) (n w : ℕ) (old : WorldNode) → state setup all log failed ≡ v
    → HasWorker v n w
    → old ≡ get_or all n old → IsPlace n w old
has_place v setup all log failed n w old is has at =
    subst (IsPlace n w) (sym at) (subst (λ (o : WorldState). IsPlace n w (get_or o.nodes n old)) (sym is) (has.place old))

-- a step of a worker that was done, and that the world behind it is held
pub step_at : (v : WorldState) (setup : traffic.Setup) (all : List WorldNode) (log : Log) (failed after : Bool) (step : steps.Step) (n w : ℕ)
    (g : nodes.Node → nodes.Node) (x old : WorldNode)
    → state setup all log failed ≡ v → failed ≡ false → after ≡ false → (failed ≡ false → IsHeld (state setup all log failed)) → Makes setup step n g
    → ((world : nodes.World) → handed_by world step ≡ []) → ((world : nodes.World) → answer_by world step ≡ None)
    → HasWorker v n w → ComesTo v step steps.Done → old ≡ get_or all n old → node_seen x ≡ g (node_seen old) → (IsWhole n old → IsWhole n x)
    → Steps v (state setup (set all n x) log after) step steps.Done × IsHeld (state setup (set all n x) log after)
step_at v setup all log failed after step n w g x old is up still held makes none unanswered has comes at seen whole =
    let there = has_there v setup all log failed n w is has in
    let place = has_place v setup all log failed n w old is has at in
    let taken = done_at v setup all log failed after step n g x old is up still makes none unanswered there at seen comes in
    (taken, held_at v setup all log failed after step steps.Done [] None n x is up still held taken (whole place.whole))
