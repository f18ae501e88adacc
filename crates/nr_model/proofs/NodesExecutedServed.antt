-- The jobs that wait at a node, and those of its entries, are of its connections, and those of a posted batch of its worker's.
use Rattle.std.proofs.Common.{◌≡◌, ℕ, ◌<◌, inl, inr, List, [], ◌∷◌, length, ap, ◌∙◌, subst, arith, Contains}
use Rattle.std.specs.List.{AllByRecursion}
use Rattle.std.proofs.lemmas.List.{get_or_default}
use Rattle.std.proofs.lemmas.List.Elements.{All-from_recursion, All-contains}
use Rattle.nr_model.specs.Items.{Item}
use Rattle.nr_model.specs.Entries.{Jobs}
use Rattle.nr_model.specs.Connections.{Setup}
use Rattle.nr_model.specs.Nodes.{Client, fresh_client, Slot, Posted, Node, Taken, Entry, Reads, Logged, World, node_at, worker_at, log_of}
use Rattle.nr_model.specs.Nodes.Steps.{posted_jobs}
use Rattle.nr_model.specs.Nodes.Pasts.{Event, world_after}
use Rattle.nr_model.proofs.NodesOwnShape as shape
use Rattle.nr_model.proofs.NodesOwnShaped.{IsTakenIn, AreOf, IsShapedWorld, each_shaped}
use Rattle.nr_model.proofs.NodesExecutedLists.{in_cases}
use Rattle.nr_model.proofs.NodesExecutedFits.{IsAt}

pub record IsServed (r : ℕ) (log : List Logged) (node : Node) : Type 0 where
  pub waiting : (x : Item) → Contains node.waiting x → x.connection.serial < length node.clients
  pub logged : (e : Logged) → Contains log e → e.node ≡ r → (x : Item) → Contains e.jobs x → x.connection.serial < length node.clients
  pub posted : (w : ℕ) (jobs : Jobs) → (worker_at w node).slot ≡ Posted jobs → (x : Item) → Contains jobs x → IsAt node.clients w x

abbrev pub AreServed : World → Type 0
AreServed world = (r : ℕ) → r < length world.nodes → IsServed r (log_of world.taken) (node_at r world)

-- what holds of each job holds of one
of_one : (P : Item → Type 0) (jobs : Jobs) (x : Item) → AllByRecursion P jobs → Contains jobs x → P x
of_one P jobs x all h = All-contains P jobs x (All-from_recursion P jobs all) h

-- a logged entry was taken
logged_of : (nodes : List Node) (taken : List Taken) → AllByRecursion (IsTakenIn nodes) taken → (e : Logged) → Contains (log_of taken) e → AreOf nodes e.node e.jobs
logged_of nodes [] all e h = let none : h.0 < 0 = h.1 in absurd (omega arith)
logged_of nodes (Entry n jobs ∷ taken) all e h =
    elim (in_cases e (record { node = n; jobs = jobs }) (log_of taken) h) [
      | inl is ↦ subst (λ (l : Logged). AreOf nodes l.node l.jobs) is all.0
      | inr behind ↦ logged_of nodes taken all.1 e behind
    ]
logged_of nodes (Reads n count jobs ∷ taken) all e h = logged_of nodes taken all.1 e h

-- a job at a worker
at_worker : (n w : ℕ) (clients : List Client) (x : Item) → shape.IsAt n w clients x → IsAt clients w x
at_worker n w clients x a =
    let there = a.of.stands in
    let default = fresh_client 0 0 (record { node = 0; serial = 0 }) in
    record {
      there = there;
      worker = ap (λ (c : Client). c.worker) (get_or_default clients x.connection.serial (fresh_client 0 0 x.connection) default there) ∙ a.worker;
    }

-- each node of a world
served_world : (setup : Setup) (world : World) → IsShapedWorld setup world → AreServed world
served_world setup world s r there =
    let node = node_at r world in
    let one = s.shaped r there in
    record {
      waiting = λ x h. (of_one (shape.IsOf r node.clients) node.waiting x one.waiting h).stands;
      logged = λ e h own x inside.
          let of = subst (λ (m : ℕ). AreOf world.nodes m e.jobs) own (logged_of world.nodes world.taken s.taken e h) in
          (of_one (shape.IsOf r node.clients) e.jobs x of.of inside).stands;
      posted = λ w jobs is x h.
          let all = subst (λ (slot : Slot). AllByRecursion (shape.IsAt r w node.clients) (posted_jobs slot)) is (one.each w).posted in
          at_worker r w node.clients x (of_one (shape.IsAt r w node.clients) jobs x all h);
    }

-- so they are in every world
pub each_served : (setup : Setup) (events : List Event) → AreServed (world_after setup events)
each_served setup events = served_world setup (world_after setup events) (each_shaped setup events)
