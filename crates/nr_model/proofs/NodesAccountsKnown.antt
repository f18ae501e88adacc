-- What the accounts take as known holds of the world behind every past: no premise is left.
use Rattle.std.proofs.Common.{◌≡◌, ℕ, ◌<◌, suc, true, false, inl, inr, List, [], ◌∷◌, length, refl, ap, sym, ◌∙◌, subst}
use Rattle.std.specs.Prelude.{flat_map}
use Rattle.std.specs.List.{AllByRecursion}
use Rattle.std.proofs.Common.{ltb}
use Rattle.std.proofs.lemmas.Bool.{cases_Bool, and_from, lt-ltb}
use Rattle.nr_model.specs.Items.{Connection, same_connection, Item}
use Rattle.nr_model.specs.Entries.{Jobs}
use Rattle.nr_model.specs.Connections.{Setup, handed_to}
use Rattle.nr_model.specs.Asked.{own_jobs}
use Rattle.nr_model.specs.Sequential.{emitted_for}
use Rattle.nr_model.specs.Bytes.{IsBeginningOf}
use Rattle.nr_model.specs.Nodes.{Taken, Entry, Reads, Node, World, fresh, node_at, jobs_taken, sequence_of}
use Rattle.nr_model.specs.Nodes.Steps.{is_client}
use Rattle.nr_model.specs.Nodes.Pasts.{Event, world_after, AreEvents, handed_in}
use Rattle.nr_model.specs.Nodes.Explained.{is_up, IsAccounted, IsReplica}
use Rattle.nr_model.proofs.JobLists.{same_is}
use Rattle.nr_model.proofs.NodesOwnPlaces.{ArePlaced, each_placed}
use Rattle.nr_model.proofs.NodesOwnTaken.{AreTaken, each_taken}
use Rattle.nr_model.proofs.NodesOwnLists.{All-weaker, none_own}
use Rattle.nr_model.proofs.NodesOwnShape.{IsOf}
use Rattle.nr_model.proofs.NodesOwnShaped.{node_in, AreOf, IsTakenIn, IsShapedWorld, each_shaped}
use Rattle.nr_model.proofs.NodesPartsEmitted.{AreRun}
use Rattle.nr_model.proofs.NodesAccountsMoves.{IsKnown, own_both}
use Rattle.nr_model.proofs.NodesAccounts.{AreKnown, handed_begins, each_accounted}
use Rattle.nr_model.proofs.NodesReplicas.{each_replica}

-- looks ran reads of their node's connections
all_run : (nodes : List Node) (tail : ℕ) (taken : List Taken) → AreTaken tail taken → AllByRecursion (IsTakenIn nodes) taken → AreRun taken
all_run nodes tail [] are of = tt
all_run nodes tail (Entry n jobs ∷ taken) are of = (tt, all_run nodes (suc tail) taken are.1 of.1)
all_run nodes tail (Reads n count jobs ∷ taken) are of = (
  (are.1, All-weaker (IsOf n (node_in nodes n).clients) (λ (job : Item). job.connection.node ≡ n) (λ job is. is.node) jobs of.0.of),
  all_run nodes tail taken are.2 of.1,
)

-- a connection that there isn't has no job among those of connections that there are
is_none : (world : World) (c : Connection) (n : ℕ) (job : Item) → is_client world c ≡ false → n < length world.nodes
    → IsOf n (node_at n world).clients job → same_connection job.connection c ≡ false
is_none world c n job absent there of =
    elim (cases_Bool (same_connection job.connection c)) [
      | inl e ↦
          let is = same_is job.connection c e in
          let node : n ≡ c.node = sym of.node ∙ ap (λ (d : Connection). d.node) is in
          let here : c.node < length world.nodes = subst (λ (m : ℕ). m < length world.nodes) node there in
          let stands : c.serial < length (node_at c.node world).clients =
          subst (λ (m : ℕ). c.serial < length (node_at m world).clients) node
          (subst (λ (d : Connection). d.serial < length (node_at n world).clients) is of.stands) in
          let found : is_client world c ≡ true =
          and_from (ltb c.node (length world.nodes)) (ltb c.serial (length (node_at c.node world).clients)) (lt-ltb c.node (length world.nodes) here)
          (lt-ltb c.serial (length (node_at c.node world).clients) stands) in
          absurd (cc (absent, found))
      | inr other ↦ other
    ]

none_of : (world : World) (c : Connection) (n : ℕ) (jobs : Jobs) → is_client world c ≡ false → AreOf world.nodes n jobs → own_jobs c jobs ≡ []
none_of world c n jobs absent are =
    none_own c jobs
    (All-weaker (IsOf n (node_in world.nodes n).clients) (λ (job : Item). same_connection job.connection c ≡ false)
    (λ job of. is_none world c n job absent are.there of) jobs are.of)

none_taken : (world : World) (c : Connection) (taken : List Taken) → is_client world c ≡ false → AllByRecursion (IsTakenIn world.nodes) taken
    → own_jobs c (flat_map jobs_taken taken) ≡ []
none_taken world c [] absent are = refl
none_taken world c (Entry n jobs ∷ taken) absent are =
    own_both c jobs (flat_map jobs_taken taken) (none_of world c n jobs absent are.0) (none_taken world c taken absent are.1)
none_taken world c (Reads n count jobs ∷ taken) absent are =
    own_both c jobs (flat_map jobs_taken taken) (none_of world c n jobs absent are.0) (none_taken world c taken absent are.1)

-- what is known
pub is_known : (setup : Setup) (world : World) → ArePlaced world → AreTaken 0 world.taken → IsShapedWorld setup world → IsKnown world
is_known setup world places taken shaped = record {
  numbered = λ n there s below. ((shaped.shaped n there).named s below).connection;
  applied = λ n there. (places n there).applied;
  behind = λ n there. (places n there).behind;
  within = λ n there. (places n there).within;
  held = λ n there. (places n there).held;
  run = all_run world.nodes 0 world.taken taken shaped.taken;
  unasked = λ c absent. none_taken world c world.taken absent shaped.taken;
}

pub each_known : (setup : Setup) → AreKnown setup
each_known setup events are = is_known setup (world_after setup events) (each_placed setup events) (each_taken setup events) (each_shaped setup events)

-- every past is accounted for
pub nodes_accounted : (setup : Setup) (events : List Event) → AreEvents setup (fresh setup) events
    → IsAccounted (sequence_of (world_after setup events)) events (world_after setup events)
nodes_accounted setup events are = each_accounted setup (each_known setup) events are

-- what was handed to a connection begins what is emitted for it
pub nodes_handed : (setup : Setup) (events : List Event) → AreEvents setup (fresh setup) events → (c : Connection)
    → IsBeginningOf (handed_to c (handed_in events)) (emitted_for c (sequence_of (world_after setup events)))
nodes_handed setup events are c = handed_begins events (world_after setup events) (nodes_accounted setup events are) c

-- and each node that is up has its replica
pub nodes_replicas : (setup : Setup) (events : List Event) → AreEvents setup (fresh setup) events → (r : ℕ) → r < setup.nodes
    → is_up r (world_after setup events) ≡ true → IsReplica (sequence_of (world_after setup events)) r (world_after setup events)
nodes_replicas setup events are r below up = each_replica setup (each_known setup) events are r below up
