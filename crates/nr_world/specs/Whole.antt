-- What holds of each node of a world, whatever it shows.
use Rattle.std.specs.Prelude.{◌≡◌, ◌+◌, ◌<◌, ◌^◌, ℕ, suc, true, false, ◌||◌, List, [], ◌∷◌, length}
use Rattle.nr_model.specs.Nodes as nodes
use Rattle.nr_model.specs.Nodes.Steps.{in_use}
use Rattle.nr_model.specs.Nodes.Pasts.{Event, IsPast}
use Rattle.nr_session.specs.SessionState.{SessionState}
use Rattle.nr_replica.specs.Members.{Member}
use Rattle.nr_world.specs.declared.node.WorldNode.{WorldNode}
use Rattle.nr_world.specs.Served.{node_seen}
use Rattle.nr_world.specs.Logs.{log_seen}
use Rattle.nr_world.specs.WorldState.{WorldState, Shows}

-- the session of a connection that isn't closed has its name, and takes no bytes exactly where they asked for its end or it was closed; the queue of one that
-- is closed is cut
pub record IsPair (n serial : ℕ) (session : SessionState) (member : Member) : Type 0 where
  pub named : member.is_closed ≡ false → session.connection ≡ record { node = n; serial = serial }
  pub ended : session.ended ≡ (session.gave_end || member.is_closed)
  pub shut : member.is_closed ≡ true → member.outbox.cut ≡ true

-- each connection has its session and its member, from this serial on
abbrev pub ArePaired : ℕ → ℕ → List SessionState → List Member → Type 0
ArePaired n serial [] [] = Unit {0}
ArePaired n serial [] (member ∷ members) = ⊥
ArePaired n serial (session ∷ sessions) [] = ⊥
ArePaired n serial (session ∷ sessions) (member ∷ members) = IsPair n serial session member × ArePaired n (suc serial) sessions members

-- node n is whole
pub record IsWhole (n : ℕ) (node : WorldNode) : Type 0 where
  pub number : node.replica.node ≡ n
  pub pairs : ArePaired n 0 node.sessions node.replica.members
  pub owed : length node.replica.owed ≡ length node.workers.items
  pub counted : node.in_use ≡ in_use (node_seen node)

-- node n is the first of these, and each is whole
abbrev pub AreWhole : ℕ → List WorldNode → Type 0
AreWhole n [] = Unit {0}
AreWhole n (node ∷ more) = IsWhole n node × AreWhole (suc n) more

-- a world that hasn't failed shows one to which events led, each of its nodes is whole, and the numbers of its entries fit
pub record IsHeld (v : WorldState) : Type 0 where
  pub events : List Event
  pub world : nodes.World
  pub past : IsPast v.setup events world
  pub shows : Shows v world
  pub whole : AreWhole 0 v.nodes
  pub fits : v.log.base + length (log_seen v.log) < 2 ^ 64
