-- How a node goes through the log: what it needs to go on, what many entries and a look do to it, and which entries every node has passed.
use Rattle.std.specs.Prelude.{◌≡◌, ◌⊎◌, ◌+◌, ◌-◌, ◌<◌, ◌≤◌, ◌^◌, ℕ, true, false, min, cond, List, [], ◌∷◌, length, All, slice_index_or, None, Some}
use Rattle.nr_model.specs.Nodes as nodes
use Rattle.nr_model.specs.Nodes.Steps.{Cut, Refused, advanced, advanced_by, with_reads}
use Rattle.nr_replica.specs.Members.{AreNumbered}
use Rattle.nr_world.specs.declared.node.WorldNode.{WorldNode}
use Rattle.nr_world.specs.declared.log.Log.{Log}
use Rattle.nr_world.specs.Logs.{log_seen}
use Rattle.nr_world.specs.Advanced.{IsEntryCut, IsReadCut, IsOf}
use Rattle.nr_world.specs.Whole.{IsWhole}
use Rattle.nr_world.specs.WorldState.{WorldState}

-- a node is whole, and the log has each entry that it hasn't passed
pub record IsWithin (log : Log) (node : WorldNode) : Type 0 where
  pub whole : IsWhole node.replica.node node
  pub numbered : AreNumbered node.replica.node 0 node.replica.members
  pub base : log.base ≤ node.passed
  pub tail : node.passed ≤ log.base + length (log_seen log)
  pub fits : log.base + length (log_seen log) < 2 ^ 64

-- the entry that a node applies next, and the node as an entry finds it
abbrev pub next_of : List nodes.Logged → nodes.Node → nodes.Logged
next_of log node = slice_index_or log node.passed (record { node = 0; jobs = [] })

abbrev pub found_at : Refused → ℕ → List nodes.Logged → nodes.Node → ℕ → nodes.Node
found_at refused n log node x = advanced_by (x - node.passed) refused n log node

-- a node went on by one entry of the log
pub record IsNext (n : ℕ) (log : List nodes.Logged) (old new : nodes.Node) : Type 0 where
  pub refused : Refused
  pub of_entry : IsOf n (next_of log old) old refused
  pub state : new ≡ advanced refused n log old

-- a cut of an entry that the node passes before this one, as that entry finds it
pub record IsCutBefore (bound n : ℕ) (log : List nodes.Logged) (refused : Refused) (node : nodes.Node) (cut : Cut) : Type 0 where
  pub from : node.passed ≤ cut.entry
  pub before : cut.entry < bound
  pub is_cut : IsEntryCut n (next_of log (found_at refused n log node cut.entry)) refused.falls (found_at refused n log node cut.entry) cut

-- It went on by so many entries. What was refused is of these, and if the application of one was, the node is down.
pub record IsAhead (n count : ℕ) (log : List nodes.Logged) (old new : nodes.Node) : Type 0 where
  pub refused : Refused
  pub falls : (refused.falls ≡ None) ⊎ (new.down ≡ true)
  pub fell : (x : ℕ) → refused.falls ≡ Some x → (old.passed ≤ x) × (x < new.passed)
  pub cuts : All (IsCutBefore new.passed n log refused old) refused.cuts
  pub copy : refused.copy ≡ false
  pub passed : new.passed ≡ old.passed + count
  pub state : new ≡ advanced_by count refused n log old

-- a cut of the reads behind the entries that it went on by
pub record IsCutBehind (n tail : ℕ) (ahead : nodes.Node) (cut : Cut) : Type 0 where
  pub up : ahead.down ≡ false
  pub is_cut : IsReadCut n tail ahead cut

-- It went on to the tail of the log, and ran the reads that lead unless it is down. What was refused is of these entries and reads.
pub record HasLooked (n tail : ℕ) (log : List nodes.Logged) (old new : nodes.Node) : Type 0 where
  pub refused : Refused
  pub ahead : nodes.Node
  pub fell : (x : ℕ) → refused.falls ≡ Some x → (old.passed ≤ x) × (x < tail)
  pub cuts : All (λ cut. IsCutBefore tail n log refused old cut ⊎ IsCutBehind n tail ahead cut) refused.cuts
  pub copy : refused.copy ≡ false
  pub went : ahead ≡ advanced_by (tail - old.passed) refused n log old
  pub state : new ≡ cond ahead.down ahead (with_reads refused.cuts tail ahead)

-- each of these nodes has passed so many entries
abbrev pub HavePassed : ℕ → List WorldNode → Type 0
HavePassed count [] = Unit {0}
HavePassed count (node ∷ nodes) = (count ≤ node.passed) × HavePassed count nodes

-- how many each has passed, at most so many
abbrev pub least_of : ℕ → List WorldNode → ℕ
least_of most [] = most
least_of most (node ∷ nodes) = least_of (min most node.passed) nodes

-- the log begins behind the entries that every node has passed
abbrev pub LetsGo : WorldState → WorldState → Type 0
LetsGo old new = new.log.base ≡ least_of (old.log.base + length (log_seen old.log)) new.nodes
