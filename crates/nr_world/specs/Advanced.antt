-- What an apply and the reads of a look do to a node, where memory may be refused.
use Rattle.std.specs.Prelude.{◌≡◌, ◌<◌, ℕ, true, false, ◌||◌, ◌⊎◌, cond, List, length, All, None, Some, Option}
use Rattle.nr_model.specs.Queues.{grows}
use Rattle.nr_model.specs.Sequential.Events.{Emission}
use Rattle.nr_model.specs.Servers.{emitted_all}
use Rattle.nr_model.specs.Entries.{entry_items, read_jobs}
use Rattle.nr_model.specs.Nodes as nodes
use Rattle.nr_model.specs.Nodes.Steps.{Cut, Refused, texts_for, falls_at, fallen, with_entry, with_reads}
use Rattle.nr_world.specs.Served.{applied_node}

-- The growth of a queue is refused: the connection is one of the node's, and its queue takes this one of what is emitted, behind those before it.
pub record IsGrown (es : List Emission) (n : ℕ) (node : nodes.Node) (cut : Cut) : Type 0 where
  pub own : cut.connection.node ≡ n
  pub there : cut.connection.serial < length node.clients
  pub growing : grows (nodes.client_at cut.connection.serial node).queue (texts_for cut.connection es) cut.after ≡ true

-- a cut of what the next entry emits, which the node applies
pub record IsEntryCut (n : ℕ) (entry : nodes.Logged) (falls : Option ℕ) (node : nodes.Node) (cut : Cut) : Type 0 where
  pub at_entry : cut.entry ≡ node.passed
  pub applies : (node.down || (node.refused || falls_at falls node.passed)) ≡ false
  pub grown : IsGrown (emitted_all node.server (entry_items entry.jobs)) n node cut

-- a cut of what the reads emit that lead, behind so many entries
pub record IsReadCut (n tail : ℕ) (node : nodes.Node) (cut : Cut) : Type 0 where
  pub at_tail : cut.entry ≡ tail
  pub grown : IsGrown (emitted_all node.server (read_jobs node.waiting)) n node cut

-- what was refused is of the next entry alone
pub record IsOf (n : ℕ) (entry : nodes.Logged) (node : nodes.Node) (refused : Refused) : Type 0 where
  pub falls : (refused.falls ≡ None) ⊎ (refused.falls ≡ Some node.passed)
  pub cuts : All (IsEntryCut n entry refused.falls node) refused.cuts
  pub copy : refused.copy ≡ false

-- a node that is up applied its next entry, or fell
pub record IsAdvanced (n : ℕ) (entry : nodes.Logged) (old new : nodes.Node) : Type 0 where
  pub refused : Refused
  pub of_entry : IsOf n entry old refused
  pub state : new ≡ cond (old.refused || falls_at refused.falls old.passed) (fallen old) (with_entry refused.cuts n entry old)

-- and it was passed
pub record IsApplied (n : ℕ) (entry : nodes.Logged) (old new : nodes.Node) : Type 0 where
  pub refused : Refused
  pub of_entry : IsOf n entry old refused
  pub state : new ≡ applied_node refused n entry old

-- a node ran the reads that lead
pub record HasRun (n tail : ℕ) (old new : nodes.Node) : Type 0 where
  pub cuts : List Cut
  pub of_reads : All (IsReadCut n tail old) cuts
  pub state : new ≡ with_reads cuts tail old
