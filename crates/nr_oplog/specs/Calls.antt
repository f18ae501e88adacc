-- What the calls of a seat say, and what a seat holds.
use Rattle.std.specs.Prelude.{◌≡◌, ℕ, suc, ◌^◌, ◌<◌, ◌≤◌, Bool, true, List, [], ◌∷◌, ◌++◌, length, take, slice_index, Option, None, is_some, if◌then◌else◌}
use Rattle.atomic_table.specs.Table.{Me}
use Rattle.nr_entry.specs.declared.entry.Entry.{Entry}
use Rattle.nr_log_end.specs.Standings.{passed_of}
use Rattle.nr_oplog.specs.declared.view.LogView.{LogView}
use Rattle.nr_log_end.specs.declared.standing.Load.{Load}
use Rattle.nr_log_end.specs.declared.standing.Load.TheVariants.{Tail, Passed}
use Rattle.nr_oplog.specs.Layout.{slot_of}
use Rattle.nr_oplog.specs.Rule.{Share}
use Rattle.nr_oplog.specs.Plays.{with_tail}

-- what a node's seat holds between two calls
pub record IsSeated (me : Me (Option Share) LogView) (node passed : ℕ) (held : Bool) (seen at : ℕ) (shares : List (Option Entry)) (least : ℕ) : Type 0 where
  pub node_is : me.0.standing.node ≡ node
  pub upto_is : me.0.upto ≡ suc node
  pub below : node < me.0.standing.nodes
  pub idle : me.0.filling ≡ 0
  pub passed_is : passed_of me.0.standing ≡ passed
  pub held_is : is_some me.0.standing.held ≡ held
  pub slots : me.1 ≡ (if held then (slot_of me.0.places node passed, None) ∷ [] else [])
  pub few : passed ≤ 2 ^ 63
  pub fewer : held ≡ true → passed < 2 ^ 63
  pub seen_is : me.0.standing.seen ≡ seen
  pub at_is : me.0.standing.at ≡ at
  pub number : at < 2 ^ 63
  pub shares_are : me.0.standing.unfilled ≡ shares
  pub most : length shares ≤ me.0.standing.nodes
  pub counts : length me.0.met ≡ me.0.standing.nodes
  pub least_is : (other : ℕ) → other < me.0.standing.nodes → least ≤ slice_index me.0.met other

-- the tail was loaded once, and nothing else happened
abbrev pub LooksAtTail : LogView → LogView → Type 0
LooksAtTail v w = (v.standing.seen ≤ w.standing.seen) × (w ≡ with_tail w.standing.seen v)

-- the tail was loaded once, and no passed count
abbrev pub LookedOnce : LogView → LogView → Type 0
LookedOnce v w = (tail : ℕ) × (w.looks ≡ v.looks ++ Tail tail ∷ [])

-- passed counts were loaded, and nothing else happened
abbrev pub OnlyCounts : LogView → LogView → Type 0
OnlyCounts v w = (w ≡ record v { met = w.met; looks = w.looks }) × ((more : List Load) × (w.looks ≡ v.looks ++ more))

-- the loads of these passed counts, of the nodes from one on
abbrev pub loads_from : ℕ → List ℕ → List Load
loads_from node [] = []
loads_from node (count ∷ counts) = Passed node count ∷ loads_from (suc node) counts

-- the passed counts of the nodes below one were loaded, each once, and nothing else happened
pub record LoadsTo (upto : ℕ) (v w : LogView) : Type 0 where
  pub loads : w ≡ record v { met = w.met; looks = v.looks ++ loads_from 0 (take upto w.met) }
  pub counts : length w.met ≡ length v.met
  pub grown : (node : ℕ) → slice_index v.met node ≤ slice_index w.met node
  pub own : v.standing.node < upto → slice_index w.met v.standing.node ≡ passed_of v.standing

-- The passed counts of all nodes were loaded, each once and in order, and nothing else happened. None is less than what was met before, and the
-- seat's own node has passed what is met of it.
pub record LoadsCounts (v w : LogView) : Type 0 where
  pub loads : w ≡ record v { met = w.met; looks = v.looks ++ loads_from 0 w.met }
  pub counts : length w.met ≡ v.standing.nodes
  pub grown : (node : ℕ) → slice_index v.met node ≤ slice_index w.met node
  pub own : slice_index w.met v.standing.node ≡ passed_of v.standing

-- the least of the first of these counts
abbrev pub IsLeastTo : ℕ → ℕ → List ℕ → Type 0
IsLeastTo upto least counts = ((node : ℕ) → node < upto → least ≤ slice_index counts node) × ((node : ℕ) × (node < upto) × (least ≡ slice_index counts node))

-- the least of these counts
abbrev pub IsLeastOf : ℕ → List ℕ → Type 0
IsLeastOf least counts = IsLeastTo (length counts) least counts
