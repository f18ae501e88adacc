-- A script that is played: the server that its first step sets up, the connections that were opened, and what is printed.
use Rattle.std.specs.Prelude.{◌≡◌, ℕ, List, [], ◌∷◌, ◌++◌, Option, Some, None, codes, refl}
use Rattle.std.specs.Coded.{Coded, code_by, coded×, coded_list, coded_option}
use Rattle.nr_model.specs.Bytes.{Bytes}
use Rattle.nr_model.specs.Connections as traffic
use Rattle.nr_model.specs.Nodes as nodes
use Rattle.nr_entry.specs.Setups.{IsAllowed}
use Rattle.nr_world.specs.WorldState.{WorldState, Shows, coded_world}
use Rattle.nr_script.specs.declared.line.Line.{Line}
use Rattle.nr_script.specs.declared.line.Line.TheVariants as lines
use Rattle.nr_script.specs.Lines.{line_of}
use Rattle.nr_script.specs.Receivers.{Received, coded_received}
use Rattle.nr_script.specs.Acts.{Setup, asked_by, IsDone}

-- the server, once it is set up, and the connections in the order in which they were opened
pub record Played : Type 0 where
  pub world : Option WorldState
  pub opened : List Received

abbrev pub coded_played : Coded Played
coded_played =
    code_by (Option WorldState × List Received) (coded× (coded_option coded_world) (coded_list coded_received)) (λ p. (p.world, p.opened))
    (λ p. record { world = p.0; opened = p.1 }) (λ _. refl)

-- how many connections of a node are open at most
abbrev pub most_connections : ℕ
most_connections = 256

-- the setup that a step says
abbrev pub setup_in : Line → Option traffic.Setup
setup_in (lines.Setup nodes places workers queue) =
    Some (record { nodes = nodes; places = places; workers = workers; connections = most_connections; queue_limit = queue })
setup_in _ = None

-- a server as a step sets it up
pub record IsSetUp (step : Line) (world : WorldState) : Type 0 where
  pub said : setup_in step ≡ Some world.setup
  pub fresh : Shows world (nodes.fresh world.setup)

-- a step that says no setup that is allowed
abbrev pub SaysNone : Line → Type 0
SaysNone step = (setup : traffic.Setup) → setup_in step ≡ Some setup → IsAllowed setup → ⊥

-- The first step sets the server up, and prints a line of its own. From then on the setup stays, and each step does what it asks.
abbrev pub StandsAs : Line → Option WorldState → List Received → Played → Bytes → Bytes → Type 0
StandsAs step None all new before after =
    (world : WorldState) × (new.world ≡ Some world) × IsSetUp step world × (new.opened ≡ all) × (after ≡ before ++ codes "ok\n")
StandsAs step (Some old) all new before after =
    (world : WorldState) × (new.world ≡ Some world) × (world.setup ≡ old.setup) × IsDone (asked_by all step) old world all new.opened before after

-- a line that says nothing changes nothing, and prints nothing
abbrev pub IsTaken : Option (Option Line) → Played → Played → Bytes → Bytes → Type 0
IsTaken None old new before after = ⊥
IsTaken (Some None) old new before after = (new ≡ old) × (after ≡ before)
IsTaken (Some (Some step)) old new before after = StandsAs step old.world old.opened new before after

abbrev pub IsPlayed : Bytes → Played → Played → Bytes → Bytes → Type 0
IsPlayed line old new before after = IsTaken (line_of line) old new before after

-- a step that can't be taken: the first one, where it says no setup that is allowed, and a later one that says a setup
abbrev pub IsOutOfPlace : Line → Option WorldState → List Received → Type 0
IsOutOfPlace step None all = SaysNone step
IsOutOfPlace step (Some world) all = asked_by all step ≡ Setup

-- so for a line, or it says no step at all
abbrev pub IsBadStep : Option (Option Line) → Played → Type 0
IsBadStep None old = Unit {0}
IsBadStep (Some None) old = ⊥
IsBadStep (Some (Some step)) old = IsOutOfPlace step old.world old.opened

abbrev pub IsBad : Bytes → Played → Type 0
IsBad line old = IsBadStep (line_of line) old

-- lines that were played one after the other, and all that they printed
abbrev pub ArePlayed : List Bytes → Played → Played → Bytes → Type 0
ArePlayed [] old new printed = (new ≡ old) × (printed ≡ [])
ArePlayed (line ∷ lines) old new printed =
    (middle : Played) × (first : Bytes) × (rest : Bytes) × IsPlayed line old middle [] first × ArePlayed lines middle new rest × (printed ≡ first ++ rest)

-- the script that begins
abbrev pub begun : Played
begun = record { world = None; opened = [] }
