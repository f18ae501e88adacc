-- What a log is that was opened.
use Rattle.std.specs.Prelude.{ℕ}
use Rattle.atomic_table.specs.Seated.{TableId}
use Rattle.nr_oplog.specs.declared.open.OpenedLog.{OpenedLog}

-- the name of its table
abbrev pub name_of : OpenedLog → TableId
name_of opened = opened.table.shared.table_id

-- how many nodes and places it has
abbrev pub nodes_of : OpenedLog → ℕ
nodes_of opened = opened.nodes

abbrev pub places_of : OpenedLog → ℕ
places_of opened = opened.places
