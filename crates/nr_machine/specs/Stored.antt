-- The databases of connections, as they are kept.
use Rattle.std.specs.Prelude.{ℕ, List}
use Rattle.std.specs.Prelude as prelude
use Rattle.std.specs.FinMap as map
use Rattle.std.specs.Coded.{Coded, coded_ℕ}
use Rattle.nr_model.specs.Items.{Connection, connection_cmp}
use Rattle.nr_entry.specs.declared.conn.ConnId.{ConnId}
use Rattle.nr_entry.specs.Jobs.{connection_of}
use Rattle.nr_machine.specs.Codes.{coded_connection}

-- each connection with its database
abbrev pub seen_by : List (ConnId × ℕ) → List (Connection × ℕ)
seen_by entries = prelude.map (λ e. (connection_of e.0, e.1)) entries

abbrev pub databases_of : List (ConnId × ℕ) → map.FinMap connection_cmp ℕ
databases_of entries = map.from_entries (seen_by entries)

abbrev pub coded_databases : Coded (map.FinMap connection_cmp ℕ)
coded_databases = map.code coded_connection coded_ℕ
