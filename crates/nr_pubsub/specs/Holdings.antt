-- What connections hold, as contracts see it.
use Rattle.std.specs.Prelude.{ℕ, List, map, refl}
use Rattle.std.specs.Coded.{Coded, code_by, coded×, coded_ℕ, coded_list}
use Rattle.std.specs.FinMap as finmap
use Rattle.nr_model.specs.Bytes.{Bytes}
use Rattle.nr_model.specs.Keyspace.{coded_bytes}
use Rattle.nr_model.specs.Items.{Connection, connection_cmp}
use Rattle.nr_model.specs.Names.{Held}
use Rattle.nr_entry.specs.Jobs.{connection_of}
use Rattle.nr_entry.specs.declared.conn.ConnId.{ConnId}

abbrev pub coded_held : Coded Held
coded_held = code_by (List Bytes × List Bytes) (coded× (coded_list coded_bytes) (coded_list coded_bytes)) (λ h. (h.channels, h.patterns))
    (λ p. record { channels = p.0; patterns = p.1 }) (λ _. refl)

abbrev pub coded_connection : Coded Connection
coded_connection = code_by (ℕ × ℕ) (coded× coded_ℕ coded_ℕ) (λ c. (c.node, c.serial)) (λ p. record { node = p.0; serial = p.1 }) (λ _. refl)

-- what each connection holds that holds anything
abbrev pub AllHeld : Type 0
AllHeld = finmap.FinMap connection_cmp Held

abbrev pub coded_all_held : Coded AllHeld
coded_all_held = finmap.code coded_connection coded_held

abbrev pub all_held_of : List (ConnId × Held) → AllHeld
all_held_of entries = finmap.from_entries (map (λ e. (connection_of e.0, e.1)) entries)
