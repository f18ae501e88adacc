-- The connections of a script, with what each was handed and nobody has taken, and the lines that show it.
use Rattle.std.specs.Prelude.{ℕ, zero, suc, cond, List, [], ◌∷◌, ◌++◌, map, Option, Some, None, refl}
use Rattle.std.specs.Coded.{Coded, code_by, coded×, coded_ℕ, coded_list}
use Rattle.nr_model.specs.Bytes.{Bytes}
use Rattle.nr_model.specs.Items.{Connection}
use Rattle.nr_model.specs.Connections.{Handed, handed_to, is_some_bytes}
use Rattle.nr_script.specs.Printed.{handed_line}

-- a connection, and what it was handed and nobody has taken
pub record Received : Type 0 where
  pub connection : Connection
  pub bytes : Bytes

abbrev coded_connection : Coded Connection
coded_connection = code_by (ℕ × ℕ) (coded× coded_ℕ coded_ℕ) (λ c. (c.node, c.serial)) (λ p. record { node = p.0; serial = p.1 }) (λ _. refl)

abbrev pub coded_received : Coded Received
coded_received =
    code_by (Connection × Bytes) (coded× coded_connection (coded_list coded_ℕ)) (λ r. (r.connection, r.bytes))
    (λ p. record { connection = p.0; bytes = p.1 }) (λ _. refl)

-- the connection of a number, where so many were opened
abbrev pub connection_at : ℕ → List Received → Option Connection
connection_at n [] = None
connection_at zero (r ∷ more) = Some r.connection
connection_at (suc n) (r ∷ more) = connection_at n more

-- it was handed its part of these too
abbrev pub with_handed : List Handed → Received → Received
with_handed handed r = record { connection = r.connection; bytes = r.bytes ++ handed_to r.connection handed }

-- what it was handed was taken
abbrev pub emptied : Received → Received
emptied r = record { connection = r.connection; bytes = [] }

-- a line where there are bytes, and none else
abbrev pub received_line : ℕ → Bytes → Bytes
received_line n bytes = cond (is_some_bytes bytes) (handed_line n bytes) []

-- so for each, of which this is the number of the first
abbrev pub received_lines : ℕ → List Received → Bytes
received_lines n [] = []
received_lines n (r ∷ more) = received_line n r.bytes ++ received_lines (suc n) more

-- what shows these to all of them
abbrev pub handed_lines : List Handed → List Received → Bytes
handed_lines handed all = received_lines 0 (map (with_handed handed) all)
