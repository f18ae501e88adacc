-- Names of logs.
use Rattle.std.specs.Prelude.{ℕ, ◌≤◌, []}
use Rattle.atomic_table.specs.Seated.{TableId}

-- the name of no log
abbrev pub no_log : TableId
no_log = record { words = 0; slots = 0; views_name = 0; atom = 0; block = 0; offset = 0; slot_names = [] }

-- the shapes that a log may have
abbrev pub IsShape : ℕ → ℕ → Type 0
IsShape nodes places = (1 ≤ nodes) × (nodes ≤ 8) × (2 ≤ places) × (places ≤ 65536)
