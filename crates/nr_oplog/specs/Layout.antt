-- Where the words and the cells of a log lie. Words that different threads write lie 128 bytes or more apart: the tail, each passed count, and
-- each node's row of stamps.
use Rattle.std.specs.Prelude.{ℕ, ◌+◌, ◌*◌, ◌%◌}

abbrev pub passed_word : ℕ → ℕ
passed_word node = 16 * node + 16

-- the stamp of a node's cell for the entry of a number
abbrev pub stamp_word : ℕ → ℕ → ℕ → ℕ → ℕ
stamp_word nodes places node number = 16 * nodes + 16 + (node * (places + 16) + number % places)

-- the slot of a node's cell for the entry of a number
abbrev pub slot_of : ℕ → ℕ → ℕ → ℕ
slot_of places node number = node * places + number % places

abbrev pub words_of : ℕ → ℕ → ℕ
words_of nodes places = 16 * nodes + 16 + nodes * (places + 16)

abbrev pub slots_of : ℕ → ℕ → ℕ
slots_of nodes places = nodes * places
