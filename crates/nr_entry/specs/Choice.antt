-- Which of the waiting jobs are taken.
use Rattle.std.specs.Prelude.{ℕ, zero, suc, Bool, true, false, List, [], ◌∷◌, ◌++◌}
use Rattle.nr_model.specs.Items.{Connection, Item}
use Rattle.nr_model.specs.Entries.{Jobs, has_read_of, has_update_of, leads_as_update, leads_as_read}

-- the items with a mark, and those without one, in order
abbrev pub marked : {A : Type 0} → List Bool → List A → List A
marked [] xs = []
marked (mark ∷ marks) [] = []
marked (true ∷ marks) (x ∷ xs) = x ∷ marked marks xs
marked (false ∷ marks) (x ∷ xs) = marked marks xs

abbrev pub unmarked : {A : Type 0} → List Bool → List A → List A
unmarked [] xs = []
unmarked (mark ∷ marks) [] = []
unmarked (true ∷ marks) (x ∷ xs) = unmarked marks xs
unmarked (false ∷ marks) (x ∷ xs) = x ∷ unmarked marks xs

-- a job of the other kind waits for a connection, and a job leads: among the updates, or among the reads
abbrev pub is_blocked : Bool → Connection → Jobs → Bool
is_blocked true = has_read_of
is_blocked false = has_update_of

abbrev pub leads_among : Bool → Jobs → Item → Bool
leads_among true = leads_as_update
leads_among false = leads_as_read

-- a job is taken that leads, while there is room
abbrev pub is_taken : (Jobs → Item → Bool) → ℕ → Jobs → Item → Bool
is_taken leads zero before job = false
is_taken leads (suc room) before job = leads before job

-- the room behind a job that was taken, or was not
abbrev pub room_behind : Bool → ℕ → ℕ
room_behind false room = room
room_behind true zero = zero
room_behind true (suc room) = room

-- whether each job is taken, where so many are, and the room behind all of them
abbrev pub leading_marks : (Jobs → Item → Bool) → ℕ → Jobs → Jobs → List Bool
leading_marks leads room before [] = []
leading_marks leads room before (job ∷ jobs) =
    is_taken leads room before job ∷ leading_marks leads (room_behind (is_taken leads room before job) room) (before ++ job ∷ []) jobs

abbrev pub room_after : (Jobs → Item → Bool) → ℕ → Jobs → Jobs → ℕ
room_after leads room before [] = room
room_after leads room before (job ∷ jobs) = room_after leads (room_behind (is_taken leads room before job) room) (before ++ job ∷ []) jobs
