-- The answers to a try to reserve.
use Rattle.std.specs.Prelude.{⊤, ℕ, List, Option}
use Rattle.nr_entry.specs.declared.entry.Entry.{Entry}
use Rattle.nr_log_end.specs.declared.reserve.Reserve.{Reserve}
use Rattle.nr_log_end.specs.declared.reserve.Reserve.TheVariants.{Taken, Full, Lost}

-- P holds of the number, where one was taken
abbrev pub IfTaken : Reserve → (ℕ → Type 0) → Type 0
IfTaken (Taken at) P = P at
IfTaken (Full back) P = ⊤
IfTaken (Lost back) P = ⊤

-- P holds of the shares that came back from a full log
abbrev pub IfFull : Reserve → (List (Option Entry) → Type 0) → Type 0
IfFull (Taken at) P = ⊤
IfFull (Full back) P = P back
IfFull (Lost back) P = ⊤

-- P holds of the shares that came back since another node was first
abbrev pub IfLost : Reserve → (List (Option Entry) → Type 0) → Type 0
IfLost (Taken at) P = ⊤
IfLost (Full back) P = ⊤
IfLost (Lost back) P = P back
