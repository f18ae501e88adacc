-- A worker's mark: what its node had done when it last handed something out to it.
use Rattle.std.specs.Prelude.{◌≡◌, ℕ, ◌+◌, ◌<◌, ◌≤◌, List, [], ◌∷◌, ◌++◌, length, Option, Some, None, IfSome, option_to_list, slice_index_or, refl}
use Rattle.std.specs.Coded.{Coded, code_by, coded_option}
use Rattle.nr_log_end.specs.declared.standing.Standing.{Standing}
use Rattle.nr_log_end.specs.contracts.standing.Standing as of_standing
use Rattle.nr_oplog.specs.Plays.{later_of}
use Rattle.nr_node.specs.Sound.{IsSound}
use Rattle.nr_taps.specs.Taps.{HaveMet}

pub record MarkState : Type 0 where
  pub standing : Option Standing

abbrev pub coded_mark : Coded MarkState
coded_mark = code_by (Option Standing) (coded_option of_standing.the_row.coded) (λ m. m.standing) (λ o. record { standing = o }) (λ _. refl)

-- one that keeps this
abbrev pub mark_of : Standing → MarkState
mark_of s = record { standing = Some s }

-- what it keeps is sound
abbrev pub IsMarked : MarkState → Type 0
IsMarked m = IfSome m.standing IsSound

-- the later of what was kept and another standing of the same node
abbrev pub later_with : Option Standing → Standing → Standing
later_with None t = t
later_with (Some s) t = later_of s t

-- it is kept now, but for the greatest tail that was met
abbrev pub Adopts : Option Standing → Standing → Option Standing → Type 0
Adopts old t new = (seen : ℕ) × (new ≡ Some (record (later_with old t) { seen = seen }))

-- the standings of those that have one
abbrev pub standings_of : List MarkState → List Standing
standings_of [] = []
standings_of (m ∷ marks) = option_to_list m.standing ++ standings_of marks

-- the standings of a mark and of each in these places are of one log
abbrev pub HasMetFrom : ℕ → ℕ → MarkState → List MarkState → Type 0
HasMetFrom from end m marks = (place : ℕ) (d : MarkState) → from ≤ place → place < end → HaveMet m.standing (slice_index_or marks place d).standing

-- what holds of a mark holds of the one in a place, and its standing and that of each behind it are of one log
pub record MeetsOthers (place : ℕ) (marks : List MarkState) : Type 0 where
  pub marked : (d : MarkState) → IsMarked (slice_index_or marks place d)
  pub met : (d : MarkState) → HasMetFrom (place + 1) (length marks) (slice_index_or marks place d) marks
