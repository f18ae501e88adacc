-- The sorted set that a key holds, edited.
use Rattle.std.specs.Prelude.{◌≡◌, Option, None, Result, Ok, Err}
use Rattle.std.specs.FinMap as map
use Rattle.nr_model.specs.SortedSets.{Scores}
use Rattle.nr_model.specs.Replies.{Reply}
use Rattle.nr_model.specs.Keyspace as keyspaces
use Rattle.nr_model.specs.Keyspace.{Key, Keyspace, Stored}
use Rattle.nr_model.specs.Commands.Shape.{refusal}
use Rattle.nr_model.specs.Commands.Reading.{Read, read_then}
use Rattle.nr_model.specs.Commands.Held.{held_as, scores_of, deadline_of, kept}
use Rattle.nr_model.specs.Commands.SortedSets.{or_none}
use Rattle.nr_model.specs.declared.refused.Refused.{Refused}

-- what is stored, read as a sorted set
abbrev pub scores_held : Option Stored → Read Scores
scores_held held = read_then (held_as scores_of held) (λ held. Ok (or_none held))

-- the sorted set that was held became another that the edit allows, under the deadline that it had
pub record IsHeld {Given : Type 0} (edits : Scores → Scores → Result Given Refused → Type 0) (old new : Keyspace) (key : Key) (held : Option Stored) (given : Given) : Type 0 where
  pub before : Scores
  pub after : Scores
  pub read : scores_held held ≡ Ok before
  pub allowed : edits before after (Ok given)
  pub left : new ≡ kept old key (record { value = keyspaces.Scores after; deadline = deadline_of held })

-- a key that was missing holds what the edit makes of the sorted set without members
pub record IsMade {Given : Type 0} (edits : Scores → Scores → Result Given Refused → Type 0) (old new : Keyspace) (key : Key) (given : Given) : Type 0 where
  pub after : Scores
  pub allowed : edits map.empty after (Ok given)
  pub left : new ≡ kept old key (record { value = keyspaces.Scores after; deadline = None })

-- this is why an edit of the sorted set is refused, or why there is none
abbrev pub IsRefusedBy : {Given : Type 0} → (Scores → Scores → Result Given Refused → Type 0) → Read Scores → Reply → Type 0
IsRefusedBy edits (Ok scores) error = (why : Refused) × edits scores scores (Err why) × (error ≡ refusal why)
IsRefusedBy edits (Err none) error = error ≡ none
