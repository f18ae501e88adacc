-- The hash that a key holds, edited.
use Rattle.std.specs.Prelude.{◌≡◌, Option, None, Result, Ok, Err}
use Rattle.std.specs.FinMap as map
use Rattle.nr_model.specs.Hashes.{Hash}
use Rattle.nr_model.specs.Replies.{Reply}
use Rattle.nr_model.specs.Keyspace.{Key, Keyspace, Stored, Fields}
use Rattle.nr_model.specs.Commands.Shape.{refusal}
use Rattle.nr_model.specs.Commands.Reading.{Read, read_then}
use Rattle.nr_model.specs.Commands.Held.{held_as, fields_of, deadline_of, kept}
use Rattle.nr_model.specs.Commands.Hashes.{or_none}
use Rattle.nr_model.specs.declared.refused.Refused.{Refused}

-- what is stored, read as a hash
abbrev pub hash_held : Option Stored → Read Hash
hash_held held = read_then (held_as fields_of held) (λ fields. Ok (or_none fields))

-- the hash that was held became another that the edit allows, under the deadline that it had
pub record IsHeld {Given : Type 0} (edits : Hash → Hash → Result Given Refused → Type 0) (old new : Keyspace) (key : Key) (held : Option Stored) (given : Given) : Type 0 where
  pub before : Hash
  pub after : Hash
  pub read : hash_held held ≡ Ok before
  pub allowed : edits before after (Ok given)
  pub left : new ≡ kept old key (record { value = Fields after; deadline = deadline_of held })

-- a key that was missing holds what the edit makes of the hash without fields
pub record IsMade {Given : Type 0} (edits : Hash → Hash → Result Given Refused → Type 0) (old new : Keyspace) (key : Key) (given : Given) : Type 0 where
  pub after : Hash
  pub allowed : edits map.empty after (Ok given)
  pub left : new ≡ kept old key (record { value = Fields after; deadline = None })

-- this is why an edit of the hash is refused, or why there is no hash
abbrev pub IsRefusedBy : {Given : Type 0} → (Hash → Hash → Result Given Refused → Type 0) → Read Hash → Reply → Type 0
IsRefusedBy edits (Ok fields) error = (why : Refused) × edits fields fields (Err why) × (error ≡ refusal why)
IsRefusedBy edits (Err none) error = error ≡ none
