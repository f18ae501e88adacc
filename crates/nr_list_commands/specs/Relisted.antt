-- The list of a key edited in place.
use Rattle.std.specs.Prelude.{◌≡◌, List, Option, Some, None, Result, Ok, Err}
use Rattle.nr_model.specs.Bytes.{Bytes}
use Rattle.nr_model.specs.Keyspace.{Key, Keyspace, Items}
use Rattle.nr_model.specs.Lists.{pushed}
use Rattle.nr_model.specs.Commands.Held.{kept_under}
use Rattle.nr_model.specs.Commands.Lists.{or_no_items}
use Rattle.nr_model.specs.Commands.Reading.{Read}
use Rattle.nr_model.specs.declared.command.End.{End}
use Rattle.nr_model.specs.declared.refused.Refused.{Refused}

-- no list is refused
abbrev pub unrefused : {Given : Type 0} → (List Bytes → List Bytes → Given → Type 0) → List Bytes → List Bytes → Result Given Refused → Type 0
unrefused edits old new (Ok given) = edits old new given
unrefused edits old new (Err why) = ⊥

-- the list that was held became another that the edit allows
pub record IsRelisted {Given : Type 0} (edits : List Bytes → List Bytes → Given → Type 0) (old new : Keyspace) (key : Key) (held : Read (Option (List Bytes)))
    (given : Given) : Type 0 where
  pub items : List Bytes
  pub left : List Bytes
  pub was : held ≡ Ok (Some items)
  pub allowed : edits items left given
  pub written : new ≡ kept_under old key (Items left)

-- and without a list nothing changed
abbrev pub Relists : {Given : Type 0} → (List Bytes → List Bytes → Given → Type 0) → Keyspace → Keyspace → Key → Read (Option (List Bytes)) → Option Given → Type 0
Relists edits old new key held None = (held ≡ Ok None) × (new ≡ old)
Relists edits old new key held (Some given) = IsRelisted edits old new key held given

-- an item was put in at an end of the list that was held, or of a new one
pub record IsPushed (old new : Keyspace) (key : Key) (held : Read (Option (List Bytes))) (end : End) (item : Bytes) : Type 0 where
  pub list : Option (List Bytes)
  pub was : held ≡ Ok list
  pub written : new ≡ kept_under old key (Items (pushed end item (or_no_items list)))
