-- An edit of a string that is refused ends the body.
use Rattle.std.proofs.Common.{◌≡◌, ℕ}
use Rattle.std.specs.Prelude.{Option, Some, Result, Ok, Err}
use Rattle.std.specs.Result.{IsErr, IsErrAnd}
use Rattle.std.specs.FinMap as map
use Rattle.nr_model.specs.Bytes.{Bytes}
use Rattle.nr_model.specs.Keyspace.{Key, key_of, Keyspace}
use Rattle.nr_model.specs.Commands.Reading.{Read, fault}
use Rattle.nr_model.specs.Commands.Shape.{Effect, refused, staying}
use Rattle.nr_model.specs.Commands.Strings.{text_at}
use Rattle.nr_model.specs.declared.refused.Refused.{Refused}
use Rattle.nr_keyspace.specs.Edited.{IsEdited, EditsText}
use Rattle.nr_keyspace.proofs.Kept.{edited_here, refused_string}
use Rattle.nr_resp.specs.declared.reply.Reply as code
use Rattle.nr_resp.specs.declared.failure.Failure.{Failure}
use Rattle.nr_resp.specs.declared.failure.Failure.TheVariants as failures
use Rattle.nr_resp.specs.Done.{Performs}
use Rattle.nr_resp.proofs.Refusals.{ended}

-- by what the command makes of each text that the edit refuses, and of a value of another kind
pub refused_edit : {T Given : Type 0} (after : T → Key → T) (edits : Bytes → Bytes → Result Given Refused → Type 0) (old new seen : Keyspace) (database : ℕ) (name bytes : Bytes) (told : T)
    (r : Result code.Reply Failure) (why : Refused) (found : Option (Result Given Refused)) (effect : Read (Option Bytes) → Effect)
    → IsErr r × IsErrAnd r (λ failure. failure ≡ failures.Refused why) → bytes ≡ name → seen ≡ old → found ≡ Some (Err why)
    → IsEdited (EditsText edits) old new (key_of database bytes) (map.get seen (key_of database bytes)) found
    → ((text : Bytes) → edits text text (Err why) → effect (Ok (Some text)) ≡ refused old why) → effect (fault why) ≡ refused old why
    → Performs after r new database told told (staying database (effect (text_at old database name)))
refused_edit after edits old new seen database name bytes told r why found effect ends named swept is edited on_text on_fault =
    let left = refused_string edits old new (key_of database name) why (λ read. effect read ≡ refused old why)
    (edited_here (EditsText edits) old new seen database name bytes found (Some (Err why)) named swept is edited) on_text on_fault in
    ended after r old new database told why (effect (text_at old database name)) ends left.0 left.1
