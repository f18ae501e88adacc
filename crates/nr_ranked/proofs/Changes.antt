-- What a body did that changes a sorted set by one edit.
use Rattle.std.proofs.Common.{◌≡◌, ℕ, refl, ap, sym, ◌∙◌, subst}
use Rattle.std.specs.Prelude.{Result, Ok, Err}
use Rattle.std.specs.FinMap as map
use Rattle.std.specs.Result.{IsErr, IsErrAnd}
use Rattle.nr_model.specs.Bytes.{Bytes}
use Rattle.nr_model.specs.SortedSets.{Scores}
use Rattle.nr_model.specs.Keyspace.{Key, key_of, Keyspace}
use Rattle.nr_model.specs.Commands.Shape.{Effect, performed, staying}
use Rattle.nr_model.specs.Commands.Reading.{Read}
use Rattle.nr_model.specs.Commands.Sets.{touched_by}
use Rattle.nr_model.specs.Commands.SortedSets.{sorted_at, rescored}
use Rattle.nr_model.specs.declared.refused.Refused.{Refused}
use Rattle.nr_keyspace.specs.Touched.{Touches}
use Rattle.nr_resp.specs.declared.reply.Reply as code
use Rattle.nr_resp.specs.declared.failure.Failure.{Failure}
use Rattle.nr_resp.specs.Failures.{IfRefused}
use Rattle.nr_resp.specs.Seen.{reply_of}
use Rattle.nr_resp.specs.Done.{IsDone, Performs}
use Rattle.nr_ranked.specs.declared.changing.Change.{Change}
use Rattle.nr_ranked.specs.Changing.{Gives}
use Rattle.nr_ranked.specs.Edited.{IsHeld, IsRefusedBy}
use Rattle.nr_ranked.proofs.Edits.{ended}

module _ {T : Type 0} (after : T → Key → T) (edits : Scores → Scores → Result Change Refused → Type 0) (effect : Scores → Keyspace → Key → Effect)
    (law : (old new : Scores) (given : Result Change Refused) → edits old new given → Gives (effect old) new given) where
  -- where the edit went through
  pub changed : (old new : Keyspace) (database : ℕ) (name : Bytes) (told told' : T) (change : Change) → IsHeld edits old new (key_of database name) (map.get old (key_of database name)) change
      → Touches after told told' (touched_by (key_of database name) change.count)
      → IsDone after (reply_of change.reply) new database told told'
      (staying database (performed old (sorted_at old database name) (λ scores. effect scores old (key_of database name))))
  changed old new database name told told' change held tells =
      let key = key_of database name in
      let whole : performed old (sorted_at old database name) (λ scores. effect scores old key) ≡ rescored old key held.after change.count (reply_of change.reply) =
      ap (λ (read : Read Scores). performed old read (λ scores. effect scores old key)) held.read ∙ law held.before held.after (Ok change) held.allowed old key in
      subst (λ (e : Effect). IsDone after (reply_of change.reply) new database told told' (staying database e)) (sym whole)
      (record { replied = refl; left = held.left; selected = refl; touched = tells })

  -- where it was refused, or there is no sorted set
  pub stopped : (r : Result code.Reply Failure) (old new : Keyspace) (database : ℕ) (name : Bytes) (told : T) (failure : Failure)
      → IsErr r × IsErrAnd r (λ error. error ≡ failure) → IfRefused failure (λ error. (new ≡ old) × IsRefusedBy edits (sorted_at old database name) error)
      → Performs after r new database told told
      (staying database (performed old (sorted_at old database name) (λ scores. effect scores old (key_of database name))))
  stopped r old new database name told failure fails is =
      ended edits after r old new database told (λ scores. effect scores old (key_of database name)) (sorted_at old database name) failure
      (λ scores why refuses. law scores scores (Err why) refuses old (key_of database name)) fails is
