-- The sorted set that a key holds, edited: what a body did, and how it is refused.
use Rattle.std.proofs.Common.{◌≡◌, ℕ, Bool, refl, ap, sym, ◌∙◌, subst}
use Rattle.std.specs.Prelude.{◌==◌, if◌then◌else◌, Option, Some, None, Result, Ok, Err, IfOk}
use Rattle.std.specs.FinMap as map
use Rattle.std.specs.Result.{IsErr, IsErrAnd}
use Rattle.std.proofs.lemmas.Option.{IfSome_then}
use Rattle.std.proofs.lemmas.Result.{IfOk-weaker}
use Rattle.nr_model.specs.SortedSets.{Scores}
use Rattle.nr_model.specs.Replies.{Reply}
use Rattle.nr_model.specs.Keyspace as keyspaces
use Rattle.nr_model.specs.Keyspace.{Key, Keyspace, Stored}
use Rattle.nr_model.specs.Commands.Shape.{Effect, refusal, unchanged, performed, staying}
use Rattle.nr_model.specs.Commands.Reading.{Read, read_then}
use Rattle.nr_model.specs.Commands.Held.{scores_of, deadline_of, kept}
use Rattle.nr_model.specs.Commands.SortedSets.{or_none}
use Rattle.nr_model.specs.declared.refused.Refused.{Refused}
use Rattle.nr_keyspace.specs.Edited.{IsEditOf, IsEditedRead}
use Rattle.nr_keyspace.proofs.Missing.{remove_missing}
use Rattle.nr_resp.specs.declared.reply.Reply as code
use Rattle.nr_resp.specs.declared.failure.Failure.{Failure}
use Rattle.nr_resp.specs.Failures.{answer_to, IfRefused}
use Rattle.nr_resp.specs.Done.{IsDone, Performs}
use Rattle.nr_ranked.specs.Edited.{IsHeld, IsMade, IsRefusedBy, scores_held}

-- the scores of a value, as what a key holds
abbrev from_read : Read Scores → Read Scores
from_read read = read_then (read_then read (λ scores. Ok (Some scores))) (λ scores. Ok (or_none scores))

module _ {Given : Type 0} (edits : Scores → Scores → Result Given Refused → Type 0) where
  is_held_at : (old new : Keyspace) (key : Key) (stored : Stored) (given : Given) (read : Read Scores) → scores_of stored.value ≡ read
      → IsEditOf keyspaces.Scores edits old new key stored.deadline read (Ok given) → IsHeld edits old new key (Some stored) given
  is_held_at old new key stored given (Err error) is edit = absurd edit
  is_held_at old new key stored given (Ok scores) is edit = record {
    before = scores;
    after = edit.left;
    read = ap from_read is;
    allowed = edit.allowed;
    left = edit.written;
  }

  -- where it is a sorted set
  pub is_held : (old new : Keyspace) (key : Key) (held : Option Stored) (given : Given) → IsEditedRead scores_of keyspaces.Scores edits old new key held (Some (Ok given))
      → IsHeld edits old new key held given
  is_held old new key None given edited = absurd edited
  is_held old new key (Some stored) given edited = is_held_at old new key stored given (scores_of stored.value) refl edited

  -- where it is missing
  pub is_missing : (old new : Keyspace) (key : Key) (held : Option Stored) → IsEditedRead scores_of keyspaces.Scores edits old new key held None → (held ≡ None) × (new ≡ old)
  is_missing old new key None edited = (refl, edited)
  is_missing old new key (Some stored) edited = absurd edited

  pub is_made : (old new : Keyspace) (key : Key) (held : Option Stored) (given : Given) → held ≡ None → IsMade edits old new key given → IsHeld edits old new key held given
  is_made old new key held given none made = record {
    before = map.empty;
    after = made.after;
    read = ap scores_held none;
    allowed = made.allowed;
    left = made.left ∙ ap (λ (held : Option Stored). let s : Stored = record { value = keyspaces.Scores made.after; deadline = deadline_of held } in kept old key s) (sym none);
  }

  is_refused_at : (old new : Keyspace) (key : Key) (stored : Stored) (why : Refused) (read : Read Scores) → IsEditOf keyspaces.Scores edits old new key stored.deadline read (Err why)
      → (new ≡ old) × IsRefusedBy edits (from_read read) (refusal why)
  is_refused_at old new key stored why (Ok scores) edit = (edit.0, (why, edit.1, refl))
  is_refused_at old new key stored why (Err error) edit = (edit.0, sym edit.1)

  -- where the edit refuses it, or it is of another kind
  pub is_refused : (old new : Keyspace) (key : Key) (held : Option Stored) (why : Refused) → IsEditedRead scores_of keyspaces.Scores edits old new key held (Some (Err why))
      → (new ≡ old) × IsRefusedBy edits (scores_held held) (refusal why)
  is_refused old new key None why edited = absurd edited
  is_refused old new key (Some stored) why edited = is_refused_at old new key stored why (scores_of stored.value) edited

  -- an edit in a keyspace whose keys are all live: where the key is there
  pub held_there : (old new seen : Keyspace) (key : Key) (found : Option (Result Given Refused)) (given : Given) → seen ≡ old → found ≡ Some (Ok given)
      → IsEditedRead scores_of keyspaces.Scores edits old new key (map.get seen key) found → IsHeld edits old new key (map.get old key) given
  held_there old new seen key found given swept is edited =
      is_held old new key (map.get old key) given
      (subst (λ (found : Option (Result Given Refused)). IsEditedRead scores_of keyspaces.Scores edits old new key (map.get old key) found) is
      (subst (λ (m : Keyspace). IsEditedRead scores_of keyspaces.Scores edits old new key (map.get m key) found) swept edited))

  -- and where it is made
  pub held_from_missing : {E : Type 0} (old middle new seen : Keyspace) (key : Key) (found : Option (Result Given Refused)) (r : Result Given E) → seen ≡ old → found ≡ None
      → IsEditedRead scores_of keyspaces.Scores edits old middle key (map.get seen key) found → IfOk r (λ given. IsMade edits middle new key given)
      → IfOk r (λ given. IsHeld edits old new key (map.get old key) given)
  held_from_missing old middle new seen key found r swept is edited made =
      let missing =
      is_missing old middle key (map.get old key)
      (subst (λ (found : Option (Result Given Refused)). IsEditedRead scores_of keyspaces.Scores edits old middle key (map.get old key) found) is
      (subst (λ (m : Keyspace). IsEditedRead scores_of keyspaces.Scores edits old middle key (map.get m key) found) swept edited)) in
      IfOk-weaker r (λ given. IsMade edits middle new key given) (λ given. IsHeld edits old new key (map.get old key) given)
      (λ given made. is_made old new key (map.get old key) given missing.0 (subst (λ (m : Keyspace). IsMade edits m new key given) missing.1 made)) made

  -- what the edit made of the sorted set without members
  pub made : (old new : Keyspace) (key : Key) (start after : Scores) (edited : Result Given Refused) (given : Given) → start ≡ map.empty → edited ≡ Ok given → edits start after edited
      → new ≡ kept old key (record { value = keyspaces.Scores after; deadline = None }) → IsMade edits old new key given
  made old new key start after edited given empty is allowed left = record {
    after = after;
    allowed = subst (λ (scores : Scores). edits scores after (Ok given)) empty (subst (λ (given : Result Given Refused). edits start after given) is allowed);
    left = left;
  }

  ended_at : {T : Type 0} (after : T → Key → T) (old new : Keyspace) (database : ℕ) (told : T) (effect : Scores → Effect) (held : Read Scores) (error : Reply)
      → ((scores : Scores) (why : Refused) → edits scores scores (Err why) → effect scores ≡ unchanged old (refusal why))
      → new ≡ old → IsRefusedBy edits held error → IsDone after error new database told told (staying database (performed old held effect))
  ended_at after old new database told effect (Ok scores) error says same is =
      rw (says scores is.0 is.1, is.2) (record { replied = refl; left = same; selected = refl; touched = refl })
  ended_at after old new database told effect (Err none) error says same is = record { replied = is; left = same; selected = refl; touched = refl }

  -- a body that a refused edit ends, by what the command makes of each sorted set that the edit refuses
  pub ended : {T : Type 0} (after : T → Key → T) (r : Result code.Reply Failure) (old new : Keyspace) (database : ℕ) (told : T) (effect : Scores → Effect) (held : Read Scores) (failure : Failure)
      → ((scores : Scores) (why : Refused) → edits scores scores (Err why) → effect scores ≡ unchanged old (refusal why))
      → IsErr r × IsErrAnd r (λ error. error ≡ failure) → IfRefused failure (λ error. (new ≡ old) × IsRefusedBy edits held error)
      → Performs after r new database told told (staying database (performed old held effect))
  ended after (Ok reply) old new database told effect held failure says fails is = absurd (cc fails.0)
  ended after (Err error) old new database told effect held failure says fails is =
      IfSome_then (answer_to error) (subst (λ (failure : Failure). IfRefused failure (λ error. (new ≡ old) × IsRefusedBy edits held error)) (sym fails.1) is)
      (λ error refused. ended_at after old new database told effect held error says refused.0 refused.1)

-- a key that is missing stays so where nothing is left
pub still_missing : (old : Keyspace) (key : Key) (scores : Scores) (n : ℕ) → n ≡ map.len scores → n ≡ 0 → map.get old key ≡ None
    → old ≡ kept old key (record { value = keyspaces.Scores scores; deadline = None })
still_missing old key scores n len none missing =
    let stored : Stored = record { value = keyspaces.Scores scores; deadline = None } in
    sym (ap (λ (b : Bool). if b then map.remove old key else map.insert old key stored) (ap (λ n. n == 0) (sym len ∙ none)) ∙ remove_missing old key missing)
