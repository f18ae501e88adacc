-- What a body did.
use Rattle.std.specs.Prelude.{◌≡◌, ℕ, Result, Ok, Err, fold}
use Rattle.nr_model.specs.Replies.{Reply}
use Rattle.nr_model.specs.Keyspace.{Key, Keyspace}
use Rattle.nr_model.specs.Commands.Shape.{Done}
use Rattle.nr_resp.specs.declared.shown.Shown.{Shown}
use Rattle.nr_resp.specs.Shown.{shown_reply}
use Rattle.nr_resp.specs.declared.reply.Reply as code
use Rattle.nr_resp.specs.Seen.{reply_of}
use Rattle.nr_resp.specs.declared.failure.Failure.{Failure}
use Rattle.nr_resp.specs.Failures.{IfRefused}

-- the reply, the keyspace, the database and the keys told of are those of the definitions
pub record IsDone {T : Type 0} (after : T → Key → T) (reply : Reply) (keyspace : Keyspace) (database : ℕ) (told told' : T) (done : Done) : Type 0 where
  pub replied : reply ≡ done.reply
  pub left : keyspace ≡ done.keyspace
  pub selected : database ≡ done.database
  pub touched : told' ≡ fold after told done.touched

-- a body's answer shows a reply, and so does the error of its refusal; where memory ran out nothing is said
abbrev pub Answers : Result Shown Failure → Reply → Type 0
Answers (Ok shown) reply = shown_reply shown ≡ reply
Answers (Err failure) reply = IfRefused failure (λ error. error ≡ reply)

-- a body did this, its answer being the reply, or the error of its refusal
abbrev pub Performs : {T : Type 0} → (T → Key → T) → Result code.Reply Failure → Keyspace → ℕ → T → T → Done → Type 0
Performs after (Ok reply) keyspace database told told' done = IsDone after (reply_of reply) keyspace database told told' done
Performs after (Err failure) keyspace database told told' done = IfRefused failure (λ error. IsDone after error keyspace database told told' done)
