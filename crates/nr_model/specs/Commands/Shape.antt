-- The shape of each command's row.
use Rattle.std.specs.Prelude.{ℕ, Bool, nat_le, ◌==◌, List, [], Result, Ok, Err}
use Rattle.nr_model.specs.Keyspace.{Key, Keyspace}
use Rattle.nr_model.specs.Replies.{Reply, Error}
use Rattle.nr_model.specs.declared.refused.Refused.{Refused}
use Rattle.nr_model.specs.Commands.Texts.{refusal_text}

-- how many words a request has, its name counted: so many, or at least so many
pub data Arity : Type 0 where
  Exactly : ℕ → Arity
  AtLeast : ℕ → Arity

abbrev pub arity_ok : Arity → ℕ → Bool
arity_ok (Exactly n) words = words == n
arity_ok (AtLeast n) words = nat_le n words

-- what a command does to the keyspace: its reply, the keyspace it leaves, and the keys that it touched
pub record Effect : Type 0 where
  pub reply : Reply
  pub keyspace : Keyspace
  pub touched : List Key

-- and the database that its connection has then
pub record Done : Type 0 where
  pub reply : Reply
  pub keyspace : Keyspace
  pub database : ℕ
  pub touched : List Key

-- in the database that the connection had
abbrev pub staying : ℕ → Effect → Done
staying database effect = record { reply = effect.reply; keyspace = effect.keyspace; database = database; touched = effect.touched }

-- a reply, with nothing changed
abbrev pub unchanged : Keyspace → Reply → Effect
unchanged keyspace reply = record { reply = reply; keyspace = keyspace; touched = [] }

-- a refusal: an error, with nothing changed
abbrev pub refusal : Refused → Reply
refusal why = Error (refusal_text why)

abbrev pub refused : Keyspace → Refused → Effect
refused keyspace why = unchanged keyspace (refusal why)

-- what a command answers, or does, with what it read; where that was a fault, its error is answered, and nothing changed
abbrev pub answered : {A : Type 0} → Result A Reply → (A → Reply) → Reply
answered (Ok a) reply = reply a
answered (Err error) reply = error

abbrev pub performed : {A : Type 0} → Keyspace → Result A Reply → (A → Effect) → Effect
performed keyspace (Ok a) effect = effect a
performed keyspace (Err error) effect = unchanged keyspace error
