-- What is emitted, and what a sink comes to with it.
use Rattle.std.specs.Prelude.{List, [], ◌∷◌, ◌++◌, map, fold}
use Rattle.nr_model.specs.Bytes.{Bytes}
use Rattle.nr_model.specs.Replies.{Reply, reply_text}
use Rattle.nr_model.specs.Items.{Connection}
use Rattle.nr_model.specs.Sequential.Events.{Emission}

-- a sink with emissions more, in order, where it comes to this with one
abbrev pub all_after : {S : Type 0} → (S → Emission → S) → S → List Emission → S
all_after after sink emissions = fold after sink emissions

-- a reply to a connection, and replies
abbrev pub to : Connection → Reply → Emission
to c reply = record { connection = c; reply = reply }

abbrev pub replies_to : Connection → List Reply → List Emission
replies_to c replies = map (to c) replies

-- the bytes of an emission, and the connection that they are for
pub record Written : Type 0 where
  pub connection : Connection
  pub bytes : Bytes

-- a list of them, with one emission more
abbrev pub written_after : List Written → Emission → List Written
written_after list emission = list ++ record { connection = emission.connection; bytes = reply_text emission.reply } ∷ []
