-- Commands of a transaction, one after the other.
use Rattle.std.specs.Prelude.{◌≡◌, ℕ, Bool, true, false, List, [], ◌++◌, fold}
use Rattle.std.specs.FinMap as map
use Rattle.nr_model.specs.Keyspace.{Keyspace}
use Rattle.nr_model.specs.Names.{holding_none}
use Rattle.nr_model.specs.Replies.{Reply}
use Rattle.nr_model.specs.Sequential.{Found, Progress, for_node}
use Rattle.nr_model.specs.Sequential.Events.{Emission}
use Rattle.nr_model.specs.Sequential.Messages.{Subscriptions}
use Rattle.nr_emission.specs.Emitted.{all_after}
use Rattle.nr_watch.specs.Watching.{Watching, touched_at}

-- all that a command of a transaction finds beside the keyspace and the database, which go along: who is subscribed to what
abbrev pub among : Subscriptions → Found
among subscriptions = record { keyspace = map.empty; database = 0; held = holding_none; subscriptions = subscriptions; spoiled = false }

-- nothing was done yet
abbrev pub begun : Keyspace → ℕ → Progress
begun keyspace database = record { keyspace = keyspace; database = database; touched = []; messages = []; replies = [] }

-- This was done: whoever watches was told of the touched keys, the sink has the messages for the node's connections, and, where the connection
-- is answered, the replies stand behind those before.
pub record Runs {S : Type 0} (after : S → Emission → S) (node : ℕ) (answered : Bool) (p : Progress) (keyspace : Keyspace) (database : ℕ) (watches watches' : Watching) (out out' : S) (replies replies' : List Reply) : Type 0 where
  pub keyspace_is : keyspace ≡ p.keyspace
  pub database_is : database ≡ p.database
  pub told : watches' ≡ fold touched_at watches p.touched
  pub sent : out' ≡ all_after after out (for_node node p.messages)
  pub replied : answered ≡ true → replies' ≡ replies ++ p.replies
