-- What an edit of a sorted set makes of the key that holds it.
use Rattle.std.specs.Prelude.{◌≡◌, Result, Ok, Err}
use Rattle.nr_model.specs.SortedSets.{Scores}
use Rattle.nr_model.specs.Keyspace.{Key, Keyspace}
use Rattle.nr_model.specs.Commands.Shape.{Effect, refused}
use Rattle.nr_model.specs.Commands.SortedSets.{rescored}
use Rattle.nr_model.specs.declared.refused.Refused.{Refused}
use Rattle.nr_resp.specs.Seen.{reply_of}
use Rattle.nr_ranked.specs.declared.changing.Change.{Change}

-- a command leaves these scores, at whatever key, or is refused
abbrev pub Gives : (Keyspace → Key → Effect) → Scores → Result Change Refused → Type 0
Gives effect left (Ok change) = (keyspace : Keyspace) (key : Key) → effect keyspace key ≡ rescored keyspace key left change.count (reply_of change.reply)
Gives effect left (Err why) = (keyspace : Keyspace) (key : Key) → effect keyspace key ≡ refused keyspace why
