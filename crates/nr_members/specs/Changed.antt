-- A key whose members were changed, before anyone is told.
use Rattle.std.specs.Prelude.{◌≡◌, ℕ, ◌<◌, ◌^◌, pos}
use Rattle.nr_model.specs.Keyspace.{Key, Keyspace}
use Rattle.nr_model.specs.Replies.{Int}
use Rattle.nr_model.specs.Commands.Shape.{Effect}
use Rattle.nr_model.specs.Commands.Sets.{touched_by}

-- the keyspace is what a command makes of it, and so many members are new or gone
pub record IsChanged (effect : Effect) (keyspace : Keyspace) (key : Key) (count : ℕ) : Type 0 where
  pub replied : Int (pos count) ≡ effect.reply
  pub left : keyspace ≡ effect.keyspace
  pub touched : touched_by key count ≡ effect.touched
  pub small : count < 2 ^ 63
