use Rattle.std.specs.Prelude.{◌≡◌, fold}
use Rattle.nr_model.specs.Keyspace.{live}
use Rattle.nr_model.specs.Commands.Server.{named_below}
use Rattle.nr_key_commands.proofs.server.touch_everything.Given as goal

abbrev pub invariant-loop-database : goal.invariant-loop-database
invariant-loop-database g l = l.touched ≡ fold g.T.Touched.after l.fn.touched (named_below (live l.keyspace l.now) l.database-index)
