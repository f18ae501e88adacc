use Rattle.std.proofs.Common.{◌<◌, arith}
use Rattle.nr_model.specs.Keyspace.{live, how_many_databases}
use Rattle.nr_key_commands.proofs.Flushed.{told_below}
use Rattle.nr_key_commands.proofs.server.touch_everything.Goals as goal

pub loop-database-preserved : goal.loop-database-preserved
loop-database-preserved g c =
    let index = c.loop-database.database-index in
    let below : index < how_many_databases = omega arith in
    told_below g.T.Touched.after c.args.touched.now c.loop-database.touched c.touch_all.new.self (live c.args.keyspace.now c.args.now) index _
    c.loop-database.invariant (c.all-database-items.ensures index c.database-item.result below) c.in_ok-touch_all.ensures
