use Rattle.nr_key_commands.proofs.Flushed.{flushed}
use Rattle.nr_key_commands.proofs.server.flush_db.Goals as goal

pub returns : goal.returns
returns g c =
    flushed g.T.Touched.after c.args.keyspace.now c.clear.new.self c.args.now c.args.database c.args.touched.now c.touch_all.new.self c.args.words.now
    c.requires c.in_ok-flush_words.ensures.ok c.in_ok-touch_all.ensures c.clear.ensures
