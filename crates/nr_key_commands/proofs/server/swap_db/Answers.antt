use Rattle.std.proofs.Common.{rules}
use Rattle.nr_key_commands.proofs.Swapped.{swaps}
use Rattle.nr_key_commands.proofs.server.swap_db.Goals as goal

pub returns : goal.returns
returns g c = λ database.
    swaps g.T.Touched.after c.args.keyspace.now c.swap.new.self c.args.now c.in_ok-a.a c.in_ok-a.b database c.args.touched.now c.touch_both.new.touched
    c.args.words.now c.requires c.in_ok-a.ensures.request (search rules) c.in_ok-touch_both.ensures c.swap.ensures
