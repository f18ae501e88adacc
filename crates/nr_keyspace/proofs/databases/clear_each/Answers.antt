use Rattle.std.proofs.Common.{◌≤◌, length, arith}
use Rattle.nr_keyspace.proofs.Joined.{all_cleared}
use Rattle.nr_keyspace.proofs.databases.clear_each.Goals as goal

pub returns : goal.returns
returns c =
    let all : length c.args.databases.now ≤ c.loop-database.database-index = omega arith in
    all_cleared c.loop-database.database-index c.args.databases.now c.loop-database.databases all c.loop-database.invariant
