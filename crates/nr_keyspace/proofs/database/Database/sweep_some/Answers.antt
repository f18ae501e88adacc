use Rattle.std.proofs.Common.{◌≡◌, ap, arith}
use Rattle.std.specs.FinMap as map
use Rattle.nr_keyspace.proofs.database.Database.sweep_some.Goals as goal

pub returns-then-not-take_expired-clause-few : goal.returns-then-not-take_expired-clause-few
returns-then-not-take_expired-clause-few c =
    let same : map.len c.take_expired.new.self ≡ map.len c.loop.self = ap map.len (c.take_expired.ensures.unchanged (search (c.if-not-take_expired.true))) in
    let taken = c.loop.invariant.taken in
    omega (arith, taken, same)
