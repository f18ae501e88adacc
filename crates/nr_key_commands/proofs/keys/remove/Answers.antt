use Rattle.std.proofs.Common.{rules, ◌≡◌, true}
use Rattle.std.specs.Option.{is_some}
use Rattle.nr_keyspace.specs.Joined.{key_of}
use Rattle.nr_keyspace.proofs.Live.{live_removed}
use Rattle.nr_key_commands.proofs.keys.remove.Goals as goal

pub returns-clause-live : goal.returns-clause-live
returns-clause-live g c =
    let some : is_some c.remove.result ≡ true = search rules in
    live_removed c.remove.result c.args.keyspace.now c.remove.new.self c.args.now (key_of c.args.database c.args.name.now) some c.remove.ensures.removed c.requires
