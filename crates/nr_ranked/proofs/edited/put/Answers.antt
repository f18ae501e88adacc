use Rattle.std.proofs.Common.{rules}
use Rattle.nr_model.specs.Keyspace.{key_of}
use Rattle.nr_ranked.proofs.Edits.{still_missing}
use Rattle.nr_ranked.proofs.edited.put.Goals as goal

pub returns-then-len-eq0 : goal.returns-then-len-eq0
returns-then-len-eq0 c =
    still_missing c.args.keyspace.now (key_of c.args.database c.args.name.now) c.args.zset c.len.result (search rules) c.if-len-eq0.true c.requires
