use Rattle.std.specs.FinMap as map
use Rattle.nr_model.specs.Keyspace.{byte_cmp}
use Rattle.nr_zsets.proofs.Ranked.{rank_missing}
use Rattle.nr_ranked.proofs.looks.rank_in.Goals as goal

pub returns-in-None-clause-rank : goal.returns-in-None-clause-rank
returns-in-None-clause-rank c = rw c.in-None.is (rank_missing c.args.direction map.empty c.args.member.now (map.get-empty byte_cmp c.args.member.now))
