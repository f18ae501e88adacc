use Rattle.std.proofs.Common.{sym, ℤ}
use Rattle.std.specs.FinMap as map
use Rattle.nr_model.specs.Keyspace.{byte_cmp}
use Rattle.nr_ranked.proofs.looks.len_of.Goals as goal

pub returns-in-None-clause-len : goal.returns-in-None-clause-len
returns-in-None-clause-len c = rw c.in-None.is (sym (map.len-empty byte_cmp ℤ))
