use Rattle.std.proofs.Common.{ap, sym, is_some}
use Rattle.std.specs.FinMap as map
use Rattle.nr_model.specs.Keyspace.{byte_cmp}
use Rattle.nr_members.proofs.hashes.stored.has_field.Goals as goal

pub returns-in-None : goal.returns-in-None
returns-in-None c = rw c.in-None.is (sym (ap is_some (map.get-empty byte_cmp c.args.field.now)))
