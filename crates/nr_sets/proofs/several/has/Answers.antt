use Rattle.std.proofs.Common.{◌∙◌, ap, sym}
use Rattle.std.specs.FinSet as set
use Rattle.nr_model.specs.Keyspace.{byte_cmp}
use Rattle.nr_sets.specs.Lent.{lent}
use Rattle.nr_sets.proofs.several.has.Goals as goal

pub returns-in-None : goal.returns-in-None
returns-in-None c = sym (ap (λ held. set.contains (lent held) c.args.member.now) c.in-None.is ∙ set.contains-empty byte_cmp c.args.member.now)
