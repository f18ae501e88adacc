use Rattle.std.proofs.Common.{◌∙◌, ap, sym}
use Rattle.std.specs.FinSet as finset
use Rattle.nr_model.specs.Keyspace.{byte_cmp}
use Rattle.nr_sets.specs.Lent.{lent}
use Rattle.nr_members.proofs.sets.stored.len_of.Goals as goal

pub returns-in-None-clause-len : goal.returns-in-None-clause-len
returns-in-None-clause-len c = sym (ap (λ held. finset.len (lent held)) c.in-None.is ∙ finset.len-empty byte_cmp)
