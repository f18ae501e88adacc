use Rattle.std.proofs.Common.{ap}
use Rattle.std.specs.Map.{keys_of}
use Rattle.nr_packs.specs.Packed.{Entries}
use Rattle.nr_sets.specs.Forms.{entries_of}
use Rattle.nr_sets.proofs.Bare.{no_members}
use Rattle.nr_sets.proofs.Seen.{none_seen}
use Rattle.nr_sets.proofs.set.Set.new.Goals as goal

pub invariant_of-result : goal.invariant_of-result
invariant_of-result c = no_members (entries_of c.new.result) c.new.ensures.none

pub returns : goal.returns
returns c = none_seen (keys_of (entries_of c.new.result)) (ap (λ (es : Entries). keys_of es) c.new.ensures.none)
