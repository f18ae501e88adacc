use Rattle.std.proofs.Common.{◌∙◌, List, ap, sym, map}
use Rattle.std.specs.Prelude.{Ok}
use Rattle.std.specs.FinSet as finset
use Rattle.std.specs.Map.Iter.{deref}
use Rattle.nr_model.specs.Sets.{Members, listed}
use Rattle.nr_model.specs.Commands.Reading.{Read, read_then}
use Rattle.nr_model.specs.Commands.Sets as sets
use Rattle.nr_sets.specs.Lent.{lent}
use Rattle.nr_sets.proofs.Gathered.{collected_is}
use Rattle.nr_members.proofs.sets.combining.combined_set.Goals as goal

pub returns-clause-set : goal.returns-clause-set
returns-clause-set c =
    ap (λ (r : Read (List Members)). read_then {B = Members} r (λ held. Ok (sets.combined c.args.combination held))) c.in_ok-held.ensures.sets
    ∙ ap Ok (sym (c.in_ok-collect.ensures
    ∙ ap (λ members. sets.with_each finset.empty (map deref members)) c.deref-2.ensures.value
    ∙ ap (λ members. sets.with_each finset.empty members) c.in_ok-members.ensures
    ∙ ap (λ held. sets.with_each finset.empty (listed (sets.combined c.args.combination (map lent held)))) c.deref.ensures.value
    ∙ collected_is (sets.combined c.args.combination (map lent c.in_ok-held.held.items))))
