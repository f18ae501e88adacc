use Rattle.std.proofs.Common.{◌∙◌, ◌∷◌, ap, sym, map}
use Rattle.std.proofs.lemmas.List.{nil_from_length}
use Rattle.std.proofs.lemmas.Result.{IfOk-weaker}
use Rattle.std.specs.Map.Iter.{deref}
use Rattle.nr_model.specs.Sets.{listed, difference_of}
use Rattle.nr_sets.specs.Lent.{lent}
use Rattle.nr_sets.proofs.Common.{left_over_is, none_listed, none_left}
use Rattle.nr_sets.proofs.several.difference.Goals as goal

pub returns-in_default : goal.returns-in_default
returns-in_default c =
    ap (map deref) c.new.ensures.items ∙ none_listed
    ∙ sym (ap (λ sets. listed (difference_of (map lent sets))) (nil_from_length c.args.sets.now c.in_default.ensures.cases))

pub returns-in-Some-first : goal.returns-in-Some-first
returns-in-Some-first c =
    IfOk-weaker c.left_over.result _ _
    (λ members are. are ∙ left_over_is lent c.in-Some-first.first.now c.in-Some.others.now
    ∙ sym (ap (λ sets. listed (difference_of (map lent sets))) c.in-Some.ensures.cases.0 ∙ ap (λ first. listed (difference_of (lent first ∷ map lent c.in-Some.others.now))) c.in-Some-first.is))
    c.left_over.ensures

pub returns-in-None : goal.returns-in-None
returns-in-None c =
    ap (map deref) c.new-in-None.ensures.items ∙ none_listed
    ∙ sym (ap (λ sets. listed (difference_of (map lent sets))) c.in-Some.ensures.cases.0
    ∙ ap (λ first. listed (difference_of (lent first ∷ map lent c.in-Some.others.now))) c.in-None.is
    ∙ ap (λ s. listed s) (none_left lent c.in-Some.others.now))
