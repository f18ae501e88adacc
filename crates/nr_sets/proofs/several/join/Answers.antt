use Rattle.std.proofs.Common.{◌∙◌, ap, sym, map}
use Rattle.std.specs.Map.Iter.{deref}
use Rattle.nr_model.specs.Sets.{listed}
use Rattle.nr_sets.specs.Lent.{lent}
use Rattle.nr_sets.proofs.Common.{none_listed}
use Rattle.nr_sets.proofs.Joined.{puts, put_key}
use Rattle.nr_sets.proofs.several.join.Goals as goal

pub returns-in_default : goal.returns-in_default
returns-in_default c = ap (λ members. puts members (map deref c.args.joined.now.keys)) (none_listed ∙ sym (ap (λ s. listed (lent s)) c.in_default.is))

pub loop-member-preserved : goal.loop-member-preserved
loop-member-preserved c =
    ap (λ keys. puts c.next.new.self keys) (ap (map deref) c.in_ok-insert.ensures.keys ∙ put_key c.loop-member.joined.keys c.in-Some-member.member)
    ∙ ap (λ members. puts members (map deref c.loop-member.joined.keys)) (sym c.in-Some-member.ensures.steps)
    ∙ c.loop-member.invariant
