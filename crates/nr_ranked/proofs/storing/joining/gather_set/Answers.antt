use Rattle.std.proofs.Common.{◌≡◌, ◌∙◌, refl, pos, map, rules}
use Rattle.std.specs.Prelude.{fold}
use Rattle.nr_model.specs.Sets.{listed}
use Rattle.nr_model.specs.SortedSets.{gathered_one, of_members}
use Rattle.nr_ranked.specs.Sums.{sums_of}
use Rattle.nr_ranked.proofs.StoringListings.{listed_set, gathered_listing}
use Rattle.nr_ranked.proofs.storing.joining.gather_set.Goals as goal

pub returns : goal.returns
returns c =
    let all : sums_of c.loop-member.sums
    ≡ fold (gathered_one c.args.aggregate c.args.weight) (sums_of c.args.sums.now) (map (λ member. (member, pos 1)) (listed c.args.set.now)) = search rules in
    all ∙ gathered_listing c.args.aggregate c.args.weight (map (λ member. (member, pos 1)) (listed c.args.set.now)) (sums_of c.args.sums.now) (of_members c.args.set.now)
    (listed_set c.args.set.now _ refl)
