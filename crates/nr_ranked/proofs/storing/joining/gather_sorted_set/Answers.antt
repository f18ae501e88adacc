use Rattle.std.proofs.Common.{◌≡◌, ◌∙◌, map, rules}
use Rattle.std.specs.Prelude.{fold}
use Rattle.nr_model.specs.SortedSets.{gathered_one}
use Rattle.nr_zsets.specs.Lists.{shown}
use Rattle.nr_ranked.specs.Sums.{sums_of}
use Rattle.nr_ranked.proofs.StoringListings.{listed_zset, gathered_listing}
use Rattle.nr_ranked.proofs.storing.joining.gather_sorted_set.Goals as goal

pub returns : goal.returns
returns c =
    let all : sums_of c.gather_all.new.sums ≡ fold (gathered_one c.args.aggregate c.args.weight) (sums_of c.args.sums.now) (map shown c.in_ok-members.members.items) = search rules in
    all ∙ gathered_listing c.args.aggregate c.args.weight (map shown c.in_ok-members.members.items) (sums_of c.args.sums.now) c.args.zset.now
    (listed_zset c.args.zset.now (map shown c.in_ok-members.members.items) c.len.result c.len.ensures.len c.in_ok-members.ensures)
