use Rattle.std.proofs.Common.{◌≡◌, ◌∙◌, ap, rules}
use Rattle.std.specs.Prelude.{◌*ℤ◌}
use Rattle.std.specs.BTreeMap.{insert_entry}
use Rattle.std.specs.FinMap as finmap
use Rattle.nr_model.specs.SortedSets.{aggregated}
use Rattle.nr_ranked.specs.Sums.{sums_of}
use Rattle.nr_ranked.proofs.StoringSums.{through, inserted_sum}
use Rattle.nr_ranked.proofs.storing.joining.gather_one.Goals as goal

pub returns : goal.returns
returns c =
    let sum : c.in_ok-sum.sum ≡ aggregated c.args.aggregate (finmap.get (sums_of c.args.sums.now) c.args.member.now) (c.args.weight *ℤ c.args.score) = search rules in
    let put : c.insert.new.self.entries ≡ insert_entry through c.args.sums.now.entries c.args.member c.in_ok-sum.sum = search rules in
    inserted_sum c.args.sums.now.entries c.insert.new.self.entries c.args.member c.in_ok-sum.sum put
    ∙ ap (λ sum. finmap.insert (sums_of c.args.sums.now) c.args.member.now sum) sum
