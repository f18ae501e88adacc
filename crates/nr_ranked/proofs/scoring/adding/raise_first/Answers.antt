use Rattle.std.proofs.Common.{rules, ◌≡◌, ℤ, to_z, of_z, w64, subst}
use Rattle.std.specs.Prelude.{IfOk}
use Rattle.nr_model.specs.Commands.SortedSets.{raise}
use Rattle.nr_ranked.specs.Changing.{Gives}
use Rattle.nr_ranked.proofs.scoring.adding.raise_first.Goals as goal

pub returns-clause-raised : goal.returns-clause-raised
returns-clause-raised c =
    let pair = c.in-Some.pair.now in
    let same : to_z w64 (of_z w64 pair.1) ≡ pair.1 = search rules in
    rw c.in-Some.ensures.cases.0
    (subst (λ (by : ℤ). IfOk c.raise.result (λ given. Gives (λ keyspace key. raise keyspace key c.args.conditions c.args.zset.now (pair.0.now, by)) c.raise.new.zset given)) same
    c.raise.ensures.raised)
