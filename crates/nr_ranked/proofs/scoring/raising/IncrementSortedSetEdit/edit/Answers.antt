use Rattle.std.proofs.Common.{rules, ◌≡◌, ℤ, to_z, of_z, w64, subst}
use Rattle.std.specs.Prelude.{IfOk}
use Rattle.nr_model.specs.Commands.Keys.{unconditional}
use Rattle.nr_model.specs.Commands.SortedSets.{raise}
use Rattle.nr_ranked.specs.Changing.{Gives}
use Rattle.nr_ranked.proofs.scoring.raising.IncrementSortedSetEdit.edit.Goals as goal

pub returns-clause-ok : goal.returns-clause-ok
returns-clause-ok c =
    let increment = c.args.self in
    let same : to_z w64 (of_z w64 increment.by) ≡ increment.by = search rules in
    subst (λ (by : ℤ). IfOk c.raise.result (λ given. Gives (λ keyspace key. raise keyspace key unconditional c.args.zset.now (increment.member.now, by)) c.raise.new.zset given)) same
    c.raise.ensures.raised
