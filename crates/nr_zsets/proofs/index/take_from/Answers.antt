use Rattle.std.proofs.Common.{refl}
use Rattle.nr_zsets.specs.Scores.{scores_of}
use Rattle.nr_zsets.proofs.Mapped.{found, removed}
use Rattle.nr_zsets.proofs.index.take_from.Goals as goal

pub returns-clause-was : goal.returns-clause-was
returns-clause-was c =
    found c.args.scores.now.entries (scores_of c.args.scores.now.entries) c.args.member.now c.remove.result refl c.remove.ensures.value

pub returns-clause-removed : goal.returns-clause-removed
returns-clause-removed c =
    let changes = c.remove.ensures.updates in
    removed c.args.scores.now.entries c.remove.new.self.entries c.args.member.now changes.1 changes.3
