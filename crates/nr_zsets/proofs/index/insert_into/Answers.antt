use Rattle.std.proofs.Common.{◌≡◌, Some, rules}
use Rattle.std.specs.Str.{bytes_eq}
use Rattle.std.specs.Map.{lookup}
use Rattle.nr_zsets.proofs.Mapped.{inserted}
use Rattle.nr_zsets.proofs.index.insert_into.Goals as goal

pub returns-clause-ok : goal.returns-clause-ok
returns-clause-ok c =
    let changes = c.in_ok-insert.ensures.updates in
    let at : lookup (bytes_eq c.args.member) c.insert.new.self.entries ≡ Some c.args.score = search (rules, changes.1) in
    inserted c.args.scores.now.entries c.insert.new.self.entries c.args.member c.args.score at changes.3
