use Rattle.std.proofs.Common.{ap, ◌∙◌, arith}
use Rattle.std.proofs.lemmas.List.{with_items_is}
use Rattle.nr_keyspace.specs.Joined.{joined}
use Rattle.nr_keyspace.proofs.Joined.{none_stored}
use Rattle.nr_keyspace.proofs.databases.Databases.clear_all.Goals as goal

pub returns : goal.returns
returns c =
    ap joined (with_items_is c.self.inside.databases c.clear_each.new.databases (omega arith))
    ∙ none_stored c.clear_each.new.databases c.clear_each.ensures
