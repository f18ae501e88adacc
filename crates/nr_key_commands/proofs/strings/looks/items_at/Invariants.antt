use Rattle.std.proofs.Common.{◌≡◌, map, take}
use Rattle.nr_model.specs.Keyspace.{live}
use Rattle.nr_model.specs.Commands.Strings as strings
use Rattle.nr_resp.specs.Shown.{item_reply}
use Rattle.nr_key_commands.proofs.strings.looks.items_at.Given as goal

abbrev pub invariant-loop-name : goal.invariant-loop-name
invariant-loop-name l =
    map item_reply l.items.items ≡ map (λ name. strings.bulk_or_nothing (strings.text_at (live l.keyspace l.now) l.database name)) (take l.name-index l.names)
