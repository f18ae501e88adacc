use Rattle.std.proofs.Common.{◌≡◌, map, take}
use Rattle.std.specs.Option.{option_map}
use Rattle.std.specs.FinMap as finmap
use Rattle.nr_model.specs.Commands.Strings as strings
use Rattle.nr_model.specs.Commands.Hashes as hashes
use Rattle.nr_resp.specs.Shown.{item_reply}
use Rattle.nr_members.proofs.hashes.looks.values_at.Given as goal

abbrev pub invariant-loop-field : goal.invariant-loop-field
invariant-loop-field l =
    map item_reply l.items.items
    ≡ map (λ field. strings.bulk_or_null (finmap.get (hashes.or_none (option_map (λ hash. hash.now) l.hash)) field)) (take l.field-index l.fields)
