use Rattle.std.proofs.Common.{map, string_bytes, rules}
use Rattle.nr_config.specs.CommandLines.{Names, Refuses}
use Rattle.nr_config.proofs.Refusals.{refuses}
use Rattle.nr_config.proofs.Spelled.{gives, gives_none}
use Rattle.nr_config.proofs.command_line.words.Goals as goal

pub returns-in-Ok-clause-spelled : goal.returns-in-Ok-clause-spelled
returns-in-Ok-clause-spelled c task spells =
    let words = map string_bytes c.args.words.items in
    let named : Names words c.in-Ok.task = search rules in
    gives words task c.in-Ok.task named spells

pub returns-clause-refused : goal.returns-clause-refused
returns-clause-refused c = refuses (map string_bytes c.args.words.items) c.in-Err.error c.refusal.result (search rules) c.refusal.ensures

pub returns-clause-spelled : goal.returns-clause-spelled
returns-clause-spelled c task spells =
    let words = map string_bytes c.args.words.items in
    let refused : Refuses words c.refusal.result = refuses words c.in-Err.error c.refusal.result (search rules) c.refusal.ensures in
    gives_none words task c.refusal.result refused spells
