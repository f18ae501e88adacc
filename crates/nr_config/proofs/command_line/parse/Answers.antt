use Rattle.std.proofs.Common.{map, string_bytes}
use Rattle.clap.specs.Words.{app_of}
use Rattle.nr_config.proofs.Parsed.{finds, refused}
use Rattle.nr_config.proofs.command_line.parse.Goals as goal

pub returns-clause-found : goal.returns-clause-found
returns-clause-found c =
    let parse = c.try_get_matches_from in
    finds (app_of c.in_ok-command.field-0) (map string_bytes c.args.words.now) parse.result c.in_ok-command.ensures.0 parse.ensures.matches parse.ensures.kinds

pub returns-clause-refused : goal.returns-clause-refused
returns-clause-refused c =
    let parse = c.try_get_matches_from in
    refused (app_of c.in_ok-command.field-0) (map string_bytes c.args.words.now) parse.result c.in_ok-command.ensures.0 parse.ensures.kinds
