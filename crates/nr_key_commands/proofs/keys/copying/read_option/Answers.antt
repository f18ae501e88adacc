use Rattle.std.proofs.Common.{rules}
use Rattle.nr_key_commands.proofs.CopyWords.{replace_read, database_read}
use Rattle.nr_key_commands.proofs.keys.copying.read_option.Goals as goal

pub returns-then-is_word-clause-read : goal.returns-then-is_word-clause-read
returns-then-is_word-clause-read c = rw (← c.options.view_is) (replace_read _ c.args.word.now c.args.behind.now (search rules))

pub returns-clause-read : goal.returns-clause-read
returns-clause-read c =
    rw (← c.options.view_is) (database_read _ c.args.word.now c.in-Some.index.now c.args.behind.now c.in-Some.behind.now _ (search rules) (search rules) (search rules) (search rules))
