use Rattle.std.proofs.Common.{◌≡◌, Ok, drop}
use Rattle.std.specs.Prelude.{fold}
use Rattle.nr_model.specs.Keyspace.{live}
use Rattle.nr_model.specs.Strings.{joined_two}
use Rattle.nr_model.specs.Commands.Reading.{read_then}
use Rattle.nr_model.specs.Commands.Strings.{texts_at}
use Rattle.nr_strings.specs.Joins.{function_of}
use Rattle.nr_key_commands.proofs.strings.bits.join_others.Given as goal

abbrev pub invariant-loop-name : goal.invariant-loop-name
invariant-loop-name l =
    read_then (texts_at (live l.keyspace l.now) l.database (drop l.name-index l.names)) (λ texts. Ok (fold (joined_two (function_of l.operation)) l.text texts))
    ≡ read_then (texts_at (live l.keyspace l.now) l.database l.names) (λ texts. Ok (fold (joined_two (function_of l.operation)) l.fn.text texts))
