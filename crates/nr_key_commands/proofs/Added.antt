-- A number that a key holds, and what is added to it.
use Rattle.std.proofs.Common.{◌≡◌}
use Rattle.std.specs.Prelude.{Option, Result, ℤ, Ok, IfOk, IfErr}
use Rattle.std.specs.Fmt.{signed_decimal}
use Rattle.nr_model.specs.Bytes.{Bytes}
use Rattle.nr_model.specs.Replies.{Int}
use Rattle.nr_model.specs.Keyspace.{Key, Keyspace}
use Rattle.nr_model.specs.Commands.Shape.{Effect, performed}
use Rattle.nr_model.specs.Commands.Reading.{Read, fault, read_then, integer}
use Rattle.nr_model.specs.Commands.Strings.{number_of, sum_of, rewritten}
use Rattle.nr_model.specs.declared.refused.Refused.{Refused}

-- what the edit says of a text, of what becomes of it, and of what is given
abbrev pub adds : ℤ → Bytes → Bytes → Result ℤ Refused → Type 0
adds by old new given =
    let sum = read_then (integer old) (λ n. sum_of n by) in
    IfOk given (λ n. (sum ≡ Ok n) × (new ≡ signed_decimal n)) × IfErr given (λ why. sum ≡ fault why)

-- what becomes of a key by what it holds
abbrev pub increased_by : ℤ → Keyspace → Key → Read (Option Bytes) → Effect
increased_by by keyspace key held =
    performed keyspace (read_then (read_then held number_of) (λ n. sum_of n by)) (λ sum. rewritten keyspace key (signed_decimal sum) (Int sum))
