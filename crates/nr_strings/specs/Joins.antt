-- What joining strings does to two of their bytes.
use Rattle.std.specs.Prelude.{ℕ, bit_and, bit_or, bit_xor}
use Rattle.nr_strings.specs.declared.joins.BitOperation.{BitOperation}
use Rattle.nr_strings.specs.declared.joins.BitOperation.TheVariants.{And, Or, Xor}

-- the bits set in both, in one or both, and in one alone
abbrev pub function_of : BitOperation → ℕ → ℕ → ℕ
function_of And = bit_and
function_of Or = bit_or
function_of Xor = bit_xor
