-- A fact on known bytes has one proof at most, as a field that only proofs read asks for.
use Rattle.std.specs.Coded.{Coded-set, Unit-prop, coded_list, coded_ℕ}
use Rattle.std.specs.Io.KnownBytes.{Appends, Consumes}
use Rattle.std.specs.Prelude.{◌++◌, Option, Some, None}
use Rattle.nr_model.specs.Bytes.{Bytes}

pub Consumes-prop : (before after : Option Bytes) (bytes : Bytes) → IsProp (Consumes before after bytes)
Consumes-prop None after bytes = Unit-prop
Consumes-prop (Some x) None bytes = λ p q. absurd p
Consumes-prop (Some x) (Some y) bytes = Coded-set (coded_list coded_ℕ) x (bytes ++ y)

pub Appends-prop : (before after : Option Bytes) (bytes : Bytes) → IsProp (Appends before after bytes)
Appends-prop None after bytes = Unit-prop
Appends-prop (Some x) None bytes = λ p q. absurd p
Appends-prop (Some x) (Some y) bytes = Coded-set (coded_list coded_ℕ) y (x ++ bytes)
