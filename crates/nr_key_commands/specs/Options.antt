-- The words that say options.
use Rattle.std.specs.Prelude.{ℕ, ℤ, suc, true, false, List, [], ◌∷◌, Option, Some, None, Ok, codes, if◌then◌else◌}
use Rattle.nr_model.specs.Bytes.{Bytes}
use Rattle.nr_model.specs.Commands.Reading.{Read, fault, read_then, positive_expiry, is_word}
use Rattle.nr_model.specs.Commands.Strings as strings
use Rattle.nr_model.specs.declared.command.Timing.{Timing}
use Rattle.nr_model.specs.declared.refused.Refused.TheVariants.{Syntax}
use Rattle.nr_model.specs.declared.refused.Expiring.{Expiring}

-- no options of GETEX
abbrev pub no_get_ex_options : strings.GetExOptions
no_get_ex_options = record { persist = false; times = 0; deadline = None }

-- with a word that takes no value, if it is one of SET
abbrev pub set_flag : strings.SetOptions → Bytes → Option strings.SetOptions
set_flag options word =
    if is_word (codes "nx") word then Some (record options { nx = true })
    else if is_word (codes "xx") word then Some (record options { xx = true })
    else if is_word (codes "get") word then Some (record options { get = true })
    else if is_word (codes "keepttl") word then Some (record options { keep = true; times = suc options.times })
    else None

-- or of GETEX
abbrev pub get_ex_flag : strings.GetExOptions → Bytes → Option strings.GetExOptions
get_ex_flag options word =
    if is_word (codes "persist") word then Some (record options { persist = true; times = suc options.times })
    else None

-- with another deadline of GETEX
abbrev pub with_get_ex_deadline : strings.GetExOptions → ℤ → strings.GetExOptions
with_get_ex_deadline options deadline = record options { times = suc options.times; deadline = Some deadline }

-- the deadline that the next word says by its timing, and the words behind it
abbrev pub deadline_behind : Expiring → ℕ → Option Timing → List Bytes → Read (ℤ × List Bytes)
deadline_behind command now None words = fault Syntax
deadline_behind command now (Some timing) [] = fault Syntax
deadline_behind command now (Some timing) (value ∷ words) = read_then (positive_expiry command timing now value) (λ deadline. Ok (deadline, words))

-- the deadline of a key that is there, if it has one
abbrev pub deadline_kept : Option (Option ℤ) → Option ℤ
deadline_kept None = None
deadline_kept (Some deadline) = deadline
