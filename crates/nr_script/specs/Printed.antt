-- What a script's run prints, a line each.
use Rattle.std.specs.Prelude.{ℕ, [], ◌∷◌, ◌++◌, codes, decimal}
use Rattle.nr_model.specs.Bytes.{Bytes}
use Rattle.nr_model.specs.declared.reason.Reason.{Reason}
use Rattle.nr_model.specs.declared.reason.Reason.TheVariants.{NoSuch, Ended, TooMany, Down, Busy, Nothing, Full, NotYet, NoMemory}
use Rattle.nr_script.specs.Texts.{shown}

-- a connection was opened
abbrev pub opened_line : ℕ → Bytes
opened_line connection = codes "open " ++ decimal connection ++ 10 ∷ []

-- the number of a reason, in the order in which reasons are looked for
abbrev pub reason_number : Reason → ℕ
reason_number NoSuch = 1
reason_number Ended = 2
reason_number TooMany = 3
reason_number Down = 4
reason_number Busy = 5
reason_number Nothing = 6
reason_number Full = 7
reason_number NotYet = 8
reason_number NoMemory = 9

abbrev pub reason_name : Reason → Bytes
reason_name NoSuch = codes "NoSuch"
reason_name Ended = codes "Ended"
reason_name TooMany = codes "TooMany"
reason_name Down = codes "Down"
reason_name Busy = codes "Busy"
reason_name Nothing = codes "Nothing"
reason_name Full = codes "Full"
reason_name NotYet = codes "NotYet"
reason_name NoMemory = codes "NoMemory"

-- a step did nothing, for this reason
abbrev pub idle_line : Reason → Bytes
idle_line reason = codes "idle " ++ decimal (reason_number reason) ++ codes " " ++ reason_name reason ++ 10 ∷ []

-- a connection was handed these bytes
abbrev pub handed_line : ℕ → Bytes → Bytes
handed_line connection bytes = decimal connection ++ codes " " ++ shown bytes ++ 10 ∷ []
