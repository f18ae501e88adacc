-- A refusal of memory. It says nothing but that it came, so one is as the other.
use Rattle.nr_blob.specs.declared.memory.Memory.{Memory}

abbrev pub refusal : Memory
refusal = record { refused = tt }
