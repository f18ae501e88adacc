use Rattle.std.proofs.Common.{◌≡◌, ◌++◌, take}
use Rattle.nr_script.specs.Texts.{shown}
use Rattle.nr_script.proofs.written.append_bytes.Given as goal

abbrev pub invariant-loop-byte : goal.invariant-loop-byte
invariant-loop-byte l = l.out.items ≡ l.fn.out.items ++ shown (take l.byte-index l.bytes)
