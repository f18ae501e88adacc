use Rattle.std.proofs.Common.{◌≡◌, ◌-◌, ◌≤◌, length}
use Rattle.nr_model.specs.Strings.{padded}
use Rattle.nr_strings.proofs.padding.pad.Given as goal

-- as many zero bytes as there are, and room for the others
abbrev pub invariant-loop-bytes : goal.invariant-loop-bytes
invariant-loop-bytes l = record {
  zeros : l.bytes.items ≡ padded (length l.bytes.items) l.fn.bytes.items;
  longer : length l.fn.bytes.items ≤ length l.bytes.items;
  within : length l.bytes.items ≤ l.len;
  room : l.len ≤ l.bytes.capacity;
}

abbrev pub decreases-loop-bytes : goal.decreases-loop-bytes
decreases-loop-bytes l = l.len - length l.bytes.items
