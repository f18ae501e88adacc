use Rattle.std.proofs.Common.{◌≡◌, drop}
use Rattle.nr_model.specs.Commands.Hashes as hashes
use Rattle.nr_members.proofs.hashes.removing.remove_all.Given as goal

abbrev pub invariant-loop-field : goal.invariant-loop-field
invariant-loop-field l = hashes.without l.hash (drop l.field-index l.fields) ≡ hashes.without l.fn.hash l.fields
