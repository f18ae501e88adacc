use Rattle.std.proofs.Common.{◌≡◌, length}
use Rattle.nr_model.specs.Commands.Hashes as hashes
use Rattle.nr_members.proofs.hashes.setting.insert_all.Given as goal

abbrev pub invariant-loop-field : goal.invariant-loop-field
invariant-loop-field l = hashes.with_fields l.hash l.left ≡ hashes.with_fields l.fn.hash l.words

abbrev pub decreases-loop-field : goal.decreases-loop-field
decreases-loop-field l = length l.left
