use Rattle.std.proofs.Common.{refl}
use Rattle.nr_strings.specs.Joins.{function_of}
use Rattle.nr_strings.proofs.Joined.{joined_behind}
use Rattle.nr_strings.proofs.joins.join.Goals as goal

pub returns : goal.returns
returns c =
    joined_behind (function_of c.args.operation) c.args.bytes.now c.args.other.now c.join_others.new.bytes c.join_zeros.new.bytes _ c.requires c.join_others.ensures refl
    c.join_zeros.ensures
