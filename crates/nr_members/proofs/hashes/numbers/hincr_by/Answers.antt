use Rattle.std.proofs.Common.{rules}
use Rattle.nr_members.proofs.HashesChanged.{add_refused}
use Rattle.nr_members.proofs.hashes.numbers.hincr_by.Goals as goal

pub returns-in_err-sum : goal.returns-in_err-sum
returns-in_err-sum g c =
    add_refused g.T.Touched.after c.from_residual-in_err-sum.result c.args.keyspace.now c.edit_at.new.keyspace c.args.database c.args.touched.now
    c.args.words.now c.in_ok-name.name.now c.in_ok-name.field.now c.in_ok-name.by _ c.in_err-sum.field-0.0 (search rules) c.in_ok-name.ensures.request
    c.from_residual-in_err-sum.ensures c.in_err-sum.ensures.refused
