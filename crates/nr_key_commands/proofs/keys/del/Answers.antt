use Rattle.std.proofs.Common.{arith, sym, subst, ap, ◌∙◌, ◌≡◌, ◌+◌}
use Rattle.nr_key_commands.proofs.Removals.{Along, counted_on, one_further}
use Rattle.nr_key_commands.proofs.keys.del.Goals as goal
use Rattle.nr_key_commands.proofs.keys.del.Goals.{then-branch, else-branch}

pub loop-name-preserved : goal.loop-name-preserved
loop-name-preserved g c =
    let step =
    one_further g.T.Touched.after c.args.keyspace.now c.loop-name.keyspace c.remove.new.keyspace c.args.touched.now c.loop-name.touched c.remove.new.touched
    c.loop-name.removed c.args.database c.args.names.now c.loop-name.name-index c.name-item.result c.in_ok-remove.field-0 (omega arith) c.name-item.is c.loop-name.invariant.along c.in_ok-remove.ensures.removed in
    let count : c.if-branch.removed ≡ counted_on c.in_ok-remove.field-0 c.loop-name.removed =
    elim c.if-branch.branch [
      | then-branch w ↦ w.removed-is ∙ sym (ap (λ b. counted_on b c.loop-name.removed) w.if-branch.true)
      | else-branch w ↦ w.removed-is ∙ sym (ap (λ b. counted_on b c.loop-name.removed) w.if-branch.false)
    ] in
    record {
      along = subst (λ n. Along g.T.Touched.after c.args.keyspace.now c.remove.new.keyspace c.args.touched.now c.remove.new.touched n c.args.database c.args.names.now (c.loop-name.name-index + 1)) (sym count) step;
      swept = c.in_ok-remove.ensures.live;
    }
