use Rattle.std.proofs.Common.{◌≡◌, ◌++◌}
use Rattle.nr_lists.proofs.form.chain_of.Given as goal

-- what is pushed and what is left are all
abbrev pub invariant-loop-item : goal.invariant-loop-item
invariant-loop-item l = l.chain ++ l.item-iterator ≡ l.items
