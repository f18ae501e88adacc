use Rattle.nr_model.specs.Lists.{seen_from}
use Rattle.nr_lists.proofs.TakenOut.{TurnsOut}
use Rattle.nr_lists.proofs.matches.take_out.Given as goal

-- one turn through the blocks
abbrev pub invariant-loop : goal.invariant-loop
invariant-loop l = TurnsOut l.fn.end l.fn.most l.taken l.counter l.fn.bytes (seen_from l.fn.end l.fn.blocks.items) (seen_from l.fn.end l.blocks.items)
