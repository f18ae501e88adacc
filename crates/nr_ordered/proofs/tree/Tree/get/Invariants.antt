use Rattle.nr_ordered.proofs.tree.Tree.get.Given as goal

abbrev pub ghosts-at_from : goal.ghosts-at_from
ghosts-at_from a = record { name = a.blank.name; parts = a.blank.parts }
