use Rattle.nr_ordered.proofs.tree.Tree.find.Given as goal

abbrev pub ghosts-place_from : goal.ghosts-place_from
ghosts-place_from g a = record { name = a.blank.name; parts = a.blank.parts }
