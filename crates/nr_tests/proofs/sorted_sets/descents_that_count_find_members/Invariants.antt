use Rattle.nr_tests.proofs.sorted_sets.descents_that_count_find_members.Given as goal

abbrev pub ghosts-counted : goal.ghosts-counted
ghosts-counted g a = record { name = a.blank.name; parts = a.blank.parts }
