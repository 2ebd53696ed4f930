use Rattle.ft_keys_tests.proofs.searches.a_further_search_loads_the_slot_again.Given as goal

abbrev pub ghosts-find_again : goal.ghosts-find_again
ghosts-find_again g a = record { name = a.blank.name; parts = a.blank.parts }
