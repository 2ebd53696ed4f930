use Rattle.ft_keys_tests.proofs.searches.a_search_ends_at_a_deleted_entry_of_its_key.Given as goal

abbrev pub ghosts-find_three_times : goal.ghosts-find_three_times
ghosts-find_three_times g a = record { name = a.blank.name; parts = a.blank.parts }
