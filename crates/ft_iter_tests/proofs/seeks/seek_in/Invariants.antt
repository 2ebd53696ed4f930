use Rattle.ft_iter_tests.proofs.seeks.seek_in.Given as goal

abbrev pub ghosts-seek_by : goal.ghosts-seek_by
ghosts-seek_by g a = record { name = a.blank.name; parts = a.blank.parts }
