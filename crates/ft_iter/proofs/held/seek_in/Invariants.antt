use Rattle.ft_iter.proofs.held.seek_in.Given as goal

abbrev pub ghosts-seek_pair : goal.ghosts-seek_pair
ghosts-seek_pair a = record { name = a.blank.name; parts = a.blank.parts }
