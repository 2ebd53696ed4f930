use Rattle.ft_search.proofs.words.TableWords.read_held.Given as goal

abbrev pub ghosts-seek_held : goal.ghosts-seek_held
ghosts-seek_held a = record { name = a.blank.name; parts = a.blank.parts }
