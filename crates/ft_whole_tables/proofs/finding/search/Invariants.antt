use Rattle.ft_whole_tables.proofs.finding.search.Given as goal

abbrev pub ghosts-seek : goal.ghosts-seek
ghosts-seek a = record { name = a.blank.name; parts = a.blank.parts }
