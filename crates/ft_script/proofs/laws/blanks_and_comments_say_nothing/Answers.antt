use Rattle.ft_script.proofs.Blanks.{feed_says_nothing, first_passed, lines_passed, spaces_part}
use Rattle.ft_script.proofs.laws.blanks_and_comments_say_nothing.Goals as goal

pub returns-clause-first : goal.returns-clause-first
returns-clause-first c = first_passed

pub returns-clause-below : goal.returns-clause-below
returns-clause-below c = lines_passed

pub returns-clause-feed : goal.returns-clause-feed
returns-clause-feed c = feed_says_nothing

pub returns-clause-spaces : goal.returns-clause-spaces
returns-clause-spaces c = spaces_part
