use Rattle.ft_history.proofs.Matching.{section_ended, one_match, match_of}
use Rattle.ft_history.proofs.Unbroken.{next_of_legal}
use Rattle.ft_history.proofs.laws.each_end_matches_one_begin.Goals as goal

pub returns-clause-one : goal.returns-clause-one
returns-clause-one c = λ storage script entries ended end is_script legal at ends. match_of script is_script entries (next_of_legal storage script entries legal) ended end at ends

pub returns-clause-only : goal.returns-clause-only
returns-clause-only c = one_match

pub returns-clause-section : goal.returns-clause-section
returns-clause-section c = section_ended
