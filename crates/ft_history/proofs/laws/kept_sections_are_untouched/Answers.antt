use Rattle.ft_history.proofs.Matching.{matched_untouched}
use Rattle.ft_history.proofs.laws.kept_sections_are_untouched.Goals as goal

pub returns : goal.returns
returns c = λ storage script entries begun ended begin end legal is kept. matched_untouched entries begun ended begin end is kept (legal.chronicle.kept ended end is.end_at)
