use Rattle.ft_model.proofs.EqualDicts.{equals_reads}
use Rattle.ft_model.proofs.dict.Dict.equals.Goals as goal

pub returns-clause-reads : goal.returns-clause-reads
returns-clause-reads c = rw (c.has_pairs.ensures.answer, c.has_pairs-2.ensures.answer) (equals_reads c.args.self.now.pairs c.args.other.now.pairs c.has_pairs.ensures.is_dict.distinct c.has_pairs-2.ensures.is_dict.distinct)
