use Rattle.ft_runner.proofs.errors.put_line.Goals as goal

pub returns-in-Transcript-clause-line : goal.returns-in-Transcript-clause-line
returns-in-Transcript-clause-line g c = rw c.in-Transcript.is (rw c.from.ensures at c.put_number.ensures)
