use Rattle.std.proofs.Common.{length, refl}
use Rattle.ft_turns.proofs.ScheduleLemmas.{round_over}
use Rattle.ft_turns.proofs.schedule.Schedule.start.Goals as goal

pub returns-clause-turns : goal.returns-clause-turns
returns-clause-turns c = rw (c.len.ensures, c.requires.calls, round_over (length c.args.script.now.threads)) refl
