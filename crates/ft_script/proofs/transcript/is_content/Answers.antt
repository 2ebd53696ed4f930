use Rattle.ft_script.proofs.EntryChecks.{content_answer, content_refused}
use Rattle.ft_script.proofs.LineCases.{content_fits}
use Rattle.ft_script.proofs.TokenLists.{shown}
use Rattle.ft_script.proofs.transcript.is_content.Goals as goal

pub prints_content-requires-clause-container : goal.prints_content-requires-clause-container
prints_content-requires-clause-container c = (content_fits c.args.script.now (shown c.args.tokens.now) c.in-Ok.read c.in-Ok.ensures).container

pub prints_content-requires-clause-content : goal.prints_content-requires-clause-content
prints_content-requires-clause-content c = (content_fits c.args.script.now (shown c.args.tokens.now) c.in-Ok.read c.in-Ok.ensures).content.of_script

pub returns-in-Ok-clause-read : goal.returns-in-Ok-clause-read
returns-in-Ok-clause-read c = content_answer c.args.script.now c.args.line.now (shown c.args.tokens.now) c.in-Ok.read.0 c.in-Ok.read.1 c.prints_content.result c.requires.rule c.requires.tokens c.requires.line c.in-Ok.ensures c.prints_content.ensures.read

pub returns-in-Err-clause-read : goal.returns-in-Err-clause-read
returns-in-Err-clause-read c = rw c.refused.ensures (content_refused c.args.script.now c.args.line.now (shown c.args.tokens.now) c.in-Err.failure c.requires.rule c.requires.tokens c.in-Err.ensures)
