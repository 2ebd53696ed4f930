use Rattle.std.proofs.Common.{ℕ, sym, subst}
use Rattle.ft_io.specs.Streams.{Stream}
use Rattle.ft_runner.specs.declared.outcome.Outcome.TheVariants as outcome
use Rattle.ft_runner.specs.Reports.{ComesTo, MeansChecked}
use Rattle.std.proofs.lemmas.Option.{MatchOption-at_none}
use Rattle.ft_runner.specs.Checking.{HasNoSeparator, IsSeparator}
use Rattle.ft_runner.proofs.FindingLemmas.{bad_line, found_there, missing_line, reported_line}
use Rattle.ft_runner.proofs.ReportLemmas.{line_refused, script_refused}
use Rattle.ft_runner.proofs.checking.find.Goals as goal

pub returns-in-Err-clause-refused : goal.returns-in-Err-clause-refused
returns-in-Err-clause-refused c sink = rw c.refused.ensures (script_refused c.args.bytes.now c.before_separator.result.now c.in-Err.refused c.before_separator.ensures c.in-Err.ensures.fault sink)

pub returns-in_default-clause-refused : goal.returns-in_default-clause-refused
returns-in_default-clause-refused c =
    line_refused c.args.bytes.now 1 (missing_line c.args.bytes.now c.before_separator.result.now c.in-Ok.script c.before_separator.ensures c.in-Ok.ensures.read (MatchOption-at_none (HasNoSeparator c.args.bytes.now) (IsSeparator c.args.bytes.now) c.in_default.is c.requires))

pub returns-in-Err-Line-clause-refused : goal.returns-in-Err-Line-clause-refused
returns-in-Err-Line-clause-refused c =
    subst (λ (line : ℕ). (sink : Stream) → ComesTo (MeansChecked c.args.bytes.now) sink sink (outcome.Transcript line)) (sym c.in-Err-Line.line-is) (line_refused c.args.bytes.now c.in-Err-Line.line (bad_line c.args.bytes.now c.before_separator.result.now c.in-Ok.script c.before_separator.ensures c.in-Ok.ensures.read c.in-Some.place (rw c.in-Some.is at c.requires) c.after_separator.result.now c.after_separator.ensures c.in-Err-Line.line (reported_line c.in-Err-Line.field-0 c.in-Err-Line.line c.in-Err-Line.field-0-is c.in-Err-Line.ensures.fault)))

pub returns-in-Ok-verdict_on-clause-found : goal.returns-in-Ok-verdict_on-clause-found
returns-in-Ok-verdict_on-clause-found c =
    found_there c.args.bytes.now c.before_separator.result.now c.in-Ok.script c.before_separator.ensures c.in-Ok.ensures.read c.in-Some.place (rw c.in-Some.is at c.requires) c.after_separator.result.now c.after_separator.ensures c.in-Ok-read_transcript.transcript.entries.items _ c.in-Ok-verdict_on.verdict c.in-Ok-read_transcript.ensures.read (rw (c.deref.ensures.value, c.deref-2.ensures.value) at c.in-Ok-verdict_on.ensures)
