use Rattle.std.proofs.Common.{sym}
use Rattle.std.proofs.lemmas.Result.{err_from_is_err_and}
use Rattle.ft_script.proofs.EntryChecks.{readable_checked, no_entry_checked, no_entry_printed, no_entry_failed, kept_by, not_both}
use Rattle.ft_script.proofs.LineCases.{entry_fits}
use Rattle.ft_script.proofs.TokenLists.{shown}
use Rattle.ft_script.proofs.transcript.read_entry.Goals as goal

pub returns-in_err-entry-clause-fault : goal.returns-in_err-entry-clause-fault
returns-in_err-entry-clause-fault c =
    let p = err_from_is_err_and c.from_residual.result c.from_residual.ensures.1 in
    rw (p.1, p.2) (no_entry_failed c.args.script.now c.args.line.now (shown c.args.tokens.now) c.in_err-entry.field-0.0 c.requires.rule c.requires.tokens c.in_err-entry.ensures.read)

pub is_readable-requires : goal.is_readable-requires
is_readable-requires c = (entry_fits c.args.script.now (shown c.args.tokens.now) c.in_ok-entry.entry c.in_ok-entry.ensures.read).thread

pub returns-then-not-is_readable-clause-fault : goal.returns-then-not-is_readable-clause-fault
returns-then-not-is_readable-clause-fault c =
    rw c.into.ensures (no_entry_checked c.args.script.now c.args.line.now (shown c.args.tokens.now) c.in_ok-entry.entry c.is_readable.result c.requires.rule c.requires.tokens c.in_ok-entry.ensures.read c.is_readable.ensures.call c.if-not-is_readable.true)

pub prints_entry-requires : goal.prints_entry-requires
prints_entry-requires c = (readable_checked c.args.script.now (shown c.args.tokens.now) c.in_ok-entry.entry c.is_readable.result c.in_ok-entry.ensures.read c.is_readable.ensures.call c.is_readable.ensures.wide c.if-not-is_readable.false).of_script

pub returns-then-same-clause-read : goal.returns-then-same-clause-read
returns-then-same-clause-read c =
    (readable_checked c.args.script.now (shown c.args.tokens.now) c.in_ok-entry.entry c.is_readable.result c.in_ok-entry.ensures.read c.is_readable.ensures.call c.is_readable.ensures.wide c.if-not-is_readable.false, c.in_ok-same.ensures.0 c.if-same.true)

pub returns-then-same-clause-kept : goal.returns-then-same-clause-kept
returns-then-same-clause-kept c =
    c.in_ok-entry.ensures.kept (kept_by c.args.script.now c.args.line.now (shown c.args.tokens.now) c.in_ok-entry.entry c.requires.rule c.requires.tokens
    (readable_checked c.args.script.now (shown c.args.tokens.now) c.in_ok-entry.entry c.is_readable.result c.in_ok-entry.ensures.read c.is_readable.ensures.call c.is_readable.ensures.wide c.if-not-is_readable.false) (c.in_ok-same.ensures.0 c.if-same.true))

pub returns-else-same-clause-fault : goal.returns-else-same-clause-fault
returns-else-same-clause-fault c =
    rw c.into-else-same.ensures (no_entry_printed c.args.script.now c.args.line.now (shown c.args.tokens.now) c.in_ok-entry.entry c.requires.rule c.requires.tokens c.in_ok-entry.ensures.read (λ same. not_both c.in_ok-same.same c.if-same.false (c.in_ok-same.ensures.1 (sym same))))
