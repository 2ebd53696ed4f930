use Rattle.std.proofs.Common.{subst, sym}
use Rattle.std.specs.Prelude.{IfOk}
use Rattle.std.proofs.lemmas.Result.{err_from_is_err_and}
use Rattle.ft_bank.specs.Passes.{shape_of}
use Rattle.ft_bank_history.specs.LastContents.{IsShownAs}
use Rattle.ft_reads.proofs.Agreeing.{reads_map}
use Rattle.ft_whole_tables.specs.Items.{IsAllIn, IsItemsReply}
use Rattle.ft_engine.proofs.ReadContents.{copy_shown}
use Rattle.ft_engine.proofs.contents.read_entries.Goals as goal

pub shown_in-requires : goal.shown_in-requires
shown_in-requires c = (c.args.way, subst (λ made. IfOk made (IsItemsReply c.args.way)) c.in_ok-said.was c.copy_all.ensures.of_kind)

pub returns-clause-reads : goal.returns-clause-reads
returns-clause-reads c =
    let a = c.args in
    let k = shape_of a.bank.now in
    let said = c.in_ok-said.said in
    reads_map k a.c (IsAllIn a.way k c.copy_all.result) (λ x. IsShownAs k a.c c.shown_in.result x) a.pass.now c.copy_all.new.pass
    (λ x copied. copy_shown a.way k a.c said c.shown_in.result x c.requires.kind c.shown_in.ensures.dict c.shown_in.ensures.set (subst (λ made. IsAllIn a.way k made x) c.in_ok-said.was copied))
    c.copy_all.ensures.reads

pub returns-in_err-said-clause-reads : goal.returns-in_err-said-clause-reads
returns-in_err-said-clause-reads c =
    let a = c.args in
    let k = shape_of a.bank.now in
    let failed = err_from_is_err_and c.from_residual.result c.from_residual.ensures.1 in
    reads_map k a.c (IsAllIn a.way k c.copy_all.result) (λ x. IfOk c.from_residual.result (λ shown. IsShownAs k a.c shown x)) a.pass.now c.copy_all.new.pass
    (λ x copied. subst (λ made. IfOk made (λ shown. IsShownAs k a.c shown x)) (sym failed.1) tt)
    c.copy_all.ensures.reads
