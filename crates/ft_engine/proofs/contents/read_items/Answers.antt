use Rattle.std.proofs.Common.{subst, sym}
use Rattle.std.specs.Prelude.{IfOk}
use Rattle.std.proofs.lemmas.Result.{err_from_is_err_and}
use Rattle.ft_model.specs.declared.reply.Shown.TheVariants as shown
use Rattle.ft_bank.specs.Passes.{shape_of}
use Rattle.ft_bank_history.specs.LastContents.{IsShownAs}
use Rattle.ft_list.specs.Scans.{IsOfItems}
use Rattle.ft_reads.specs.Copies.{AreCopied}
use Rattle.ft_reads.proofs.Agreeing.{reads_map}
use Rattle.ft_engine.proofs.ReadContents.{items_shown}
use Rattle.ft_engine.proofs.contents.read_items.Goals as goal

pub returns-clause-reads : goal.returns-clause-reads
returns-clause-reads c =
    let a = c.args in
    let k = shape_of a.bank.now in
    let items = c.in_ok-items.items in
    reads_map k a.c (IsOfItems k (AreCopied c.copy_items.result)) (λ x. IsShownAs k a.c (shown.List c.from_vec.result) x) a.pass.now c.copy_items.new.pass
    (λ x copied.
    subst (λ l. IsShownAs k a.c (shown.List l) x) (sym c.from_vec.ensures)
    (items_shown k a.c items x c.requires.kind (subst (λ made. IsOfItems k (AreCopied made) x) c.in_ok-items.was copied)))
    c.copy_items.ensures.reads

pub returns-in_err-items-clause-reads : goal.returns-in_err-items-clause-reads
returns-in_err-items-clause-reads c =
    let a = c.args in
    let k = shape_of a.bank.now in
    let failed = err_from_is_err_and c.from_residual.result c.from_residual.ensures.1 in
    reads_map k a.c (IsOfItems k (AreCopied c.copy_items.result)) (λ x. IfOk c.from_residual.result (λ all. IsShownAs k a.c all x)) a.pass.now c.copy_items.new.pass
    (λ x copied. subst (λ made. IfOk made (λ all. IsShownAs k a.c all x)) (sym failed.1) tt)
    c.copy_items.ensures.reads
