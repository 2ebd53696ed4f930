use Rattle.std.proofs.Common.{◌∙◌, sym, subst}
use Rattle.ft_model.specs.declared.reply.Shown.TheVariants as shown
use Rattle.ft_bank.specs.Passes.{shape_of}
use Rattle.ft_bank_history.specs.LastContents.{IsShownAs}
use Rattle.ft_reads.proofs.Agreeing.{reads_none}
use Rattle.ft_engine.proofs.ReadContents.{deque_shown}
use Rattle.ft_engine.proofs.contents.read_content.Goals as goal

pub returns-in-Deque-clause-reads : goal.returns-in-Deque-clause-reads
returns-in-Deque-clause-reads c =
    let a = c.args in
    let k = shape_of a.bank.now in
    reads_none k a.c (λ x. IsShownAs k a.c (shown.List c.from_vec.result) x) a.pass.now
    (λ x. subst (λ l. IsShownAs k a.c (shown.List l) x) (sym (c.from_vec.ensures ∙ c.new.ensures.items)) (deque_shown k a.c c.in-Deque.field-0 x (c.requires.kind ∙ c.in-Deque.is)))
