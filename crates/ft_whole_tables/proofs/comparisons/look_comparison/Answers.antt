use Rattle.std.proofs.Common.{◌≡◌, inl, inr, sym, ◌∙◌, subst}
use Rattle.ft_model.specs.declared.call.Call.{Call}
use Rattle.ft_model.specs.declared.reply.Reply.TheVariants as reply
use Rattle.ft_trace.specs.declared.Act.TheVariants.{Answer}
use Rattle.ft_trace.specs.Acts.{view_after}
use Rattle.ft_bank.specs.Passes.{shape_of, view}
use Rattle.ft_bank.specs.Reads.{IsShown}
use Rattle.ft_reads.specs.Pairs.{IsGlanceOfBoth}
use Rattle.ft_reads.proofs.Windowed.{saw_both_answered, saw_both_shown, saw_first_stopped, saw_other_stopped}
use Rattle.ft_whole_tables.specs.Comparisons.{IsComparedAs, compared}
use Rattle.ft_whole_tables.proofs.Compared.{compared_plain, compared_reply}
use Rattle.ft_whole_tables.proofs.comparisons.look_comparison.Goals as goal

pub answer_look-requires-clause-shown : goal.answer_look-requires-clause-shown
answer_look-requires-clause-shown c =
    let a = c.args in
    let k = shape_of a.bank.now in
    let b = c.compare_between-is_so in
    let is_so = b.result.0 in
    subst (λ (z : Call). IsShown (view b.new.pass) z (reply.Truth is_so) b.result.1.number) (sym c.call_of-called.ensures)
    (saw_both_shown k a.c a.other (IsComparedAs k a.how is_so) b.result.1 b.result.2 a.pass.now b.new.pass b.ensures.saw (compared a.how a.c a.other) (reply.Truth is_so) (compared_plain a.how a.c a.other is_so) (λ e. absurd (cc))
    (λ x y stored is is' stands stands' shows. compared_reply k a.how a.c a.other is_so x y stored (is ∙ c.requires.kind) (is' ∙ c.requires.other_kind) stands stands' shows)
    (c.has_moved.ensures.still c.if-has_moved.false) (c.has_moved-2.ensures.still c.if-has_moved-2.false) b.ensures.pass.1 c.requires.container c.requires.other c.requires.left)

pub returns-then-has_moved-clause-looked : goal.returns-then-has_moved-clause-looked
returns-then-has_moved-clause-looked c =
    let a = c.args in
    let k = shape_of a.bank.now in
    let b = c.compare_between-is_so in
    inl (saw_first_stopped k a.c a.other (IsComparedAs k a.how b.result.0) b.result.1 b.result.2 a.pass.now b.new.pass b.ensures.saw (c.has_moved.ensures.moved c.if-has_moved.true))

pub returns-then-has_moved-2-clause-looked : goal.returns-then-has_moved-2-clause-looked
returns-then-has_moved-2-clause-looked c =
    let a = c.args in
    let k = shape_of a.bank.now in
    let b = c.compare_between-is_so in
    inr (saw_other_stopped k a.c a.other (IsComparedAs k a.how b.result.0) b.result.1 b.result.2 a.pass.now b.new.pass b.ensures.saw (c.has_moved-2.ensures.moved c.if-has_moved-2.true))

pub returns-clause-looked : goal.returns-clause-looked
returns-clause-looked c =
    let a = c.args in
    let k = shape_of a.bank.now in
    let b = c.compare_between-is_so in
    let is_so = b.result.0 in
    let called = compared a.how a.c a.other in
    let z = view c.answer_look.new.pass in
    let did = subst (λ (x : Call). z ≡ view_after (Answer x (reply.Truth is_so) b.result.1.number) (view b.new.pass)) c.call_of-called.ensures c.answer_look.ensures.did.1 in
    subst (λ r. IsGlanceOfBoth a.c a.other called (view a.pass.now) z r) (sym c.answer_look.ensures.done)
    (saw_both_answered k a.c a.other (IsComparedAs k a.how is_so) b.result.1 b.result.2 a.pass.now b.new.pass b.ensures.saw called (reply.Truth is_so) z did a.pass.now.settled c.answer_look.new.pass.possible (c.has_moved.ensures.still c.if-has_moved.false) (c.has_moved-2.ensures.still c.if-has_moved-2.false))
