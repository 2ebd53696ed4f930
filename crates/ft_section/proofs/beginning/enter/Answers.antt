use Rattle.std.proofs.Common.{◌≡◌, List, ◌++◌, ◌∷◌, [], inl, sym, ap, ◌∙◌, subst}
use Rattle.ft_bank.specs.declared.sections.OpenSection.{OpenSection}
use Rattle.ft_bank.specs.declared.sections.Taking.{Taking}
use Rattle.ft_bank.specs.Passes.{view, IsPassOf}
use Rattle.ft_bank.specs.PassSections.{Stack, stack_of, nothing_taken}
use Rattle.ft_model.specs.declared.call.Call.{Call}
use Rattle.ft_model.specs.declared.reply.Reply.TheVariants as reply
use Rattle.ft_section.specs.Ready.{InCall}
use Rattle.ft_section.specs.Sectioning.{begin_of, answered_view}
use Rattle.ft_section.proofs.OpenedSections.{entered, in_order}
use Rattle.ft_trace.specs.declared.View.{View}
use Rattle.ft_section.proofs.beginning.enter.Goals as goal

pub returns-clause-resume : goal.returns-clause-resume
returns-clause-resume c =
    let b = c.args.bank.now in
    let p = c.args.pass.now in
    let s = stack_of p in
    let r = c.put_own.new.self in
    let n = c.make_entry-number.result in
    let call = c.begin_call-call.ensures.call in
    let same : view r ≡ answered_view (begin_of c.args.objects) reply.Entered n (view p) =
    c.put_own.ensures.view.1 ∙ (c.put_sections.ensures.view.1 ∙ (c.make_entry-number.ensures.view ∙ ap (λ (x : Call). answered_view x reply.Entered n (view p)) call)) in
    let mid = stack_of c.make_entry-number.new.pass in
    let pushed : c.push.new.self ≡ mid.sections ++ record { locks = mid.own; marks = 0 } ∷ [] =
    c.push.ensures ∙ (ap (λ (xs : List OpenSection). xs ++ record { locks = c.own.result; marks = 0 } ∷ []) (c.copied-sections.ensures ∙ c.sections.ensures)
    ∙ ap (λ (t : Taking). mid.sections ++ record { locks = t; marks = 0 } ∷ []) c.own.ensures) in
    let stack : stack_of r ≡ record s { sections = s.sections ++ record { locks = s.own; marks = 0 } ∷ []; own = nothing_taken } =
    c.put_own.ensures.stack ∙ (ap (λ (x : Stack). record x { own = nothing_taken }) c.put_sections.ensures.stack
    ∙ (ap (λ (xs : List OpenSection). record mid { sections = xs; own = nothing_taken }) pushed
    ∙ ap (λ (x : Stack). record x { sections = x.sections ++ record { locks = x.own; marks = 0 } ∷ []; own = nothing_taken }) c.make_entry-number.ensures.stack.1)) in
    let pass : IsPassOf b r = (c.put_own.ensures.view.0 ∙ (c.put_sections.ensures.view.0 ∙ (c.make_entry-number.ensures.stack.0 ∙ c.requires.making.inside.0.0)), ap (λ (v : View). v.shape) same ∙ c.requires.making.inside.0.1) in
    let inside = entered b p c.args.objects n c.requires.making c.requires.containers c.requires.has c.requires.noted (in_order c.args.objects) in
    let own = ap (λ (x : Stack). x.own) stack in
    record {
      inside = (pass, subst (InCall (view r)) (sym stack) (subst (λ (v : View). InCall v (record s { sections = s.sections ++ record { locks = s.own; marks = 0 } ∷ []; own = nothing_taken })) (sym same) inside));
      own = λ outer top cut. inl own;
      none = λ nil. own;
    }
