use Rattle.std.proofs.Common.{[], refl, subst, sym}
use Rattle.ft_trace.specs.declared.Act.TheVariants.{ReadCounter}
use Rattle.ft_trace.specs.Acts.{view_after}
use Rattle.ft_bank.specs.Passes.{view}
use Rattle.ft_section.specs.declared.answers.Stamp.{Stamp}
use Rattle.ft_search.specs.MadeCalls.{MadeAs}
use Rattle.ft_search.proofs.Asking.{answered_locked, held_shown}
use Rattle.ft_search.proofs.Calling.{answered_as, loaded_same, shown_replied}
use Rattle.ft_search.proofs.answering.answer_made.Goals as goal

pub answer_held-requires-clause-shown : goal.answer_held-requires-clause-shown
answer_held-requires-clause-shown c n =
    let v = view c.args.pass.now in
    let x = c.requires.shown in
    held_shown v v n (loaded_same v) c.requires.left c.args.called.now c.args.said x.read x.cursor (shown_replied c.args.called.now c.args.said v n x) (λ stored. x.cause stored (view_after (ReadCounter n) v) n)

pub returns-clause-made : goal.returns-clause-made
returns-clause-made c =
    let v = view c.args.pass.now in
    let w = view c.answer_held.new.pass in
    let n = c.answer_held.result.1.number in
    let x = c.requires.shown in
    let e = c.answer_held.ensures in
    let one = answered_as c.args.called.now c.args.said n v w x.read x.replied e.did.1 (answered_locked v v w c.args.called.now c.args.said n [] (loaded_same v) refl e.did.1 c.args.pass.now.settled c.answer_held.new.pass.possible) in
    subst (λ (z : Stamp). MadeAs c.args.called.now c.args.said z v w) (λ d. record { number = n; wrote = sym e.said.1 d }) one
