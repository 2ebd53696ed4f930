use Rattle.std.proofs.Common.{◌≡◌, ◌≢◌, ◌+◌, ℕ, refl, sym, ap, ◌∙◌, subst, arith}
use Rattle.std.specs.Prelude.{if◌then◌else◌}
use Rattle.ft_bank.specs.declared.sections.Taking.{Taking}
use Rattle.ft_bank.specs.PassSections.{Stack, stack_of, taken_in}
use Rattle.ft_section.specs.LockTakings.{IsOwnFor}
use Rattle.ft_section.specs.Locking.{at_one, with_own}
use Rattle.ft_section.proofs.InCalls.{took_pass, tried_pass, own_pass, named, named_same}
use Rattle.ft_section.proofs.locks.take_lower.Goals as goal

pub returns-in-Ok-clause-inside : goal.returns-in-Ok-clause-inside
returns-in-Ok-clause-inside c =
    let lower = c.args.lower in
    let own = (stack_of c.args.pass.now).own in
    let before : (o : ℕ) → taken_in o (named lower c.args.upper c.own-before.result) ≡ taken_in o own = λ o.
    ap (λ (t : Taking). taken_in o (named lower c.args.upper t)) c.own-before.ensures ∙ named_same lower c.args.upper own c.requires.own o in
    took_pass c.args.bank.now c.args.pass.now c.take_one.new.pass c.put_own.new.self (λ o. if c.in-Ok.now then at_one lower o else 0) c.noting_lower.result c.requires.inside c.in-Ok.ensures.stack c.in-Ok.ensures.took
    (λ o. c.noting_lower.ensures.taken o ∙ ap (λ (n : ℕ). n + (if c.in-Ok.now then at_one lower o else 0)) (before o))
    c.put_own.ensures.view c.put_own.ensures.stack

pub returns-in-Err-clause-inside : goal.returns-in-Err-clause-inside
returns-in-Err-clause-inside c =
    let lower = c.args.lower in
    let upper = c.args.upper in
    let tried = c.take_one.new.pass in
    let kept : stack_of tried ≡ stack_of c.args.pass.now = c.in-Err.ensures.stack.1 in
    own_pass c.args.bank.now tried c.put_own-in-Err.new.self lower upper
    (tried_pass c.args.bank.now c.args.pass.now tried c.requires.inside c.in-Err.ensures.stack c.in-Err.ensures.none)
    (subst (λ (s : Stack). IsOwnFor lower upper s.own) (sym kept) c.requires.own) c.put_own-in-Err.ensures.view
    (c.put_own-in-Err.ensures.stack ∙ ap (λ (t : Taking). with_own (stack_of tried) (named lower upper t)) (c.own-before.ensures ∙ ap (λ (s : Stack). s.own) (sym kept)))
