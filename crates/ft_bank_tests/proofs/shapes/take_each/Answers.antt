use Rattle.std.proofs.Common.{◌≡◌, List, [], ◌∷◌, ◌++◌, Option, ap, ◌∙◌, subst}
use Rattle.std.specs.Option.{option_to_list}
use Rattle.ft_trace.specs.declared.View.{View}
use Rattle.ft_trace.specs.Acts.{flight, owes}
use Rattle.ft_bank.specs.declared.pass.Pass.{Pass}
use Rattle.ft_bank.specs.NewPasses.{AreOpening}
use Rattle.ft_bank_tests.proofs.Opening.{opening_front, opening_last}
use Rattle.ft_bank_tests.proofs.shapes.take_each.Goals as goal

pub take_table-requires-clause-pass : goal.take_table-requires-clause-pass
take_table-requires-clause-pass c =
    let rest = c.pop.new.self.items in
    let items : c.loop-pass.passes.items ≡ rest ++ c.in-Some.pass ∷ [] = c.pop.ensures.items ∙ ap (λ (z : Option Pass). rest ++ option_to_list z) c.in-Some.is in
    let last = opening_last c.args.bank.now 0 rest c.in-Some.pass (subst (λ (l : List Pass). AreOpening c.args.bank.now 0 l) items c.loop-pass.invariant) in
    last.1.0

pub take_table-requires-clause-idle : goal.take_table-requires-clause-idle
take_table-requires-clause-idle c =
    let rest = c.pop.new.self.items in
    let items : c.loop-pass.passes.items ≡ rest ++ c.in-Some.pass ∷ [] = c.pop.ensures.items ∙ ap (λ (z : Option Pass). rest ++ option_to_list z) c.in-Some.is in
    let last = opening_last c.args.bank.now 0 rest c.in-Some.pass (subst (λ (l : List Pass). AreOpening c.args.bank.now 0 l) items c.loop-pass.invariant) in
    ap (λ (v : View). flight v.log) last.1.1

pub take_table-requires-clause-none : goal.take_table-requires-clause-none
take_table-requires-clause-none c =
    let rest = c.pop.new.self.items in
    let items : c.loop-pass.passes.items ≡ rest ++ c.in-Some.pass ∷ [] = c.pop.ensures.items ∙ ap (λ (z : Option Pass). rest ++ option_to_list z) c.in-Some.is in
    let last = opening_last c.args.bank.now 0 rest c.in-Some.pass (subst (λ (l : List Pass). AreOpening c.args.bank.now 0 l) items c.loop-pass.invariant) in
    ap (λ (v : View). owes v.log) last.1.1

pub loop-pass-preserved : goal.loop-pass-preserved
loop-pass-preserved c =
    let rest = c.pop.new.self.items in
    let items : c.loop-pass.passes.items ≡ rest ++ c.in-Some.pass ∷ [] = c.pop.ensures.items ∙ ap (λ (z : Option Pass). rest ++ option_to_list z) c.in-Some.is in
    opening_front c.args.bank.now 0 rest c.in-Some.pass (subst (λ (l : List Pass). AreOpening c.args.bank.now 0 l) items c.loop-pass.invariant)
