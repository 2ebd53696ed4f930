use Rattle.std.proofs.Common.{◌≡◌, ℤ, ◌∙◌, refl, sym, subst}
use Rattle.ft_model.specs.declared.reply.Reply.{Reply}
use Rattle.ft_trace.specs.declared.Act.TheVariants.{Answer}
use Rattle.ft_trace.specs.Acts.{view_after}
use mir.Syntax.{w64}
use Rattle.std.specs.Prelude.{pos}
use Rattle.std.proofs.Math.Facts.{to_z-of_z}
use Rattle.ft_model.specs.declared.call.Call.TheVariants as call
use Rattle.ft_model.specs.declared.call.ListCall.TheVariants as list
use Rattle.ft_bank.specs.Passes.{view}
use Rattle.ft_bank.specs.Reads.{IsShown}
use Rattle.ft_search.specs.KeyLooks.{EndsLook}
use Rattle.ft_search.proofs.Asking.{looked_after}
use Rattle.ft_list.specs.ItemLooks.{IsGetOf}
use Rattle.ft_list.proofs.gets.look_item.Goals as goal

pub answer_look-requires-clause-shown : goal.answer_look-requires-clause-shown
answer_look-requires-clause-shown c =
    subst (λ (x : ℤ × Reply). IsShown (view c.find_value.new.pass) (call.List c.args.l (list.Get x.0)) x.1 c.in-Found.number)
    (λ d. (sym (to_z-of_z {w = w64} {z = c.signed.result} (record { sfits = c.signed.type_inv }) ∙ c.signed.ensures) d, sym c.reply_of.ensures d)) c.in-Found.ensures.found.1

pub returns-in-Found-clause-looked : goal.returns-in-Found-clause-looked
returns-in-Found-clause-looked c =
    let v = view c.args.pass.now in
    let w = view c.find_value.new.pass in
    let z = view c.answer_look.new.pass in
    let called = call.List c.args.l (list.Get (pos c.args.index)) in
    let f = c.in-Found.ensures.found in
    let n = c.in-Found.number in
    let did = subst (λ (i : ℤ). z ≡ view_after (Answer (call.List c.args.l (list.Get i)) c.reply_of.result n) w) (to_z-of_z {w = w64} {z = c.signed.result} (record { sfits = c.signed.type_inv }) ∙ c.signed.ensures) c.answer_look.ensures.did.1 in
    let a = looked_after (EndsLook c.args.l n) v w z called c.reply_of.result n f.2.0 f.0 f.2.1 f.2.2 did c.args.pass.now.settled c.answer_look.new.pass.possible f.2.3 in
    subst (λ r. IsGetOf c.args.l c.args.index v z r) (sym c.answer_look.ensures.done)
    (a.0, refl, a.1)
