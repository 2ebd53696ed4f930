use Rattle.std.proofs.Common.{◌≡◌, ℤ, refl, sym, ap, ◌∙◌, subst}
use mir.Syntax.{w64}
use mir.Val.{to_z, of_z}
use Rattle.std.proofs.Math.Facts.{to_z-of_z}
use Rattle.ft_model.specs.declared.call.Call.TheVariants as call
use Rattle.ft_model.specs.declared.call.ListCall.TheVariants as list
use Rattle.ft_model.specs.declared.reply.Reply.{Reply}
use Rattle.ft_trace.specs.declared.Act.TheVariants.{Answer}
use Rattle.ft_trace.specs.declared.Shape.{Shape}
use Rattle.ft_trace.specs.Acts.{view_after}
use Rattle.ft_trace.specs.LookReplies.{item_reply}
use Rattle.ft_trace.specs.ContainerStates.{kind_in}
use Rattle.ft_bank.specs.LastLoads.{IsLastBetween}
use Rattle.ft_bank.specs.Passes.{shape_of, view}
use Rattle.ft_bank.specs.Reads.{IsShown}
use Rattle.ft_bank.specs.Whole.{OnlyLoaded}
use Rattle.ft_bank.proofs.LastLoads.{between_last}
use Rattle.ft_search.specs.Lengths.{IsGlanceOf}
use Rattle.ft_search.proofs.Asking.{may_ask, answered_after}
use Rattle.ft_search.proofs.LoadedLooks.{looks_did}
use Rattle.ft_search.proofs.Running.{did_log}
use Rattle.ft_list.specs.Indexes.{ShowsNamed}
use Rattle.ft_list.proofs.Indexes.{get_shown}
use Rattle.ft_list.proofs.indexing.look_between.Goals as goal

pub answer_look-requires-clause-shown : goal.answer_look-requires-clause-shown
answer_look-requires-clause-shown c =
    let a = c.args in
    let o = a.l in
    let k = shape_of a.bank.now in
    let n = c.in-Found.number in
    let found = c.in-Found.found in
    let v = view a.pass.now in
    let w = view c.read_between.new.pass in
    let m = c.in-Found.ensures.looked in
    let same = c.read_between.ensures.pass.1 in
    let z = to_z w64 (of_z w64 a.index) in
    let loaded : OnlyLoaded v w = looks_did m.0 c.args.pass.now c.read_between.new.pass m.1 m.2 in
    let own = did_log m.0 a.pass.now c.read_between.new.pass m.2 in
    let shown : IsShown w (call.List o (list.Get z)) (item_reply found) n = get_shown v w o z found n m.0
    (may_ask v w k o n m.0 loaded m.1 own (between_last o n m.0 m.3.last) same c.requires.container c.requires.left)
    own (ap (λ (x : Shape). kind_in x.starts o) same ∙ c.requires.list) (subst (λ (x : Shape). ShowsNamed x o z found n m.0) (sym same) m.3) in
    subst (λ (r : Reply). IsShown w (call.List o (list.Get z)) r n) (sym c.reply_of.ensures) shown

pub returns-in-Found-clause-looked : goal.returns-in-Found-clause-looked
returns-in-Found-clause-looked c =
    let a = c.args in
    let o = a.l in
    let n = c.in-Found.number in
    let v = view a.pass.now in
    let w = view c.read_between.new.pass in
    let x = view c.answer_look.new.pass in
    let m = c.in-Found.ensures.looked in
    let z = to_z w64 (of_z w64 a.index) in
    let index : z ≡ a.index = to_z-of_z {w = w64} {z = a.index} c.ranges.index in
    let loaded : OnlyLoaded v w = looks_did m.0 c.args.pass.now c.read_between.new.pass m.1 m.2 in
    let own = did_log m.0 a.pass.now c.read_between.new.pass m.2 in
    let did = subst (λ (i : ℤ). x ≡ view_after (Answer (call.List o (list.Get i)) c.reply_of.result n) w) index c.answer_look.ensures.did.1 in
    let answered = answered_after (IsLastBetween o n) v w x (call.List o (list.Get a.index)) c.reply_of.result n m.0 loaded own (between_last o n m.0 m.3.last) did a.pass.now.settled c.answer_look.new.pass.possible m.3.last in
    subst (λ r. IsGlanceOf o (call.List o (list.Get a.index)) v x r) (sym c.answer_look.ensures.done)
    (answered.0, refl, answered.1)

pub returns-in-Contended-clause-looked : goal.returns-in-Contended-clause-looked
returns-in-Contended-clause-looked c =
    let v = view c.args.pass.now in
    let m = c.in-Contended.ensures.looked in
    record {
      loaded = looks_did m.0 c.args.pass.now c.read_between.new.pass m.1 m.2;
      part = m.0;
      looks = m.1;
      own = did_log m.0 c.args.pass.now c.read_between.new.pass m.2;
      stops = m.3;
    }
