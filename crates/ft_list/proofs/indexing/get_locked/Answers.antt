use Rattle.std.proofs.Common.{◌≡◌, ◌<◌, ℤ, sym, ap, ◌∙◌, subst}
use mir.Syntax.{w64}
use mir.Val.{to_z, of_z}
use Rattle.std.proofs.Math.Facts.{to_z-of_z}
use Rattle.ft_model.specs.declared.call.Call.TheVariants as call
use Rattle.ft_model.specs.declared.call.ListCall.TheVariants as list
use Rattle.ft_model.specs.declared.reply.Reply.{Reply}
use Rattle.ft_trace.specs.declared.Act.TheVariants.{ReadCounter}
use Rattle.ft_trace.specs.declared.Shape.{Shape}
use Rattle.ft_trace.specs.Acts.{view_after}
use Rattle.ft_trace.specs.Addresses.{container_count}
use Rattle.ft_trace.specs.LookReplies.{item_reply}
use Rattle.ft_trace.specs.ContainerStates.{kind_in}
use Rattle.ft_bank.specs.Answered.{Answered}
use Rattle.ft_bank.specs.Passes.{shape_of, view}
use Rattle.ft_bank.specs.Reads.{IsShown}
use Rattle.ft_search.proofs.Asking.{answered_locked}
use Rattle.ft_search.proofs.Running.{did_log}
use Rattle.ft_list.specs.Indexes.{IsItemNamed}
use Rattle.ft_list.proofs.Indexes.{reads_held, get_held}
use Rattle.ft_reads.proofs.Agreeing.{reads_loaded}
use Rattle.ft_list.proofs.indexing.get_locked.Goals as goal

pub answer_held-requires-clause-shown : goal.answer_held-requires-clause-shown
answer_held-requires-clause-shown c n =
    let a = c.args in
    let o = a.l in
    let k = shape_of a.bank.now in
    let p = a.pass.now in
    let q = c.read_named-found.new.pass in
    let found = c.read_named-found.result in
    let r = c.read_named-found.ensures.reads in
    let same = c.requires.pass.1 in
    let z = to_z w64 (of_z w64 a.index) in
    let low = subst (λ (x : Shape). o < container_count x) (sym same) c.requires.container in
    let held = reads_held k o z found p q r same c.requires.container (ap (λ (x : Shape). kind_in x.starts o) same ∙ c.requires.list) c.requires.locked c.requires.stands in
    let shown : IsShown (view_after (ReadCounter n) (view q)) (call.List o (list.Get z)) (item_reply found) n = get_held (view p) (view q) o z found n (reads_loaded k o (IsItemNamed k z found) p q r) c.requires.left low c.requires.locked held in
    subst (λ (x : Reply). IsShown (view_after (ReadCounter n) (view q)) (call.List o (list.Get z)) x n) (sym c.reply_of.ensures) shown

pub returns-clause-answered : goal.returns-clause-answered
returns-clause-answered c =
    let a = c.args in
    let o = a.l in
    let k = shape_of a.bank.now in
    let p = a.pass.now in
    let q = c.read_named-found.new.pass in
    let found = c.read_named-found.result in
    let r = c.read_named-found.ensures.reads in
    let n = c.answer_held.result.1.number in
    let v = view p in
    let x = view c.answer_held.new.pass in
    let z = to_z w64 (of_z w64 a.index) in
    let index : z ≡ a.index = to_z-of_z {w = w64} {z = a.index} c.ranges.index in
    subst (λ (y : ℤ × Reply). Answered (call.List o (list.Get y.0)) y.1 n v x) (λ d. (index d, sym c.answer_held.ensures.said.0 d))
    (answered_locked v (view q) x (call.List o (list.Get z)) c.reply_of.result n r.0 (reads_loaded k o (IsItemNamed k z found) p q r) (did_log r.0 p q r.2) c.answer_held.ensures.did.1 p.settled c.answer_held.new.pass.possible)
