use Rattle.std.proofs.Common.{◌≡◌, refl, sym, ap, ◌∙◌, subst}
use Rattle.ft_model.specs.declared.reply.Reply.TheVariants as reply
use Rattle.ft_trace.specs.declared.Shape.{Shape}
use Rattle.ft_trace.specs.ContainerStates.{kind_in}
use Rattle.ft_bank.specs.LastLoads.{IsLastBetween}
use Rattle.ft_bank.specs.Passes.{shape_of, view}
use Rattle.ft_bank.specs.Whole.{OnlyLoaded}
use Rattle.ft_bank.proofs.LastLoads.{between_last}
use Rattle.ft_search.specs.Lengths.{len_of, IsGlanceOf}
use Rattle.ft_search.proofs.Asking.{may_ask, answered_after}
use Rattle.ft_search.proofs.Lengths.{len_shown}
use Rattle.ft_search.proofs.LoadedLooks.{looks_did}
use Rattle.ft_search.proofs.Running.{did_log}
use Rattle.ft_search.proofs.lens.look_len.Goals as goal

pub answer_look-requires-clause-shown : goal.answer_look-requires-clause-shown
answer_look-requires-clause-shown c =
    let o = c.args.o in
    let n = c.in-Seen.number in
    let count = c.in-Seen.count in
    let v = view c.args.pass.now in
    let w = view c.look_count.new.pass in
    let m = c.in-Seen.ensures.looked in
    let same = c.look_count.ensures.pass.1 in
    let loaded : OnlyLoaded v w = looks_did m.0 c.args.pass.now c.look_count.new.pass m.1 m.2 in
    let own = did_log m.0 c.args.pass.now c.look_count.new.pass m.2 in
    let is : c.args.call.now ≡ len_of (kind_in w.shape.starts o) o = c.requires.call ∙ ap (λ (k : Shape). len_of (kind_in k.starts o) o) (sym same) in
    len_shown v w c.args.call.now o count n m.0
    (may_ask v w (shape_of c.args.bank.now) o n m.0 loaded m.1 own (between_last o n m.0 m.3.last) same c.requires.container c.requires.left)
    own is m.3

pub returns-in-Seen-clause-looked : goal.returns-in-Seen-clause-looked
returns-in-Seen-clause-looked c =
    let o = c.args.o in
    let n = c.in-Seen.number in
    let count = c.in-Seen.count in
    let v = view c.args.pass.now in
    let w = view c.look_count.new.pass in
    let z = view c.answer_look.new.pass in
    let m = c.in-Seen.ensures.looked in
    let loaded : OnlyLoaded v w = looks_did m.0 c.args.pass.now c.look_count.new.pass m.1 m.2 in
    let own = did_log m.0 c.args.pass.now c.look_count.new.pass m.2 in
    let a = answered_after (IsLastBetween o n) v w z c.args.call.now (reply.Count count) n m.0 loaded own (between_last o n m.0 m.3.last) c.answer_look.ensures.did.1 c.args.pass.now.settled c.answer_look.new.pass.possible m.3.last in
    subst (λ r. IsGlanceOf o c.args.call.now v z r) (sym c.answer_look.ensures.done)
    (a.0, refl, a.1)

pub returns-in-Contended-clause-looked : goal.returns-in-Contended-clause-looked
returns-in-Contended-clause-looked c =
    let v = view c.args.pass.now in
    let m = c.in-Contended.ensures.looked in
    record {
      loaded = looks_did m.0 c.args.pass.now c.look_count.new.pass m.1 m.2;
      part = m.0;
      looks = m.1;
      own = did_log m.0 c.args.pass.now c.look_count.new.pass m.2;
      stops = m.3;
    }
