use Rattle.std.proofs.Common.{refl, ◌∙◌, sym, ap, subst, le_trans, arith}
use Rattle.std.proofs.Math.Nat.{le-max_left, le-max_right}
use Rattle.ft_trace.specs.declared.View.{View}
use Rattle.ft_trace.specs.declared.Act.TheVariants.{ReadCounter}
use Rattle.ft_trace.specs.Acts.{both, shown, view_after}
use Rattle.ft_trace.specs.Traces.{IsReachable, IsFree}
use Rattle.ft_bank.specs.Passes.{view}
use Rattle.ft_bank.proofs.Allowed.{acted_possible, alive, token_kept}
use Rattle.ft_bank.proofs.Seen.{load_sees, load_settles, knowing_is, slip_free, taken_in}
use Rattle.ft_bank.proofs.Retiring.{retired_by, retired_noted}
use Rattle.ft_bank.proofs.bank.Bank.learn.Goals as goal

pub settle_as-requires-clause-live : goal.settle_as-requires-clause-live
settle_as-requires-clause-live c = let p = c.args.pass.now in alive _ (view p) p.numbered p.awake

pub settle_as-requires-clause-last : goal.settle_as-requires-clause-last
settle_as-requires-clause-last c = ap (λ (v : View). v.next) c.args.note.blank

pub settle_as-requires-clause-free : goal.settle_as-requires-clause-free
settle_as-requires-clause-free c = subst IsFree (sym c.args.note.blank) (slip_free c.args.note.seat.me.0.learnt c.args.note.seat.me.0.told)

pub invariant_of-pass : goal.invariant_of-pass
invariant_of-pass c =
    let p = c.args.pass.now in
    let v = view p in
    let w = c.args.note.seat.me.0 in
    let d = c.settle_as.ensures.view in
    let e = d.1 in
    let k = e ∙ (ap (λ (u : View). view_after (ReadCounter d.0) (both v u)) c.args.note.blank ∙ knowing_is w.learnt d.0 w.told v) in record {
      bare = c.settle_as.ensures.bare ∙ p.bare;
      numbered = ap (λ (v : View). v.number) e ∙ p.numbered;
      following = p.following ∙ sym (ap (λ (v : View). v.next) e);
      leaves = p.leaves ∙ sym (ap (λ (v : View). v.left) k);
      awake = token_kept _ _ (ap (λ (v : View). v.tokens) k) p.awake;
      settled = load_settles (both v w) d.0 _ e d.2;
      retiring = retired_by _ (both v w) _ (ReadCounter d.0) e (λ t b. refl) (retired_noted _ v w (ap (λ (u : View). u.log) c.args.note.blank) p.retiring);
      possible = ∣ subst IsReachable (sym e) (acted_possible (both v w) (ReadCounter d.0) d.2) ∣₁;
    }

pub returns-clause-view : goal.returns-clause-view
returns-clause-view c =
    let v = view c.args.pass.now in
    let w = c.args.note.seat.me.0 in
    let d = c.settle_as.ensures.view in
    let k = d.1 ∙ (ap (λ (u : View). view_after (ReadCounter d.0) (both v u)) c.args.note.blank ∙ knowing_is w.learnt d.0 w.told v) in
    let low = load_sees (both v w) d.0 d.2 in
    (d.0, k, le_trans (le_trans (taken_in v w) (le-max_left (both v w).learnt (shown v.log))) low, le_trans (le-max_right (both v w).learnt (shown v.log)) low)

pub returns-clause-seen : goal.returns-clause-seen
returns-clause-seen c =
    let v = view c.args.pass.now in
    let w = c.args.note.seat.me.0 in
    let d = c.settle_as.ensures.view in
    let low = load_sees (both v w) d.0 d.2 in
    let log = ap (λ (u : View). shown u.log) d.1 in
    let up = le-max_right (shown v.log) d.0 in
    let said = le_trans (le_trans (taken_in v w) (le-max_left (both v w).learnt (shown v.log))) low in
    let before = le-max_left (shown v.log) d.0 in
    (omega (arith, said, up, log), omega (arith, before, log))
