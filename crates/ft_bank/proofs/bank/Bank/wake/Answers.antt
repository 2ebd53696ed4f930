use Rattle.std.proofs.Common.{◌≡◌, ◌≢◌, ℕ, ◌+◌, List, ◌++◌, refl, sym, ap, ◌∙◌, subst, arith, append-nil}
use Rattle.ft_trace.specs.declared.Shape.{Shape}
use Rattle.ft_trace.specs.declared.View.{View}
use Rattle.ft_trace.specs.declared.Act.TheVariants.{TakeFloor}
use Rattle.ft_trace.specs.Addresses.{counter}
use Rattle.ft_trace.specs.Acts.{view_after, both}
use Rattle.ft_trace.specs.Traces.{IsReachable, IsFree, IsAwake}
use Rattle.ft_trace.proofs.Addresses.{at_low}
use Rattle.ft_bank.specs.Passes.{shape_of}
use Rattle.ft_bank.specs.Shapes.{plan}
use Rattle.ft_bank.specs.Rules.{Acted}
use Rattle.ft_bank.proofs.Allowed.{acted_possible, glues, kept}
use Rattle.ft_bank.proofs.Retiring.{retired_by, retired_noted}
use Rattle.ft_bank.proofs.Floors.{tokens_free, floor_settles, floor_brought}
use Rattle.ft_bank.proofs.bank.Bank.wake.Goals as goal

pub join_seat-requires : goal.join_seat-requires
join_seat-requires c =
    let r = c.args.resting in
    let t = c.args.tokens in
    let live : r.seat.me.0.number ≢ 0 = (λ e. let n = r.numbered in omega (arith, e, n)) in
    let last : t.seat.me.0.next ≡ 0 = ap (λ (u : View). u.next) t.blank in
    let free : IsFree t.seat.me.0 = subst IsFree (sym t.blank) (tokens_free t.seat.me.0.tokens t.seat.me.0.learnt t.seat.me.0.floor t.seat.me.0.told) in
    (c.requires.resting.0, c.requires.tokens, t.bare, omega (arith, c.args.self.now.wide, at_low (plan c.args.self.now.shape) counter tt), glues (plan c.args.self.now.table.shared.key) _ _ _ _ live last free)

pub load-requires : goal.load-requires
load-requires c =
    let r = c.args.resting in
    let t = c.args.tokens in
    let s = c.join_seat.new.seat in
    let e = ap (λ m. m.0) c.join_seat.ensures.2 in
    let token = t.some_token in
    let number : s.me.0.number ≡ r.seat.me.0.number = ap (λ (v : View). v.number) e in
    let tokens : s.me.0.tokens ≡ r.seat.me.0.tokens + t.seat.me.0.tokens = ap (λ (v : View). v.tokens) e in
    let shape : s.me.0.shape ≡ shape_of c.args.self.now = ap (λ (v : View). v.shape) e ∙ c.requires.resting.1 in
    let live : IsAwake s.me.0 = ((λ z. let n = r.numbered in omega (arith, z, n, number)), omega (arith, token, tokens)) in
    let passes : s.me.0.shape.passes ≡ (shape_of c.args.self.now).passes = ap (λ (z : Shape). z.passes) shape in
    let all : s.me.0.tokens ≡ s.me.0.shape.passes = (let none = r.still in let a = c.requires.all in omega (arith, tokens, none, a, passes)) in (
      c.join_seat.ensures.0 ∙ c.requires.resting.0,
      omega (arith, c.args.self.now.wide, at_low (plan c.args.self.now.shape) counter tt),
      kept s.me s.id 0 (λ n. n) live (λ n s. TakeFloor n s) (λ n s. (refl, λ m. refl)) (λ es id knows low. (refl, (all, refl))) (plan c.args.self.now.table.shared.key) _,
    )

pub invariant_of-result : goal.invariant_of-result
invariant_of-result c =
    let r = c.args.resting in
    let t = c.args.tokens in
    let b = both r.seat.me.0 t.seat.me.0 in
    let j = c.join_seat.ensures.2 in
    let snap = c.load.ensures.2.0 in
    let e = c.load.ensures.2.1 in
    let n = c.load.result in
    let same = e.0 ∙ ap (λ m. view_after (TakeFloor n snap) m.0) j in
    let acted = subst (λ (v : View). Acted v (TakeFloor n snap)) (ap (λ m. m.0) j) e.2 in
    let none : t.seat.me.0.left ≡ 0 = ap (λ (u : View). u.left) t.blank in
    let token = t.some_token in record {
      bare = e.1 ∙ (ap (λ m. m.1) j ∙ r.bare);
      numbered = ap (λ (v : View). v.number) same ∙ r.numbered;
      following = r.following ∙ sym (ap (λ (v : View). v.next) same);
      leaves = omega (arith, r.leaves, none, ap (λ (v : View). v.left) same);
      awake = omega (arith, token, ap (λ (v : View). v.tokens) same);
      settled = floor_settles b n snap _ same acted;
      retiring = retired_by _ b _ (TakeFloor n snap) same (λ t b. refl) (retired_noted _ r.seat.me.0 t.seat.me.0 (ap (λ (u : View). u.log) t.blank) r.retiring);
      possible = ∣ subst IsReachable (sym same) (acted_possible b (TakeFloor n snap) acted) ∣₁;
    }

pub returns-clause-view : goal.returns-clause-view
returns-clause-view c =
    let r = c.args.resting in
    let t = c.args.tokens in
    let b = both r.seat.me.0 t.seat.me.0 in
    let j = c.join_seat.ensures.2 in
    let snap = c.load.ensures.2.0 in
    let e = c.load.ensures.2.1 in
    let n = c.load.result in
    let acted = subst (λ (v : View). Acted v (TakeFloor n snap)) (ap (λ m. m.0) j) e.2 in
    let words : b.floor ≡ t.seat.me.0.floor = ap (λ (l : List ℕ). t.seat.me.0.floor ++ l) r.wordless ∙ append-nil t.seat.me.0.floor in
    (n, snap, e.0 ∙ ap (λ m. view_after (TakeFloor n snap) m.0) j, λ some_words. floor_brought b n snap acted (λ z. some_words (sym words ∙ z)) ∙ words)
