use Rattle.std.proofs.Common.{◌≡◌, ℕ, ◌<◌, ◌≤◌, ◌-◌, ◌+◌, ap, sym, ◌∙◌, subst, arith, ne_eqb}
use prog.Atomic.{either}
use Rattle.std.specs.Prelude.{Bool}
use Rattle.ft_trace.specs.declared.Shape.{Shape}
use Rattle.ft_trace.specs.declared.View.{View}
use Rattle.ft_trace.specs.declared.Act.TheVariants.{Lock}
use Rattle.ft_trace.specs.Addresses.{container_count}
use Rattle.ft_trace.specs.Pictures.{Represents}
use Rattle.ft_trace.specs.declared.Snap.{Snap}
use Rattle.ft_trace.specs.Acts.{view_after}
use Rattle.ft_trace.specs.Holds.{held_unboxed, known_state}
use Rattle.ft_bank.specs.Passes.{view, shape_of}
use Rattle.ft_bank.specs.Rules.{Acted}
use Rattle.ft_bank.specs.Locks.{KeepsOthers}
use Rattle.ft_bank.proofs.KnownAfterSteps.{other_pass, lock_stands, lock_keeps}
use Rattle.ft_bank.proofs.bank.Bank.try_lock.Goals as goal

pub look_as-seen-requires-clause-word : goal.look_as-seen-requires-clause-word
look_as-seen-requires-clause-word c = omega (arith, c.block_of-word.ensures.low)

pub look_as-seen-requires-clause-act : goal.look_as-seen-requires-clause-act
look_as-seen-requires-clause-act c n s some_one = (omega (arith, c.block_of-word.ensures.is), ap (λ (b : Bool). either b (view c.args.pass.now).number n) (ne_eqb n 0 some_one))

pub overflow_cast-result : goal.overflow_cast-result
overflow_cast-result c =
    let v = view c.args.pass.now in
    let low = subst (λ (z : Shape). c.args.o < container_count z) (sym c.requires.pass.1) c.requires.container in
    let d = c.look_as-seen.ensures.did c.if-seen-ne0.true in
    let o = other_pass v c.args.o c.look_as-seen.result d.0 low c.requires.free c.if-seen-ne0.true d.2 in
    omega (arith, o.2)

pub returns-then-seen-ne0-clause-other : goal.returns-then-seen-ne0-clause-other
returns-then-seen-ne0-clause-other c =
    let v = view c.args.pass.now in
    let low = subst (λ (z : Shape). c.args.o < container_count z) (sym c.requires.pass.1) c.requires.container in
    let d = c.look_as-seen.ensures.did c.if-seen-ne0.true in
    let o = other_pass v c.args.o c.look_as-seen.result d.0 low c.requires.free c.if-seen-ne0.true d.2 in
    let up : c.look_as-seen.result - 1 + 1 ≡ c.look_as-seen.result = omega (arith, c.if-seen-ne0.true) in
    let few : c.look_as-seen.result ≤ (shape_of c.args.self.now).passes = subst (λ (z : Shape). c.look_as-seen.result ≤ z.passes) c.requires.pass.1 o.1 in
    ((λ e. o.0 (sym up ∙ e)), omega (arith, c.if-seen-ne0.true, few))

pub returns-then-seen-ne0-clause-keeps : goal.returns-then-seen-ne0-clause-keeps
returns-then-seen-ne0-clause-keeps c =
    let v = view c.args.pass.now in
    let d = c.look_as-seen.ensures.did c.if-seen-ne0.true in
    subst (KeepsOthers c.args.o v) (sym d.1.1) (lock_keeps v c.args.o c.look_as-seen.result d.0 d.2)

pub lock_as-found-requires-clause-word : goal.lock_as-found-requires-clause-word
lock_as-found-requires-clause-word c = omega (arith, c.block_of-word.ensures.low)

-- the view before the lock is put is the one before the load
same_view : (v w : View) (o : ℕ) (f : ℕ) (s : Snap) → w ≡ v → Acted w (Lock o f s) → Acted v (Lock o f s)
same_view v w o f s e d = subst (λ (z : View). Acted z (Lock o f s)) e d

pub overflow_cast-result-then-found-ne0 : goal.overflow_cast-result-then-found-ne0
overflow_cast-result-then-found-ne0 c =
    let v = view c.args.pass.now in
    let e = c.look_as-seen.ensures.none c.if-seen-ne0.false in
    let low = subst (λ (z : Shape). c.args.o < container_count z) (sym c.requires.pass.1) c.requires.container in
    let d = c.lock_as-found.ensures.did in
    let o = other_pass v c.args.o c.lock_as-found.result d.0 low c.requires.free c.if-found-ne0.true (same_view v _ c.args.o c.lock_as-found.result d.0 e.1 d.2) in
    omega (arith, o.2)

pub returns-then-found-ne0-clause-other : goal.returns-then-found-ne0-clause-other
returns-then-found-ne0-clause-other c =
    let v = view c.args.pass.now in
    let e = c.look_as-seen.ensures.none c.if-seen-ne0.false in
    let low = subst (λ (z : Shape). c.args.o < container_count z) (sym c.requires.pass.1) c.requires.container in
    let d = c.lock_as-found.ensures.did in
    let o = other_pass v c.args.o c.lock_as-found.result d.0 low c.requires.free c.if-found-ne0.true (same_view v _ c.args.o c.lock_as-found.result d.0 e.1 d.2) in
    let up : c.lock_as-found.result - 1 + 1 ≡ c.lock_as-found.result = omega (arith, c.if-found-ne0.true) in
    let few : c.lock_as-found.result ≤ (shape_of c.args.self.now).passes = subst (λ (z : Shape). c.lock_as-found.result ≤ z.passes) c.requires.pass.1 o.1 in
    ((λ e. o.0 (sym up ∙ e)), omega (arith, c.if-found-ne0.true, few))

pub returns-then-found-ne0-clause-keeps : goal.returns-then-found-ne0-clause-keeps
returns-then-found-ne0-clause-keeps c =
    let v = view c.args.pass.now in
    let e = c.look_as-seen.ensures.none c.if-seen-ne0.false in
    let d = c.lock_as-found.ensures.did in
    let is = d.1.1 ∙ ap (view_after (Lock c.args.o c.lock_as-found.result d.0)) e.1 in
    subst (KeepsOthers c.args.o v) (sym is) (lock_keeps v c.args.o c.lock_as-found.result d.0 (same_view v _ c.args.o c.lock_as-found.result d.0 e.1 d.2))

pub returns-clause-stands : goal.returns-clause-stands
returns-clause-stands c =
    let v = view c.args.pass.now in
    let o = c.args.o in
    let e = c.look_as-seen.ensures.none c.if-seen-ne0.false in
    let low = subst (λ (z : Shape). o < container_count z) (sym c.requires.pass.1) c.requires.container in
    let d = c.lock_as-found.ensures.did in
    let z = d.0 in
    let acted : Acted v (Lock o 0 z) = subst (λ (f : ℕ). Acted v (Lock o f z)) c.if-found-ne0.false (same_view v _ o c.lock_as-found.result z e.1 d.2) in
    let is : view c.lock_as-found.new.pass ≡ view_after (Lock o 0 z) v = d.1.1 ∙ (ap (view_after (Lock o c.lock_as-found.result z)) e.1 ∙ ap (λ (f : ℕ). view_after (Lock o f z) v) c.if-found-ne0.false) in
    subst (λ (k : Shape). Represents k.texts (held_unboxed o (view c.lock_as-found.new.pass)) (known_state o (view c.lock_as-found.new.pass))) c.requires.pass.1
    (subst (λ (w : View). Represents v.shape.texts (held_unboxed o w) (known_state o w)) (sym is) (lock_stands v o z low c.requires.free acted))

pub returns-clause-keeps : goal.returns-clause-keeps
returns-clause-keeps c =
    let v = view c.args.pass.now in
    let e = c.look_as-seen.ensures.none c.if-seen-ne0.false in
    let d = c.lock_as-found.ensures.did in
    let is = d.1.1 ∙ ap (view_after (Lock c.args.o c.lock_as-found.result d.0)) e.1 in
    subst (KeepsOthers c.args.o v) (sym is) (lock_keeps v c.args.o c.lock_as-found.result d.0 (same_view v _ c.args.o c.lock_as-found.result d.0 e.1 d.2))
