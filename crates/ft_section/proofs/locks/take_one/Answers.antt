use Rattle.std.proofs.Common.{◌≡◌, ◌<◌, ◌+◌, ◌∙◌, false, [], sym, ap, subst, arith}
use Rattle.ft_bank.specs.Locks.{KeepsOthers}
use Rattle.ft_bank.specs.Passes.{shape_of, view}
use Rattle.ft_section.specs.Locking.{TookLocks, at_one}
use Rattle.ft_section.proofs.Gains.{took_lock, tried_lock}
use Rattle.ft_trace.specs.declared.Act.TheVariants.{Lock}
use Rattle.ft_trace.specs.declared.Shape.{Shape}
use Rattle.ft_trace.specs.declared.View.{View}
use Rattle.ft_trace.specs.Acts.{has_lock, view_after}
use Rattle.ft_trace.specs.Addresses.{container_count}
use Rattle.ft_trace.specs.Holds.{held_unboxed, known_state}
use Rattle.ft_trace.specs.Pictures.{Represents}
use Rattle.std.specs.Prelude.{suc}
use Rattle.ft_trace.specs.Traces.{IsReachable}
use Rattle.ft_section.specs.Floors.{FindsSame, owner_named}
use Rattle.ft_section.proofs.FloorLogs.{tried_known, took_finds}
use Rattle.ft_section.proofs.locks.take_one.Goals as goal

pub returns-in-Ok-clause-took : goal.returns-in-Ok-clause-took
returns-in-Ok-clause-took c =
    let v = view c.args.pass.now in
    let o = c.args.o in
    let d = c.in-Ok.ensures.did in
    let w = view_after (Lock o 0 d.0) v in
    let free : has_lock o v.log ≡ false = sym (c.if-has.ensures) in
    let shape = c.requires.inside.0.1 in
    let low = subst (λ (k : Shape). o < container_count k) (sym shape) c.requires.container in
    let keeps = subst (KeepsOthers o v) d.1.1 c.in-Ok.ensures.keeps in
    let stands = subst (λ (k : Shape). Represents k.texts (held_unboxed o w) (known_state o w)) (sym shape) (subst (λ (z : View). Represents (shape_of c.args.bank.now).texts (held_unboxed o z) (known_state o z)) d.1.1 c.in-Ok.ensures.stands) in
    subst (TookLocks (at_one o) v) (sym d.1.1) (took_lock v o d.0 free low keeps stands)

pub returns-in-Err-clause-none : goal.returns-in-Err-clause-none
returns-in-Err-clause-none c =
    let v = view c.args.pass.now in
    let o = c.args.o in
    let d = c.in-Err.ensures.did in
    let free : has_lock o v.log ≡ false = sym (c.if-has.ensures) in
    let keeps = subst (KeepsOthers o v) d.1.1 c.in-Err.ensures.keeps in
    subst (TookLocks (λ p. 0) v) (sym d.1.1) (tried_lock v o (c.in-Err.owner + 1) d.0 free (λ e. absurd (omega (arith, e))) keeps)

pub returns-in-Err-clause-found : goal.returns-in-Err-clause-found
returns-in-Err-clause-found c =
    let d = c.in-Err.ensures.did in
    record { newer = []; snap = d.0; older = []; is = ap (λ v. v.log) d.1.1; other = c.in-Err.ensures.other.0 }

pub returns-in-Ok-clause-known : goal.returns-in-Ok-clause-known
returns-in-Ok-clause-known c has =
    let v = view c.args.pass.now in
    let d = c.in-Ok.ensures.did in
    tried_known v c.args.o 0 d.0 (sym (c.if-has.ensures)) (subst (λ (w : View). ∥ IsReachable w ∥₁) d.1.1 c.try_lock.new.pass.possible) has

pub returns-in-Ok-clause-finds : goal.returns-in-Ok-clause-finds
returns-in-Ok-clause-finds c =
    let v = view c.args.pass.now in
    let o = c.args.o in
    let d = c.in-Ok.ensures.did in
    let low = subst (λ (k : Shape). o < container_count k) (sym c.requires.inside.0.1) c.requires.container in
    subst (FindsSame v) (sym d.1.1) (took_finds v o d.0 (sym (c.if-has.ensures)) low (subst (λ (w : View). ∥ IsReachable w ∥₁) d.1.1 c.try_lock.new.pass.possible))

pub returns-in-Err-clause-known : goal.returns-in-Err-clause-known
returns-in-Err-clause-known c has =
    let v = view c.args.pass.now in
    let d = c.in-Err.ensures.did in
    let next : c.in-Err.owner + 1 ≡ suc c.in-Err.owner = omega arith in
    ap owner_named (sym next) ∙ tried_known v c.args.o (c.in-Err.owner + 1) d.0 (sym (c.if-has.ensures)) (subst (λ (w : View). ∥ IsReachable w ∥₁) d.1.1 c.try_lock.new.pass.possible) has
