use Rattle.std.proofs.Common.{◌≡◌, ◌<◌, ℕ, true, refl, inr, sym, ap, ◌∙◌, subst}
use Rattle.ft_model.specs.declared.call.Call.TheVariants as call
use Rattle.ft_model.specs.Worlds.{container_of}
use Rattle.ft_trace.specs.declared.Shape.{Shape}
use Rattle.ft_trace.specs.Acts.{has_lock}
use Rattle.ft_trace.specs.Addresses.{container_count}
use Rattle.ft_bank.specs.Passes.{shape_of, view}
use Rattle.ft_section.specs.declared.answers.Objects.TheVariants.{One}
use Rattle.ft_section.specs.Locking.{LocksWithin}
use Rattle.ft_section.specs.Ready.{IsWaiting}
use Rattle.ft_section.specs.LockTakings.{HasLocks, IsOf}
use Rattle.ft_section.specs.Trying.{HasTaken, WaitsFor}
use Rattle.ft_section.proofs.TriedSections.{let_gone}
use Rattle.ft_search.proofs.ReadMidst.{making_stands}
use Rattle.ft_iter.proofs.CursorEntries.{cursor-left, cursors-kept, making-moved}
use Rattle.ft_iter.proofs.cursors.try_next.Goals as goal

pub next_locked-reply-requires-clause-stands : goal.next_locked-reply-requires-clause-stands
next_locked-reply-requires-clause-stands c =
    let m = c.in-Have.ensures.making in
    let same = m.inside.0.1 in
    let o = container_of c.args.cursor.now in
    making_stands c.args.bank.now c.take_for.new.pass (shape_of c.args.bank.now).texts o m (ap (λ (k : Shape). k.texts) same)
    (subst (λ (k : Shape). o < container_count k) (sym same) c.requires.container) (subst (λ (z : ℕ). has_lock z (view c.take_for.new.pass).log ≡ true) c.container-container.ensures c.in-Have.ensures.has.0.0)

pub next_locked-reply-requires-clause-pass : goal.next_locked-reply-requires-clause-pass
next_locked-reply-requires-clause-pass c = c.in-Have.ensures.making.inside.0

pub next_locked-reply-requires-clause-locked : goal.next_locked-reply-requires-clause-locked
next_locked-reply-requires-clause-locked c = subst (λ (z : ℕ). has_lock z (view c.take_for.new.pass).log ≡ true) c.container-container.ensures c.in-Have.ensures.has.0.0

pub next_locked-reply-requires-clause-left : goal.next_locked-reply-requires-clause-left
next_locked-reply-requires-clause-left c = subst (λ (n : ℕ). 0 < n) (sym c.in-Have.ensures.locked.left) c.requires.left

pub next_locked-reply-requires-clause-cursor : goal.next_locked-reply-requires-clause-cursor
next_locked-reply-requires-clause-cursor c = c.in-Have.ensures.locked.cursors c.args.number ∙ c.requires.cursor

pub let_go-requires : goal.let_go-requires
let_go-requires c =
    let r = c.next_locked-reply.result in
    let e = c.next_locked-reply.ensures in
    making-moved c.args.bank.now c.take_for.new.pass c.next_locked-reply.new.pass (call.Next c.args.number) r.0 r.1.number c.args.number c.next_locked-reply.new.cursor c.in-Have.ensures.making e.pass e.sections e.answered

pub returns-in-Have-clause-may : goal.returns-in-Have-clause-may
returns-in-Have-clause-may c = c.let_go.ensures.may (One (container_of c.args.cursor.now))

pub returns-in-Have-clause-cursor : goal.returns-in-Have-clause-cursor
returns-in-Have-clause-cursor c =
    let r = c.next_locked-reply.result in
    c.let_go.ensures.locked.cursors c.args.number
    ∙ cursor-left (view c.take_for.new.pass) (view c.next_locked-reply.new.pass) (call.Next c.args.number) r.0 r.1.number c.args.number c.next_locked-reply.new.cursor c.next_locked-reply.ensures.answered

pub returns-in-Have-clause-moved : goal.returns-in-Have-clause-moved
returns-in-Have-clause-moved c = (
  record {
    before = view c.take_for.new.pass;
    took = c.in-Have.ensures.locked;
    within = subst (λ (z : ℕ). LocksWithin (One z) (view c.args.pass.now) (view c.take_for.new.pass)) c.container-container.ensures c.in-Have.ensures.within;
    locks = subst (λ (z : ℕ). HasLocks (view c.take_for.new.pass) (One z)) c.container-container.ensures c.in-Have.ensures.has.0;
    after = view c.next_locked-reply.new.pass;
    did = (c.next_locked-reply.new.cursor, refl, c.next_locked-reply.ensures.over, c.next_locked-reply.ensures.answered, c.next_locked-reply.ensures.wrote);
    gone = c.let_go.ensures.locked;
    owners = c.let_go.ensures.owners;
  },
  returns-in-Have-clause-cursor c,
)

pub returns-in-NotYet-clause-may : goal.returns-in-NotYet-clause-may
returns-in-NotYet-clause-may c = inr (subst (λ (z : ℕ). IsWaiting c.args.bank.now c.take_for.new.pass (One z)) c.container-container.ensures c.in-NotYet.ensures.waiting.waits)

pub returns-in-NotYet-clause-cursor : goal.returns-in-NotYet-clause-cursor
returns-in-NotYet-clause-cursor c = c.in-NotYet.ensures.locked.cursors c.args.number ∙ c.requires.cursor

pub returns-in-NotYet-clause-moved : goal.returns-in-NotYet-clause-moved
returns-in-NotYet-clause-moved c = ((c.in-NotYet.ensures.locked, subst (λ (z : ℕ). IsOf c.in-NotYet.container (One z)) c.container-container.ensures c.in-NotYet.ensures.found.0, c.in-NotYet.ensures.found.1), refl)

pub returns-in-Have-clause-others : goal.returns-in-Have-clause-others
returns-in-Have-clause-others c =
    let r = c.next_locked-reply.result in
    cursors-kept (view c.args.pass.now) (view c.take_for.new.pass) (view c.next_locked-reply.new.pass) (view c.let_go.new.pass) (call.Next c.args.number) r.0 r.1.number c.args.number c.next_locked-reply.new.cursor
    c.in-Have.ensures.locked c.next_locked-reply.ensures.answered c.let_go.ensures.locked

pub returns-in-NotYet-clause-others : goal.returns-in-NotYet-clause-others
returns-in-NotYet-clause-others c other differs = c.in-NotYet.ensures.locked.cursors other

pub returns-in-Have-clause-sections : goal.returns-in-Have-clause-sections
returns-in-Have-clause-sections c = let_gone c.args.bank.now c.args.pass.now c.take_for.new.pass c.next_locked-reply.new.pass c.let_go.new.pass (subst (λ (z : ℕ). HasTaken (One z) c.args.pass.now c.take_for.new.pass) c.container-container.ensures c.in-Have.ensures.took) c.next_locked-reply.ensures.sections c.let_go.ensures.stack c.let_go.ensures.may c.let_go.ensures.resume

pub returns-in-NotYet-clause-sections : goal.returns-in-NotYet-clause-sections
returns-in-NotYet-clause-sections c = subst (λ (z : ℕ). WaitsFor c.args.bank.now (One z) c.in-NotYet.container c.in-NotYet.owner c.args.pass.now c.take_for.new.pass) c.container-container.ensures c.in-NotYet.ensures.waiting
