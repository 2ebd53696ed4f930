use Rattle.std.proofs.Common.{◌<◌, ℕ, refl, inr, sym, ap, ◌∙◌, subst}
use Rattle.ft_trace.specs.declared.Shape.{Shape}
use Rattle.ft_trace.specs.Addresses.{container_count}
use Rattle.ft_bank.specs.Passes.{shape_of, view}
use Rattle.ft_section.specs.declared.answers.Objects.TheVariants.{One}
use Rattle.ft_section.proofs.TriedSections.{let_gone}
use Rattle.ft_search.proofs.ReadMidst.{making_stands}
use Rattle.ft_iter.specs.CursorCalls.{iter_call}
use Rattle.ft_iter.proofs.CursorEntries.{cursor-left, cursors-kept, making-moved}
use Rattle.ft_iter.proofs.cursors.try_iter.Goals as goal

pub iter_locked-reply-requires-clause-stands : goal.iter_locked-reply-requires-clause-stands
iter_locked-reply-requires-clause-stands c =
    let m = c.in-Have.ensures.making in
    let same = m.inside.0.1 in
    let o = c.args.o in
    making_stands c.args.bank.now c.take_for.new.pass (shape_of c.args.bank.now).texts o m (ap (λ (k : Shape). k.texts) same)
    (subst (λ (k : Shape). o < container_count k) (sym same) c.requires.container) c.in-Have.ensures.has.0.0

pub iter_locked-reply-requires-clause-pass : goal.iter_locked-reply-requires-clause-pass
iter_locked-reply-requires-clause-pass c = c.in-Have.ensures.making.inside.0

pub iter_locked-reply-requires-clause-locked : goal.iter_locked-reply-requires-clause-locked
iter_locked-reply-requires-clause-locked c = c.in-Have.ensures.has.0.0

pub iter_locked-reply-requires-clause-left : goal.iter_locked-reply-requires-clause-left
iter_locked-reply-requires-clause-left c = subst (λ (n : ℕ). 0 < n) (sym c.in-Have.ensures.locked.left) c.requires.left

pub let_go-requires : goal.let_go-requires
let_go-requires c =
    let r = c.iter_locked-reply.result in
    let e = c.iter_locked-reply.ensures in
    making-moved c.args.bank.now c.take_for.new.pass c.iter_locked-reply.new.pass (iter_call c.args.kind c.args.o c.args.number) r.0 r.1.number c.args.number e.answered.0 c.in-Have.ensures.making e.pass e.sections e.answered.3

pub returns-in-Have-clause-may : goal.returns-in-Have-clause-may
returns-in-Have-clause-may c = c.let_go.ensures.may (One (c.args.o))

pub returns-in-Have-clause-moved : goal.returns-in-Have-clause-moved
returns-in-Have-clause-moved c =
    let r = c.iter_locked-reply.result in
    let a = c.iter_locked-reply.ensures.answered in (
      record {
        before = view c.take_for.new.pass;
        took = c.in-Have.ensures.locked;
        within = c.in-Have.ensures.within;
        locks = c.in-Have.ensures.has.0;
        after = view c.iter_locked-reply.new.pass;
        did = (a.0, a.1, a.2, a.3, c.iter_locked-reply.ensures.wrote);
        gone = c.let_go.ensures.locked;
        owners = c.let_go.ensures.owners;
      },
      c.let_go.ensures.locked.cursors c.args.number
          ∙ (cursor-left (view c.take_for.new.pass) (view c.iter_locked-reply.new.pass) (iter_call c.args.kind c.args.o c.args.number) r.0 r.1.number c.args.number a.0 a.3 ∙ sym a.1),
    )

pub returns-in-NotYet-clause-may : goal.returns-in-NotYet-clause-may
returns-in-NotYet-clause-may c = inr c.in-NotYet.ensures.waiting.waits

pub returns-in-NotYet-clause-moved : goal.returns-in-NotYet-clause-moved
returns-in-NotYet-clause-moved c = ((c.in-NotYet.ensures.locked, c.in-NotYet.ensures.found.0, c.in-NotYet.ensures.found.1), refl)

pub returns-in-Have-clause-others : goal.returns-in-Have-clause-others
returns-in-Have-clause-others c =
    let r = c.iter_locked-reply.result in
    let a = c.iter_locked-reply.ensures.answered in
    cursors-kept (view c.args.pass.now) (view c.take_for.new.pass) (view c.iter_locked-reply.new.pass) (view c.let_go.new.pass) (iter_call c.args.kind c.args.o c.args.number) r.0 r.1.number c.args.number a.0
    c.in-Have.ensures.locked a.3 c.let_go.ensures.locked

pub returns-in-NotYet-clause-others : goal.returns-in-NotYet-clause-others
returns-in-NotYet-clause-others c other differs = c.in-NotYet.ensures.locked.cursors other

pub returns-in-Have-clause-sections : goal.returns-in-Have-clause-sections
returns-in-Have-clause-sections c = let_gone c.args.bank.now c.args.pass.now c.take_for.new.pass c.iter_locked-reply.new.pass c.let_go.new.pass c.in-Have.ensures.took c.iter_locked-reply.ensures.sections c.let_go.ensures.stack c.let_go.ensures.may c.let_go.ensures.resume

pub returns-in-NotYet-clause-sections : goal.returns-in-NotYet-clause-sections
returns-in-NotYet-clause-sections c = c.in-NotYet.ensures.waiting
