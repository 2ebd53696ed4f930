use Rattle.std.proofs.Common.{◌≤◌, true≢false, [], ◌∷◌, refl, sym, ap, ◌∙◌, subst}
use Rattle.ft_trace.specs.declared.Shape.{Shape}
use Rattle.ft_trace.specs.declared.View.{View}
use Rattle.ft_trace.specs.declared.Act.TheVariants.{ReadHeader, GiveTable, RaiseCount}
use Rattle.ft_trace.specs.Addresses.{IsTableName}
use Rattle.ft_trace.specs.Acts.{clear, view_after}
use Rattle.ft_bank.specs.Passes.{view, shape_of}
use Rattle.ft_bank.specs.TableNames.{table_id}
use Rattle.ft_bank.proofs.TableAddresses.{named}
use Rattle.ft_qsbr.specs.Collecting.{IsPast}
use Rattle.ft_qsbr.proofs.Sweeps.{kept_one, given_one}
use Rattle.ft_qsbr.proofs.sweeping.give_past.Goals as ask

pub returns-then-not-is_past-clause-gave : ask.returns-then-not-is_past-clause-gave
returns-then-not-is_past-clause-gave c = (ReadHeader (table_id c.args.table) c.goal-goal.result ∷ [], c.goal-goal.ensures.did, refl, tt)

pub returns-then-not-is_past-clause-swept : ask.returns-then-not-is_past-clause-swept
returns-then-not-is_past-clause-swept c =
    let t = table_id c.args.table in
    kept_one (shape_of c.args.bank.now) c.args.least c.args.table (view c.args.pass.now) (view c.goal-goal.new.pass) c.requires.pass.1 c.requires.table c.requires.kept c.goal-goal.result c.goal-goal.ensures.did.1 c.goal-goal.ensures.keeps
    (λ past. true≢false (sym (c.is_past.ensures.1 (subst (IsPast c.args.least) (sym c.goal-goal.ensures.is) past)) ∙ c.if-not-is_past.true))

pub give_retired-requires-clause-clear : ask.give_retired-requires-clause-clear
give_retired-requires-clause-clear c p some_one low =
    let t = table_id c.args.table in
    let v = view c.args.pass.now in
    let table : IsTableName v.shape t = subst (λ (z : Shape). IsTableName z t) (sym c.requires.pass.1) (named (shape_of c.args.bank.now) c.args.table c.requires.table) in
    let past = subst (IsPast c.args.least) c.goal-goal.ensures.is (c.is_past.ensures.0 c.if-not-is_past.false) in
    ap (λ (u : View). clear t p u.log) c.goal-goal.ensures.did.1 ∙ c.requires.seen t p table c.requires.kept past some_one (subst (λ (z : Shape). p ≤ z.passes) (sym c.requires.pass.1) low)

pub returns-clause-gave : ask.returns-clause-gave
returns-clause-gave c =
    let t = table_id c.args.table in
    let d = c.goal-goal.ensures.did in
    let e = c.give_retired.ensures.did in (
      RaiseCount c.args.table.class e.0 ∷ GiveTable t ∷ ReadHeader t c.goal-goal.result ∷ [],
      (e.1.0 ∙ d.0, e.1.1 ∙ ap (λ (u : View). view_after (RaiseCount c.args.table.class e.0) (view_after (GiveTable t) u)) d.1, e.1.2 ∙ d.2),
      refl,
      tt,
    )

pub returns-clause-swept : ask.returns-clause-swept
returns-clause-swept c =
    let e = c.give_retired.ensures.did in
    let past = subst (IsPast c.args.least) c.goal-goal.ensures.is (c.is_past.ensures.0 c.if-not-is_past.false) in
    given_one (shape_of c.args.bank.now) c.args.least c.args.table (view c.args.pass.now) (view c.give_retired.new.pass) c.requires.pass.1 c.requires.table c.requires.kept (view c.goal-goal.new.pass) c.goal-goal.result e.0 c.goal-goal.ensures.did.1 e.1.1 c.goal-goal.ensures.keeps c.give_retired.ensures.keeps c.give_retired.ensures.given c.give_retired.ensures.idle c.give_retired.ensures.owes past
