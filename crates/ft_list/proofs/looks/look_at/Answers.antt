use Rattle.std.proofs.Common.{◌≡◌, ◌≢◌, ◌⊎◌, ℕ, suc, ◌%◌, ◌<◌, List, [], ◌∷◌, inl, inr, sym, ap, ◌∙◌, subst}
use Rattle.ft_trace.specs.declared.Act.{Act}
use Rattle.ft_trace.specs.declared.Act.TheVariants.{ReadRoot}
use Rattle.ft_trace.specs.Acts.{announces}
use Rattle.ft_bank.specs.Passes.{shape_of, view}
use Rattle.ft_bank.specs.Series.{DidAll}
use Rattle.ft_bank.specs.TableNames.{table_id}
use Rattle.ft_search.specs.LookSteps.{InRound}
use Rattle.ft_search.proofs.LookSteps.{looked_by, looked_then, steps_announce}
use Rattle.ft_search.proofs.Running.{did_trans, did_log}
use Rattle.ft_list.proofs.LookRounds.{item_closes, item_stops, fresh_root}
use Rattle.ft_list.proofs.looks.look_at.Goals as goal
use Rattle.ft_list.proofs.looks.look_at.Goals.{After-read_root-again, then-seen-via-then-seen, then-seen-via-else-seen+then-seen-ne0}

pub see_item-read-requires-clause-named : goal.see_item-read-requires-clause-named
see_item-read-requires-clause-named c = record { walk = []; rest = c.requires.last.0; is = c.requires.last.1 ∙ ap (λ (z : ℕ). ReadRoot c.args.o z ∷ c.requires.last.0) c.requires.root; online = tt }

pub read_root-again-requires-clause-online : goal.read_root-again-requires-clause-online
read_root-again-requires-clause-online c =
    let h = c.see_item-read.ensures.looks in
    subst (λ (z : ℕ). 0 < z)
    (sym (ap announces (did_log h.0 c.args.pass.now c.see_item-read.new.pass h.2) ∙ steps_announce h.0 (view c.args.pass.now).log h.1.0.0)) c.requires.online

-- what was done until the root was read again
round_on : (c : After-read_root-again) (part : List Act) → InRound part c.args.pass.now c.see_item-read.new.pass → InRound part c.args.pass.now c.read_root-again.new.pass
round_on c part h =
    let r = c.read_root-again in
    (h.0, looked_then (view c.args.pass.now) (view c.see_item-read.new.pass) (view r.new.pass) h.1 (looked_by (ReadRoot c.args.o r.result ∷ []) c.see_item-read.new.pass r.new.pass tt r.ensures.did))

pub returns-then-again-root-clause-ended : goal.returns-then-again-root-clause-ended
returns-then-again-root-clause-ended c =
    let a = c.args in
    let t = table_id a.table in
    let h = c.see_item-read.ensures.looks in
    let r = c.read_root-again in
    let ne : r.result ≢ suc t = λ e. c.if-again-root.true (e ∙ sym c.requires.root) in
    let last = c.requires.last.1 ∙ ap (λ (z : ℕ). ReadRoot a.o z ∷ c.requires.last.0) c.requires.root in (
      h.0,
      round_on (goal.at.returns-then-again-root-clause-ended c).After-read_root-again h.0 h.1,
      did_trans (ReadRoot a.o r.result ∷ []) h.0 a.pass.now c.see_item-read.new.pass r.new.pass h.2 r.ensures.did,
      ne,
      fresh_root (shape_of a.bank.now) a.o (suc t) r.result a.pass.now c.see_item-read.new.pass h.0 c.requires.last.0 h.1.0.1 h.2 last ne r.ensures.table r.ensures.changed,
    )

pub returns-in-Stopped-clause-ended : goal.returns-in-Stopped-clause-ended
returns-in-Stopped-clause-ended c =
    let a = c.args in
    let t = table_id a.table in
    let h = c.in-Stopped.ensures.looks in
    let r = c.read_root-again in
    let same : r.result ≡ suc t = c.if-again-root.false ∙ c.requires.root in (
      h.0,
      round_on (goal.at.returns-in-Stopped-clause-ended c).After-read_root-again h.0 h.1,
      subst (λ (z : ℕ). DidAll (ReadRoot a.o z ∷ h.0) a.pass.now r.new.pass) same (did_trans (ReadRoot a.o r.result ∷ []) h.0 a.pass.now c.see_item-read.new.pass r.new.pass h.2 r.ensures.did),
      h.3,
    )

pub returns-then-seen-clause-ended : goal.returns-then-seen-clause-ended
returns-then-seen-clause-ended c =
    let a = c.args in
    let t = table_id a.table in
    let seen = c.in-Whole.whole in
    let h = c.in-Whole.ensures.looks in
    let r = c.read_root-again in
    let same : r.result ≡ suc t = c.if-again-root.false ∙ c.requires.root in
    let why : (seen.opened % 2 ≢ 0) ⊎ (seen.closed ≢ seen.opened) = elim c.then-seen.branch [ then-seen-via-then-seen w ↦ inr w.if-seen.true | then-seen-via-else-seen+then-seen-ne0 w ↦ inl w.if-seen-ne0.true ] in (
      h.0,
      round_on (goal.at.returns-then-seen-clause-ended c).After-read_root-again h.0 h.1,
      subst (λ (z : ℕ). DidAll (ReadRoot a.o z ∷ h.0) a.pass.now r.new.pass) same (did_trans (ReadRoot a.o r.result ∷ []) h.0 a.pass.now c.see_item-read.new.pass r.new.pass h.2 r.ensures.did),
      item_stops (shape_of a.bank.now) a.o t a.index c.requires.index seen h.0 h.3 why,
    )

pub returns-clause-ended : goal.returns-clause-ended
returns-clause-ended c =
    let a = c.args in
    let t = table_id a.table in
    let seen = c.in-Whole.whole in
    let h = c.in-Whole.ensures.looks in
    let r = c.read_root-again in
    let same : r.result ≡ suc t = c.if-again-root.false ∙ c.requires.root in (
      h.0,
      round_on (goal.at.returns-clause-ended c).After-read_root-again h.0 h.1,
      subst (λ (z : ℕ). DidAll (ReadRoot a.o z ∷ h.0) a.pass.now r.new.pass) same (did_trans (ReadRoot a.o r.result ∷ []) h.0 a.pass.now c.see_item-read.new.pass r.new.pass h.2 r.ensures.did),
      item_closes (shape_of a.bank.now) a.o t a.index c.requires.index seen h.0 h.3 c.if-seen.false c.if-seen-ne0.false,
    )
