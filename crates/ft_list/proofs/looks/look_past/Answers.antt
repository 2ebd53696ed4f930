use Rattle.std.proofs.Common.{◌≡◌, ◌≢◌, ℕ, suc, List, [], ◌∷◌, sym, ap, ◌∙◌, subst, arith}
use Rattle.ft_trace.specs.declared.Act.{Act}
use Rattle.ft_trace.specs.declared.Act.TheVariants.{ReadRoot, ReadCounter}
use Rattle.ft_bank.specs.Passes.{shape_of}
use Rattle.ft_bank.specs.Series.{DidAll}
use Rattle.ft_bank.specs.TableNames.{table_id}
use Rattle.ft_search.proofs.LookSteps.{looked_by}
use Rattle.ft_search.proofs.Running.{did_trans}
use Rattle.ft_list.proofs.LookRounds.{past_closes, fresh_root}
use Rattle.ft_list.proofs.looks.look_past.Goals as goal

pub returns-then-again-root-clause-ended : goal.returns-then-again-root-clause-ended
returns-then-again-root-clause-ended c =
    let a = c.args in
    let t = table_id a.table in
    let part : List Act = ReadCounter c.stamp-number.result ∷ [] in
    let r = c.read_root-again in
    let did = did_trans (ReadRoot a.o r.result ∷ []) part a.pass.now c.stamp-number.new.pass r.new.pass c.stamp-number.ensures.did r.ensures.did in
    let ne : r.result ≢ suc t = λ e. c.if-again-root.true (e ∙ sym c.requires.root) in
    let last = c.requires.last.1 ∙ ap (λ (z : ℕ). ReadRoot a.o z ∷ c.requires.last.0) c.requires.root in (
      part,
      ((tt, tt), looked_by (ReadRoot a.o r.result ∷ part) a.pass.now r.new.pass tt did),
      did,
      ne,
      fresh_root (shape_of a.bank.now) a.o (suc t) r.result a.pass.now c.stamp-number.new.pass part c.requires.last.0 tt c.stamp-number.ensures.did last ne r.ensures.table r.ensures.changed,
    )

pub returns-clause-ended : goal.returns-clause-ended
returns-clause-ended c =
    let a = c.args in
    let t = table_id a.table in
    let n = c.stamp-number.result in
    let part : List Act = ReadCounter n ∷ [] in
    let r = c.read_root-again in
    let same : r.result ≡ suc t = omega (arith, c.if-again-root.false, c.requires.root) in
    let did = did_trans (ReadRoot a.o r.result ∷ []) part a.pass.now c.stamp-number.new.pass r.new.pass c.stamp-number.ensures.did r.ensures.did in (
      part,
      ((tt, tt), looked_by (ReadRoot a.o r.result ∷ part) a.pass.now r.new.pass tt did),
      subst (λ (z : ℕ). DidAll (ReadRoot a.o z ∷ part) a.pass.now r.new.pass) same did,
      past_closes (shape_of a.bank.now) a.o t a.index n c.requires.index,
    )
